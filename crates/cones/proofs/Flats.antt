-- Vectors on which all lines are 0 are taken off.
use Rattle.std.proofs.Common.{◌≡◌, sym, ap, subst, ◌∙◌, arith, List, [], ◌∷◌, ◌++◌, ℤ, pos, ◌+ℤ◌, ◌-ℤ◌, ◌*ℤ◌, ◌≤ℤ◌, ◌<ℤ◌}
use Rattle.std.specs.Prelude.{neg_ℤ}
use Rattle.std.specs.List.{AllByRecursion}
use Rattle.std.proofs.lemmas.Int.{ints, by_lt_z}
use Rattle.std.proofs.Math.IntN.{zero-*ℤ}
use Rattle.whole_numbers.proofs.Ring.{ring, one-*ℤ, *ℤ_assoc, *ℤ-positive}
use Rattle.whole_numbers.specs.Dot.{dot}
use Rattle.cones.specs.Cones.{extremes}
use Rattle.cones.specs.Spans.{Values, IsSpanned, IsIndependent, IsPointed, AreAtMost, IsAboveAt}
use Rattle.cones.specs.Laws.{AreFlat}
use Rattle.cones.proofs.Numbers.{times_zero, product_not_above}
use Rattle.cones.proofs.Spanning.{sum_spanned}
use Rattle.cones.proofs.Pushing.{extremes-above}

-- the values without the flat vectors: where these are 0 they are the same up to a positive factor
record IsPeeled (flat basis : List (List ℤ)) (w : Values) : Type 0 where
  values : Values
  factor : ℤ
  positive : pos 0 <ℤ factor
  spanned : IsSpanned basis values
  same : (l : List ℤ) → AllByRecursion (λ v. dot l v ≡ pos 0) flat → values l ≡ factor *ℤ w l

peeled : (flat basis : List (List ℤ)) (w : Values) → IsSpanned (flat ++ basis) w → IsPeeled flat basis w
peeled [] basis w s = record { values = w; factor = pos 1; positive = omega (arith, ints); spanned = s; same = λ l h. sym (one-*ℤ (w l)) }
peeled (v ∷ flat) basis w s = whole (peeled flat basis (λ l. s.0 *ℤ w l -ℤ s.1 *ℤ dot l v) s.3)
  where
    off : (k m c x y : ℤ) → y ≡ pos 0 → k *ℤ (m *ℤ x -ℤ c *ℤ y) ≡ k *ℤ m *ℤ x
    off k m c x y e = ap (λ z. k *ℤ (m *ℤ x -ℤ z)) (ap (λ z. c *ℤ z) e ∙ times_zero c) ∙ plain k (m *ℤ x) ∙ sym (*ℤ_assoc k m x)
      where
        plain : (k z : ℤ) → k *ℤ (z -ℤ pos 0) ≡ k *ℤ z
        plain k z = ap (λ y. k *ℤ y) (less z)
          where
            less : (z : ℤ) → z -ℤ pos 0 ≡ z
            less z = omega (arith, ints)

    whole : IsPeeled flat basis (λ l. s.0 *ℤ w l -ℤ s.1 *ℤ dot l v) → IsPeeled (v ∷ flat) basis w
    whole r =
        by_lt_z (pos 0) s.0
        (λ p. record {
          values = r.values;
          factor = r.factor *ℤ s.0;
          positive = *ℤ-positive r.factor s.0 r.positive p;
          spanned = r.spanned;
          same = λ l h. r.same l h.1 ∙ off r.factor s.0 s.1 (w l) (dot l v) h.0;
        })
        (λ p. by_lt_z s.0 (pos 0)
        (λ q. record {
          values = λ l. neg_ℤ (pos 1) *ℤ r.values l +ℤ pos 0 *ℤ r.values l;
          factor = r.factor *ℤ neg_ℤ s.0;
          positive = *ℤ-positive r.factor (neg_ℤ s.0) r.positive (omega (arith, ints));
          spanned = sum_spanned basis r.values r.values (neg_ℤ (pos 1)) (pos 0) r.spanned r.spanned;
          same = λ l h. turned (r.values l) ∙ ap neg_ℤ (r.same l h.1 ∙ off r.factor s.0 s.1 (w l) (dot l v) h.0) ∙ inside r.factor s.0 (w l);
        })
        (λ q. let none : s.0 ≡ pos 0 = omega (arith, ints) in absurd (s.2 none)))
      where
        turned : (x : ℤ) → neg_ℤ (pos 1) *ℤ x +ℤ pos 0 *ℤ x ≡ neg_ℤ x
        turned x = without (neg_ℤ (pos 1) *ℤ x) (pos 0 *ℤ x) (zero-*ℤ x) ∙ minus x
          where
            without : (x y : ℤ) → y ≡ pos 0 → x +ℤ y ≡ x
            without x y e = omega (arith, ints)

            minus : (x : ℤ) → neg_ℤ (pos 1) *ℤ x ≡ neg_ℤ x
            minus x = omega (arith, ints)

        inside : (k m x : ℤ) → neg_ℤ (k *ℤ m *ℤ x) ≡ k *ℤ neg_ℤ m *ℤ x
        inside k m x = simp ring (omega (arith, ints))

pub extremes-above_flat : (lines flat basis : List (List ℤ)) → IsIndependent basis → IsPointed lines basis → AreFlat flat lines → (z : List ℤ) (w : Values) → AllByRecursion (λ v. dot z v ≡ pos 0) flat
    → IsSpanned (flat ++ basis) w → AreAtMost lines w → pos 0 <ℤ w z → IsAboveAt z (extremes lines lines basis)
extremes-above_flat lines flat basis i p h z w k s a b = whole (peeled flat basis w s)
  where
    weak : (x : ℤ) → pos 0 <ℤ x → pos 0 ≤ℤ x
    weak x h = omega (arith, ints)

    whole : IsPeeled flat basis w → IsAboveAt z (extremes lines lines basis)
    whole r = extremes-above lines basis i p z r.values r.spanned (each lines h a) (subst (λ x. pos 0 <ℤ x) (sym (r.same z k)) (*ℤ-positive r.factor (w z) r.positive b))
      where
        each : (ls : List (List ℤ)) → AreFlat flat ls → AreAtMost ls w → AreAtMost ls r.values
        each [] f g = tt
        each (l ∷ ls) f g = (subst (λ x. x ≤ℤ pos 0) (sym (r.same l f.0)) (product_not_above r.factor (w l) (weak r.factor r.positive) g.0), each ls f.1 g.1)
