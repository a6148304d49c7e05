-- What is left of a basis where a line is made 0.
use Rattle.std.proofs.Common.{◌≡◌, ◌≢◌, suc, Bool, true, false, cond, refl, sym, ap, ◌∙◌, arith, List, [], ◌∷◌, ℤ, pos, negsuc, ◌+ℤ◌, ◌-ℤ◌, ◌*ℤ◌, ◌<ℤ◌}
use Rattle.std.specs.Prelude.{neg_ℤ, unsigned_abs}
use Rattle.std.specs.List.{AllByRecursion}
use Rattle.std.specs.Ordering.{int_eq}
use Rattle.std.proofs.lemmas.Int.{ints}
use Rattle.std.proofs.lemmas.Bool.{false≢true}
use Rattle.std.proofs.lemmas.Bool.Decides.{Decides-int_eq}
use Rattle.std.proofs.Math.IntN.{*ℤ_comm, zero-*ℤ}
use Rattle.whole_numbers.proofs.Ring.{ring, *ℤ_assoc}
use Rattle.cones.specs.Vectors.{combination}
use Rattle.whole_numbers.specs.Dot.{dot}
use Rattle.cones.specs.Cones.{Cleared, Kept, Given, along_sign, projection, clearing, clearing_with}
use Rattle.cones.specs.Spans.{Values, IsSpanned, SeesFirst, IsIndependent}
use Rattle.cones.proofs.Numbers.{times_zero, vanishes, vanishes_above, not_zero-*ℤ, above_not_zero}
use Rattle.cones.proofs.Dots.{dot-combined, lowest-is, IsLowestOf}
use Rattle.cones.proofs.Spanning.{same_spanned, sum_spanned, scaled_spanned, first_spanned, behind_spanned, each_spanned, vanishes_on}

-- ---- a vector that is moved

-- up to a positive factor a sum of the vector, not 0 times, and of the pivot
pub record IsMoved (line pivot v made : List ℤ) : Type 0 where
  pub factor : ℤ
  pub positive : pos 0 <ℤ factor
  pub own : ℤ
  pub some : own ≢ pos 0
  pub by : ℤ
  pub is : (l : List ℤ) → factor *ℤ dot l made ≡ own *ℤ dot l v +ℤ by *ℤ dot l pivot
  pub zero_there : dot line made ≡ pos 0

size_not_zero : (p : ℤ) → p ≢ pos 0 → pos (unsigned_abs p) ≢ pos 0
size_not_zero (pos n) h e = h e
size_not_zero (negsuc n) h e = clash (pos (suc n)) (omega (arith, ints)) e
  where
    clash : (z : ℤ) → pos 0 <ℤ z → z ≡ pos 0 → ⊥
    clash z p e = omega (arith, ints)

balanced : (p q : ℤ) → pos (unsigned_abs p) *ℤ q +ℤ along_sign p (neg_ℤ q) *ℤ p ≡ pos 0
balanced (pos n) q = step (pos n) q
  where
    step : (p q : ℤ) → p *ℤ q +ℤ neg_ℤ q *ℤ p ≡ pos 0
    step p q = simp ring (omega (arith, ints))
balanced (negsuc n) q = step (pos (suc n)) q
  where
    step : (p q : ℤ) → p *ℤ q +ℤ neg_ℤ (neg_ℤ q) *ℤ neg_ℤ p ≡ pos 0
    step p q = simp ring (omega (arith, ints))

pub projection-is : (line pivot v : List ℤ) → dot line pivot ≢ pos 0 → IsMoved line pivot v (projection line pivot v)
projection-is line pivot v n =
    whole (lowest-is (combination (pos (unsigned_abs (dot line pivot))) v (along_sign (dot line pivot) (neg_ℤ (dot line v))) pivot))
  where
    own : ℤ
    own = pos (unsigned_abs (dot line pivot))

    by : ℤ
    by = along_sign (dot line pivot) (neg_ℤ (dot line v))

    whole : IsLowestOf (combination own v by pivot) (projection line pivot v) → IsMoved line pivot v (projection line pivot v)
    whole low = record {
      factor = low.factor;
      positive = low.positive;
      own = own;
      some = size_not_zero (dot line pivot) n;
      by = by;
      is = λ l. low.is l ∙ dot-combined l own v by pivot;
      zero_there = vanishes_above low.factor (dot line (projection line pivot v)) low.positive (low.is line ∙ dot-combined line own v by pivot ∙ balanced (dot line pivot) (dot line v));
    }

moved_spanned : (line pivot v made : List ℤ) (vs : List (List ℤ)) → IsMoved line pivot v made → IsSpanned vs (λ l. dot l pivot) → IsSpanned (v ∷ vs) (λ l. dot l made)
moved_spanned line pivot v made vs m h =
    scaled_spanned (v ∷ vs) (λ l. dot l made) m.factor (above_not_zero m.factor m.positive)
    (same_spanned (v ∷ vs) (λ l. m.own *ℤ dot l v +ℤ m.by *ℤ dot l pivot) (λ l. m.factor *ℤ dot l made) (λ l. sym (m.is l))
    (sum_spanned (v ∷ vs) (λ l. dot l v) (λ l. dot l pivot) m.own m.by (first_spanned v vs) (behind_spanned v vs (λ l. dot l pivot) h)))

-- ---- a basis

-- the rest is what of the span is 0 on the line
pub record IsGivenUp (line : List ℤ) (basis : List (List ℤ)) (pivot : List ℤ) (rest : List (List ℤ)) : Type 0 where
  pub some : dot line pivot ≢ pos 0
  pub own : IsSpanned basis (λ l. dot l pivot)
  pub zero_there : AllByRecursion (λ v. dot line v ≡ pos 0) rest
  pub inside : AllByRecursion (λ v. IsSpanned basis (λ l. dot l v)) rest
  pub all : (f : Values) → IsSpanned basis f → f line ≡ pos 0 → IsSpanned rest f
  pub independent : IsIndependent basis → IsIndependent rest

abbrev pub IsClearing : List ℤ → List (List ℤ) → Cleared → Type 0
IsClearing line basis Kept = AllByRecursion (λ v. dot line v ≡ pos 0) basis
IsClearing line basis (Given pivot rest) = IsGivenUp line basis pivot rest

each_behind : (v : List ℤ) (vs us : List (List ℤ)) → AllByRecursion (λ u. IsSpanned vs (λ l. dot l u)) us → AllByRecursion (λ u. IsSpanned (v ∷ vs) (λ l. dot l u)) us
each_behind v vs [] h = tt
each_behind v vs (u ∷ us) h = (behind_spanned v vs (λ l. dot l u) h.0, each_behind v vs us h.1)

pub each_vanishes : (line : List ℤ) (vs us : List (List ℤ)) → AllByRecursion (λ v. dot line v ≡ pos 0) vs → AllByRecursion (λ u. IsSpanned vs (λ l. dot l u)) us → AllByRecursion (λ u. dot line u ≡ pos 0) us
each_vanishes line vs [] e h = tt
each_vanishes line vs (u ∷ us) e h = (vanishes_on vs (λ l. dot l u) line e h.0, each_vanishes line vs us e h.1)

-- the first vector on which the line is not 0, from the end
first_given : (line v : List ℤ) (vs : List (List ℤ)) → dot line v ≢ pos 0 → AllByRecursion (λ u. dot line u ≡ pos 0) vs → IsGivenUp line (v ∷ vs) v vs
first_given line v vs n h = record {
  some = n;
  own = first_spanned v vs;
  zero_there = h;
  inside = each_behind v vs vs (each_spanned vs);
  all = all;
  independent = λ i. i.1;
}
  where
    apart : (x y : ℤ) → x -ℤ y ≡ pos 0 → x ≡ pos 0 → y ≡ pos 0
    apart x y e f = omega (arith, ints)

    alone : (x y : ℤ) → y ≡ pos 0 → x -ℤ y ≡ x
    alone x y e = omega (arith, ints)

    all : (f : Values) → IsSpanned (v ∷ vs) f → f line ≡ pos 0 → IsSpanned vs f
    all f s e =
        scaled_spanned vs f s.0 s.2
        (same_spanned vs (λ l. s.0 *ℤ f l -ℤ s.1 *ℤ dot l v) (λ l. s.0 *ℤ f l) (λ l. alone (s.0 *ℤ f l) (s.1 *ℤ dot l v) (none l)) s.3)
      where
        product_zero : s.1 *ℤ dot line v ≡ pos 0
        product_zero =
            apart (s.0 *ℤ f line) (s.1 *ℤ dot line v) (vanishes_on vs (λ l. s.0 *ℤ f l -ℤ s.1 *ℤ dot l v) line h s.3) (ap (λ z. s.0 *ℤ z) e ∙ times_zero s.0)

        none : (l : List ℤ) → s.1 *ℤ dot l v ≡ pos 0
        none l = ap (λ c. c *ℤ dot l v) (vanishes (dot line v) s.1 n (*ℤ_comm (dot line v) s.1 ∙ product_zero)) ∙ zero-*ℤ (dot l v)

-- a vector before one that is given up
next_given : (line v : List ℤ) (vs : List (List ℤ)) (pivot : List ℤ) (rest : List (List ℤ)) (made : List ℤ) → IsGivenUp line vs pivot rest → IsMoved line pivot v made
    → IsGivenUp line (v ∷ vs) pivot (made ∷ rest)
next_given line v vs pivot rest made g m = record {
  some = g.some;
  own = behind_spanned v vs (λ l. dot l pivot) g.own;
  zero_there = (m.zero_there, g.zero_there);
  inside = (moved_spanned line pivot v made vs m g.own, each_behind v vs rest g.inside);
  all = all;
  independent = λ i. (sees i.0, g.independent i.1);
}
  where
    seen_product : (x y : ℤ) → y ≡ pos 0 → x +ℤ y ≡ x
    seen_product x y e = omega (arith, ints)

    sees : SeesFirst v vs → SeesFirst made rest
    sees s = record {
      line = s.line;
      seen = λ e.
          not_zero-*ℤ m.own (dot s.line v) m.some s.seen
          (sym (seen_product (m.own *ℤ dot s.line v) (m.by *ℤ dot s.line pivot) (ap (λ z. m.by *ℤ z) (vanishes_on vs (λ l. dot l pivot) s.line s.others g.own) ∙ times_zero m.by))
          ∙ sym (m.is s.line) ∙ ap (λ z. m.factor *ℤ z) e ∙ times_zero m.factor);
      others = each_vanishes s.line vs rest s.others g.inside;
    }

    all : (f : Values) → IsSpanned (v ∷ vs) f → f line ≡ pos 0 → IsSpanned (made ∷ rest) f
    all f s e = (
      m.own *ℤ s.0,
      s.1 *ℤ m.factor,
      not_zero-*ℤ m.own s.0 m.some s.2,
      g.all (λ l. m.own *ℤ s.0 *ℤ f l -ℤ s.1 *ℤ m.factor *ℤ dot l made)
          (same_spanned vs (λ l. m.own *ℤ (s.0 *ℤ f l -ℤ s.1 *ℤ dot l v) +ℤ neg_ℤ (s.1 *ℤ m.by) *ℤ dot l pivot) (λ l. m.own *ℤ s.0 *ℤ f l -ℤ s.1 *ℤ m.factor *ℤ dot l made)
          (λ l. together m.own s.0 s.1 m.by m.factor (f l) (dot l v) (dot l pivot) (dot l made) (m.is l))
          (sum_spanned vs (λ l. s.0 *ℤ f l -ℤ s.1 *ℤ dot l v) (λ l. dot l pivot) m.own (neg_ℤ (s.1 *ℤ m.by)) s.3 g.own))
          (nothing (m.own *ℤ s.0) (s.1 *ℤ m.factor) (f line) (dot line made) e m.zero_there),
    )
      where
        expanded : (a m c b x d p : ℤ) → a *ℤ (m *ℤ x -ℤ c *ℤ d) +ℤ neg_ℤ (c *ℤ b) *ℤ p ≡ a *ℤ m *ℤ x -ℤ c *ℤ (a *ℤ d +ℤ b *ℤ p)
        expanded a m c b x d p = simp ring (omega (arith, ints))

        together : (a m c b k x d p q : ℤ) → k *ℤ q ≡ a *ℤ d +ℤ b *ℤ p → a *ℤ (m *ℤ x -ℤ c *ℤ d) +ℤ neg_ℤ (c *ℤ b) *ℤ p ≡ a *ℤ m *ℤ x -ℤ c *ℤ k *ℤ q
        together a m c b k x d p q e =
            expanded a m c b x d p ∙ ap (λ z. a *ℤ m *ℤ x -ℤ z) (ap (λ z. c *ℤ z) (sym e) ∙ sym (*ℤ_assoc c k q))

        nothing : (n k x y : ℤ) → x ≡ pos 0 → y ≡ pos 0 → n *ℤ x -ℤ k *ℤ y ≡ pos 0
        nothing n k x y e f = minus (n *ℤ x) (k *ℤ y) (ap (λ z. n *ℤ z) e ∙ times_zero n) (ap (λ z. k *ℤ z) f ∙ times_zero k)
          where
            minus : (x y : ℤ) → x ≡ pos 0 → y ≡ pos 0 → x -ℤ y ≡ pos 0
            minus x y e f = omega (arith, ints)

pub clearing-is : (line : List ℤ) (basis : List (List ℤ)) → IsClearing line basis (clearing line basis)
clearing-is line [] = tt
clearing-is line (v ∷ vs) = go (clearing line vs) (clearing-is line vs)
  where
    test : (b : Bool) → int_eq (dot line v) (pos 0) ≡ b → AllByRecursion (λ u. dot line u ≡ pos 0) vs → IsClearing line (v ∷ vs) (cond b Kept (Given v vs))
    test true e h = ((Decides-int_eq (dot line v) (pos 0)).0 e, h)
    test false e h = first_given line v vs (λ q. false≢true (sym e ∙ (Decides-int_eq (dot line v) (pos 0)).1 q)) h

    go : (c : Cleared) → IsClearing line vs c → IsClearing line (v ∷ vs) (clearing_with line v vs c)
    go Kept h = test (int_eq (dot line v) (pos 0)) refl h
    go (Given pivot rest) g = next_given line v vs pivot rest (projection line pivot v) g (projection-is line pivot v g.some)
