-- The least common denominator of ratios, and their numerators over it, which have no common
-- divisor.
use Rattle.std.proofs.Common.{◌≡◌, ℕ, zero, suc, ◌+◌, ◌*◌, ◌<◌, ◌≤◌, List, [], ◌∷◌, length, Ok, refl, sym, ap, subst, ◌∙◌, arith, ℤ, pos, ◌*ℤ◌, ◌<ℤ◌}
use Rattle.std.specs.Prelude.{unsigned_abs, int_div}
use Rattle.std.specs.List.{AllByRecursion}
use Rattle.std.proofs.lemmas.Int.{ints, unsigned_abs-mul}
use Rattle.std.proofs.Math.IntN.{*ℤ_comm}
use Rattle.items.specs.Gives.{◌>>=◌}
use Rattle.items.proofs.Gives.{on_ok}
use Rattle.whole_numbers.specs.Divisors.{gcd_of, gcd_of_all}
use Rattle.whole_numbers.specs.Fits.{product_of}
use Rattle.whole_numbers.proofs.CommonDivisors.{DividesEach, DividesEach-gcd_of_all}
use Rattle.whole_numbers.proofs.Quotients.{int_div-*ℤ}
use Rattle.whole_numbers.proofs.Ring.{ring, *ℤ_cancel, *ℤ_assoc, one-*ℤ, product_of-value}
use Rattle.farkas_check.specs.Ratios.{Fraction, IsLowest, lowest_terms, common_multiple}
use Rattle.farkas_check.specs.Relations.{entry}
use Rattle.farkas_check.proofs.Lowest.{divisor_positive, positive-lowest_terms, lowest_terms-num, lowest_terms-den, IsLowest-lowest_terms, common_multiple-positive}
use Rattle.simplex.specs.Spots.{denominator_from, common_denominator, numerators_over}
use Rattle.simplex.proofs.Exchanges.{factor_positive}
use Rattle.simplex.proofs.Widths.{IsShare, shared, factor_small, quotient_is}

-- a number times another one
pub record IsFactor (d m : ℤ) : Type 0 where
  pub times : ℤ
  pub is : d *ℤ times ≡ m

-- ---- of two denominators

pub record IsLeastMultiple (d e m : ℤ) : Type 0 where
  pub positive : pos 0 <ℤ m
  pub left : IsFactor d m
  pub right : IsFactor e m
  pub least : (n : ℤ) → pos 0 <ℤ n → IsFactor d n → IsFactor e n → IsFactor m n

pub common_multiple-least : (d e m : ℤ) → pos 0 <ℤ d → pos 0 <ℤ e → common_multiple d e ≡ Ok m → IsLeastMultiple d e m
common_multiple-least d e m p q h = record {
  positive = common_multiple-positive d e m p q h;
  left = record { times = (lowest_terms d e).den; is = ap (λ z. z *ℤ (lowest_terms d e).den) (sym first) ∙ turn (lowest_terms d e).num (pos (gcd_of (unsigned_abs d) (unsigned_abs e))) (lowest_terms d e).den ∙ ap (λ z. (lowest_terms d e).num *ℤ z) second ∙ sym is };
  right = record { times = (lowest_terms d e).num; is = *ℤ_comm e (lowest_terms d e).num ∙ sym is };
  least = λ n above f g. by_shares n above f g (factor_positive d f.times p (subst (λ (z : ℤ). pos 0 <ℤ z) (sym f.is) above));
}
  where
    common_above : pos 0 <ℤ pos (gcd_of (unsigned_abs d) (unsigned_abs e))
    common_above = let k : 0 < gcd_of (unsigned_abs d) (unsigned_abs e) = divisor_positive d e q in omega (arith, ints, k)

    first : (lowest_terms d e).num *ℤ pos (gcd_of (unsigned_abs d) (unsigned_abs e)) ≡ d
    first = lowest_terms-num d e

    second : (lowest_terms d e).den *ℤ pos (gcd_of (unsigned_abs d) (unsigned_abs e)) ≡ e
    second = lowest_terms-den d e

    is : m ≡ (lowest_terms d e).num *ℤ e
    is = product_of-value (lowest_terms d e).num e m h

    turn : (a b c : ℤ) → a *ℤ b *ℤ c ≡ a *ℤ (c *ℤ b)
    turn a b c = simp ring (omega (arith, ints))

    slide : (a b c : ℤ) → a *ℤ b *ℤ c ≡ a *ℤ c *ℤ b
    slide a b c = simp ring (omega (arith, ints))

    around : (a b c : ℤ) → a *ℤ b *ℤ c ≡ b *ℤ (a *ℤ c)
    around a b c = simp ring (omega (arith, ints))

    by_shares : (n : ℤ) → pos 0 <ℤ n → (f : IsFactor d n) → (g : IsFactor e n) → pos 0 <ℤ f.times → IsFactor m n
    by_shares n above f g u = record { times = o.times; is = ap (λ z. z *ℤ o.times) is ∙ around (lowest_terms d e).num e o.times ∙ ap (λ z. e *ℤ z) o.num ∙ g.is }
      where
        level : (lowest_terms d e).num *ℤ f.times ≡ g.times *ℤ (lowest_terms d e).den
        level = *ℤ_cancel ((lowest_terms d e).num *ℤ f.times) (g.times *ℤ (lowest_terms d e).den) (pos (gcd_of (unsigned_abs d) (unsigned_abs e))) common_above
            (slide (lowest_terms d e).num f.times (pos (gcd_of (unsigned_abs d) (unsigned_abs e))) ∙ ap (λ z. z *ℤ f.times) first ∙ f.is ∙ sym g.is ∙ ap (λ z. z *ℤ g.times) (sym second)
            ∙ *ℤ_comm ((lowest_terms d e).den *ℤ pos (gcd_of (unsigned_abs d) (unsigned_abs e))) g.times ∙ sym (*ℤ_assoc g.times (lowest_terms d e).den (pos (gcd_of (unsigned_abs d) (unsigned_abs e)))))

        o : IsShare (lowest_terms d e) g.times f.times
        o = shared (lowest_terms d e) g.times f.times u (record { stands = record { same = level; positive = positive-lowest_terms d e q }; lowest = IsLowest-lowest_terms d e q })

-- ---- of a list

abbrev pub AreLowest : List Fraction → Type 0
AreLowest rs = AllByRecursion (λ (r : Fraction). IsLowest r) rs

-- the number is a multiple of each denominator
abbrev pub AreFactors : List Fraction → ℤ → Type 0
AreFactors rs m = AllByRecursion (λ (r : Fraction). IsFactor r.den m) rs

pub record IsLeastOver (common : ℤ) (rs : List Fraction) (m : ℤ) : Type 0 where
  pub positive : pos 0 <ℤ m
  pub own : IsFactor common m
  pub each : AreFactors rs m
  pub least : (n : ℤ) → pos 0 <ℤ n → IsFactor common n → AreFactors rs n → IsFactor m n

itself : (z : ℤ) → IsFactor z z
itself z = record { times = pos 1; is = *ℤ_comm z (pos 1) ∙ one-*ℤ z }

further : (a b c : ℤ) → IsFactor a b → IsFactor b c → IsFactor a c
further a b c f g = record { times = f.times *ℤ g.times; is = sym (*ℤ_assoc a f.times g.times) ∙ ap (λ z. z *ℤ g.times) f.is ∙ g.is }

pub denominator-least : (common : ℤ) (rs : List Fraction) (m : ℤ) → pos 0 <ℤ common → AreLowest rs → denominator_from common rs ≡ Ok m → IsLeastOver common rs m
denominator-least common [] m p s e = let same : common ≡ m = cc in subst (IsLeastOver common []) same (record { positive = p; own = itself common; each = tt; least = λ n above f g. f })
denominator-least common (r ∷ rs) m p s e =
    on_ok (common_multiple common r.den) (λ next. denominator_from next rs) m e
    (λ next f g. let c : IsLeastMultiple common r.den next = common_multiple-least common r.den next p s.0.positive f in joined next c (denominator-least next rs m c.positive s.1 g))
  where
    joined : (next : ℤ) → IsLeastMultiple common r.den next → IsLeastOver next rs m → IsLeastOver common (r ∷ rs) m
    joined next c o = record {
      positive = o.positive;
      own = further common next m c.left o.own;
      each = (further r.den next m c.right o.own, o.each);
      least = λ n above f g. o.least n above (c.least n above f g.0) g.1;
    }

-- ---- numerators

-- each number over the common denominator is the ratio
abbrev pub AreNumerators : ℤ → List Fraction → List ℤ → Type 0
AreNumerators m [] ns = ns ≡ []
AreNumerators m (r ∷ rs) [] = ⊥
AreNumerators m (r ∷ rs) (n ∷ ns) = (n *ℤ r.den ≡ r.num *ℤ m) × AreNumerators m rs ns

numerators-are : (m : ℤ) (rs : List Fraction) (ns : List ℤ) → AreLowest rs → AreFactors rs m → numerators_over m rs ≡ Ok ns → AreNumerators m rs ns
numerators-are m [] ns s f e = let same : [] ≡ ns = cc in sym same
numerators-are m (r ∷ rs) ns s f e =
    on_ok (product_of r.num (int_div m r.den)) (λ n. numerators_over m rs >>= λ more. Ok (n ∷ more)) ns e
    (λ n g h. on_ok (numerators_over m rs) (λ more. Ok (n ∷ more)) ns h
    (λ more k l. let same : n ∷ more ≡ ns = cc in
    subst (AreNumerators m (r ∷ rs)) same (first n (product_of-value r.num (int_div m r.den) n g), numerators-are m rs more s.1 f.1 k)))
  where
    first : (n : ℤ) → n ≡ r.num *ℤ int_div m r.den → n *ℤ r.den ≡ r.num *ℤ m
    first n is =
        ap (λ z. z *ℤ r.den) (is ∙ ap (λ z. r.num *ℤ z) (quotient_is m r.den f.0.times s.0.positive (sym f.0.is ∙ *ℤ_comm r.den f.0.times)))
        ∙ *ℤ_assoc r.num f.0.times r.den ∙ ap (λ z. r.num *ℤ z) (*ℤ_comm f.0.times r.den ∙ f.0.is)

pub numerators_of : (rs : List Fraction) (m : ℤ) (ns : List ℤ) → AreLowest rs → common_denominator rs ≡ Ok m → numerators_over m rs ≡ Ok ns → AreNumerators m rs ns
numerators_of rs m ns s e f = numerators-are m rs ns s (denominator-least (pos 1) rs m (omega (arith, ints)) s e).each f

pub denominator-positive : (rs : List Fraction) (m : ℤ) → AreLowest rs → common_denominator rs ≡ Ok m → pos 0 <ℤ m
denominator-positive rs m s e = (denominator-least (pos 1) rs m (omega (arith, ints)) s e).positive

-- a divisor of the common denominator and of all numerators leaves a multiple of each denominator
shares : (m q g : ℤ) (rs : List Fraction) (ns : List ℤ) → pos 0 <ℤ q → pos 0 <ℤ g → q *ℤ g ≡ m → AreLowest rs → AreNumerators m rs ns → AllByRecursion (λ (n : ℤ). IsFactor g n) ns → AreFactors rs q
shares m q g [] ns p u e s a d = tt
shares m q g (r ∷ rs) [] p u e s a d = absurd a
shares m q g (r ∷ rs) (n ∷ ns) p u e s a d = (one, shares m q g rs ns p u e s.1 a.1 d.1)
  where
    slide : (a b c : ℤ) → a *ℤ b *ℤ c ≡ b *ℤ c *ℤ a
    slide a b c = simp ring (omega (arith, ints))

    level : r.num *ℤ q ≡ d.0.times *ℤ r.den
    level = *ℤ_cancel (r.num *ℤ q) (d.0.times *ℤ r.den) g u
        (*ℤ_assoc r.num q g ∙ ap (λ z. r.num *ℤ z) e ∙ sym a.0 ∙ ap (λ z. z *ℤ r.den) (sym d.0.is) ∙ slide g d.0.times r.den)

    one : IsFactor r.den q
    one = let o : IsShare r d.0.times q = shared r d.0.times q p (record { stands = record { same = level; positive = s.0.positive }; lowest = s.0 }) in record { times = o.times; is = o.den }

factors_of : (g : ℕ) (ns : List ℤ) → DividesEach g ns → AllByRecursion (λ (n : ℤ). IsFactor (pos g) n) ns
factors_of g [] h = tt
factors_of g (n ∷ ns) h = (record { times = int_div n (pos g); is = *ℤ_comm (pos g) (int_div n (pos g)) ∙ int_div-*ℤ n g h.0 }, factors_of g ns h.1)

factor_at : (g : ℤ) (ns : List ℤ) (j : ℕ) (m : ℤ) → j < length ns → entry ns j ≡ m → AllByRecursion (λ (n : ℤ). IsFactor g n) ns → IsFactor g m
factor_at g [] j m h e d = absurd (omega (arith, h))
factor_at g (n ∷ ns) zero m h e d = subst (IsFactor g) e d.0
factor_at g (n ∷ ns) (suc j) m h e d = factor_at g ns j m (omega (arith, h)) e d.1

-- Numerators over the least common denominator, which is a multiple of one of them, have no common
-- divisor.
pub numerators-primitive_to : (rs : List Fraction) (m : ℤ) (ns : List ℤ) (j : ℕ) (by : ℤ) → AreLowest rs → common_denominator rs ≡ Ok m → numerators_over m rs ≡ Ok ns → j < length ns → entry ns j *ℤ by ≡ m → gcd_of_all ns ≡ 1
numerators-primitive_to rs m ns j by s e f h at = by_divisor (gcd_of_all ns) (factors_of (gcd_of_all ns) ns (DividesEach-gcd_of_all ns))
  where
    o : IsLeastOver (pos 1) rs m
    o = denominator-least (pos 1) rs m (omega (arith, ints)) s e

    of_one : (z : ℤ) → IsFactor (pos 1) z
    of_one z = record { times = z; is = one-*ℤ z }

    through : (g : ℤ) → IsFactor g (entry ns j) → IsFactor g m
    through g k = record { times = k.times *ℤ by; is = sym (*ℤ_assoc g k.times by) ∙ ap (λ z. z *ℤ by) k.is ∙ at }

    nothing : (d t : ℤ) → d ≡ pos 0 → pos 0 <ℤ (d *ℤ t) → ⊥
    nothing d t e h = let z : d *ℤ t ≡ pos 0 = ap (λ x. x *ℤ t) e ∙ zero t in omega (arith, ints, z, h)
      where
        zero : (t : ℤ) → pos 0 *ℤ t ≡ pos 0
        zero t = simp ring (omega (arith, ints))

    by_divisor : (g : ℕ) → AllByRecursion (λ (n : ℤ). IsFactor (pos g) n) ns → g ≡ 1
    by_divisor zero d = let own : IsFactor (pos 0) m = through (pos 0) (factor_at (pos 0) ns j (entry ns j) h refl d) in absurd (nothing (pos 0) own.times refl (subst (λ (z : ℤ). pos 0 <ℤ z) (sym own.is) o.positive))
    by_divisor (suc g) d = by_own (through (pos (suc g)) (factor_at (pos (suc g)) ns j (entry ns j) h refl d))
      where
        by_own : IsFactor (pos (suc g)) m → suc g ≡ 1
        by_own own = by_back (o.least own.times above (of_one own.times) (shares m own.times (pos (suc g)) rs ns above (omega (arith, ints)) (*ℤ_comm own.times (pos (suc g)) ∙ own.is) s (numerators-are m rs ns s o.each f) d))
          where
            above : pos 0 <ℤ own.times
            above = factor_positive (pos (suc g)) own.times (omega (arith, ints)) (subst (λ (z : ℤ). pos 0 <ℤ z) (sym own.is) o.positive)

            by_back : IsFactor m own.times → suc g ≡ 1
            by_back back =
                let back_above : pos 0 <ℤ back.times = factor_positive m back.times o.positive (subst (λ (z : ℤ). pos 0 <ℤ z) (sym back.is) above) in
                let small : unsigned_abs m ≤ unsigned_abs own.times = factor_small m back.times own.times back_above back.is in
                let size : suc g * unsigned_abs own.times ≡ unsigned_abs m = sym (unsigned_abs-mul (pos (suc g)) own.times) ∙ ap unsigned_abs own.is in
                one_alone g (unsigned_abs own.times) (unsigned_abs m) size small (let k : 0 < unsigned_abs own.times = size_above own.times above in k)
              where
                size_above : (z : ℤ) → pos 0 <ℤ z → 0 < unsigned_abs z
                size_above z h = omega (arith, ints)

                one_alone : (g a b : ℕ) → suc g * a ≡ b → b ≤ a → 0 < a → suc g ≡ 1
                one_alone zero a b e h k = refl
                one_alone (suc g) a b e h k = absurd (let more : suc (suc g) * a ≡ a + a + g * a = omega arith in omega (arith, e, h, k, more))

-- The same where it is one of them.
pub numerators-primitive : (rs : List Fraction) (m : ℤ) (ns : List ℤ) (j : ℕ) → AreLowest rs → common_denominator rs ≡ Ok m → numerators_over m rs ≡ Ok ns → j < length ns → entry ns j ≡ m → gcd_of_all ns ≡ 1
numerators-primitive rs m ns j s e f h at = numerators-primitive_to rs m ns j (pos 1) s e f h (*ℤ_comm (entry ns j) (pos 1) ∙ one-*ℤ (entry ns j) ∙ at)
