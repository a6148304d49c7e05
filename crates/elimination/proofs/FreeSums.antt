-- Products and sums of ratios over known denominators, and the value of what stands at an unknown,
-- by those of polynomials.
use Rattle.std.proofs.Common.{◌≡◌, ℕ, zero, suc, ◌+◌, ◌*◌, ◌^◌, ◌<◌, ◌≤◌, List, [], ◌∷◌, Result, Ok, refl, sym, ap, subst, ◌∙◌, arith, ℤ, pos, negsuc, ◌+ℤ◌, ◌*ℤ◌, ◌<ℤ◌}
use Rattle.std.specs.Prelude.{neg_ℤ, unsigned_abs}
use Rattle.std.specs.List.{AllByRecursion}
use Rattle.std.proofs.lemmas.Int.{ints}
use Rattle.std.proofs.Math.IntN.{*ℤ_comm}
use Rattle.items.specs.Gives.{◌>>=◌}
use Rattle.whole_numbers.specs.Fits.{product_of}
use Rattle.whole_numbers.specs.declared.wide.Wide as Step
use Rattle.whole_numbers.proofs.Ring.{ring, *ℤ_cancel, *ℤ_assoc, *ℤ_left_comm, *ℤ-one, *ℤ-neg_ℤ, *ℤ-positive, unsigned_abs-+ℤ}
use Rattle.linear_terms.specs.declared.col.Col.{Col}
use Rattle.linear_terms.specs.Polynomial.{Polynomial}
use Rattle.farkas_check.specs.Frames.{sum_below}
use Rattle.farkas_check.specs.Ratios.{Fraction, whole, lowest_terms, ratio_product, ratio_sum}
use Rattle.farkas_check.specs.Relations.{Side, Term, Lower, One, side_value}
use Rattle.farkas_check.specs.Stratum.{ratio_side_at}
use Rattle.farkas_check.proofs.Lowest.{IsLowest-lowest_terms, IsLowest-whole}
use Rattle.farkas_check.proofs.PointValues.{Stands-lowest}
use Rattle.simplex.proofs.Small.{product-small, product_of-fits}
use Rattle.simplex.proofs.Widths.{IsRatio, IsShare, shared, factor_small, sum-ratio, IsRatio-nothing}
use Rattle.elimination.specs.Around.{IsSmallOver}
use Rattle.elimination.specs.Probes.{read_at, one_at, side_at}

-- ---- ratios

pub IsRatio-lowest : (x d : ℤ) → pos 0 <ℤ d → IsRatio (lowest_terms x d) x d
IsRatio-lowest x d p = record { stands = Stands-lowest x d x d p refl; lowest = IsLowest-lowest_terms x d p }

pub IsRatio-scaled : (r : Fraction) (x d k : ℤ) → IsRatio r x d → IsRatio r (k *ℤ x) (k *ℤ d)
IsRatio-scaled r x d k s = record {
  stands = record { same = *ℤ_left_comm r.num k d ∙ ap (λ z. k *ℤ z) s.stands.same ∙ sym (*ℤ_assoc k x r.den); positive = s.stands.positive };
  lowest = s.lowest;
}

pub IsRatio-unscaled : (r : Fraction) (x d k : ℤ) → pos 0 <ℤ k → IsRatio r (k *ℤ x) (k *ℤ d) → IsRatio r x d
IsRatio-unscaled r x d k p s = record {
  stands = record {
    same = *ℤ_cancel (r.num *ℤ d) (x *ℤ r.den) k p (*ℤ_comm (r.num *ℤ d) k ∙ *ℤ_left_comm k r.num d ∙ s.stands.same ∙ *ℤ_assoc k x r.den ∙ *ℤ_comm k (x *ℤ r.den));
    positive = s.stands.positive;
  };
  lowest = s.lowest;
}

-- the result is a value, which is x over d in lowest terms
pub record HasRatio (r : Result Fraction Step.Wide) (x d : ℤ) : Type 0 where
  pub value : Fraction
  pub is : r ≡ Ok value
  pub ratio : IsRatio value x d

pub product-of_ratios : (m n k l : ℕ) (x w d e : ℤ) (a b : Fraction) → pos 0 <ℤ d → pos 0 <ℤ e → IsRatio a x d → IsRatio b w e
    → unsigned_abs x ≤ m → unsigned_abs w ≤ n → unsigned_abs d ≤ k → unsigned_abs e ≤ l → m * n < 2 ^ 127 → k * l < 2 ^ 127
    → HasRatio (ratio_product a b) (x *ℤ w) (d *ℤ e)
product-of_ratios m n k l x w d e a b p q s t hx hw hd he top bottom = record {
  value = lowest_terms (a.num *ℤ b.num) (a.den *ℤ b.den);
  is = made;
  ratio = record { stands = Stands-lowest (a.num *ℤ b.num) (a.den *ℤ b.den) (x *ℤ w) (d *ℤ e) above level; lowest = IsLowest-lowest_terms (a.num *ℤ b.num) (a.den *ℤ b.den) above };
}
  where
    above : pos 0 <ℤ (a.den *ℤ b.den)
    above = *ℤ-positive a.den b.den s.stands.positive t.stands.positive

    pair : (u v w z : ℤ) → u *ℤ v *ℤ (w *ℤ z) ≡ u *ℤ w *ℤ (v *ℤ z)
    pair u v w z = simp ring refl

    level : a.num *ℤ b.num *ℤ (d *ℤ e) ≡ x *ℤ w *ℤ (a.den *ℤ b.den)
    level = pair a.num b.num d e ∙ ap (λ z. z *ℤ (b.num *ℤ e)) s.stands.same ∙ ap (λ z. x *ℤ a.den *ℤ z) t.stands.same ∙ pair x a.den w b.den

    f : IsShare a x d
    f = shared a x d p s

    g : IsShare b w e
    g = shared b w e q t

    num : unsigned_abs (a.num *ℤ b.num) ≤ m * n
    num =
        let first : unsigned_abs a.num ≤ unsigned_abs x = factor_small a.num f.times x f.positive f.num in
        let second : unsigned_abs b.num ≤ unsigned_abs w = factor_small b.num g.times w g.positive g.num in
        product-small m n a.num b.num (omega (arith, first, hx)) (omega (arith, second, hw))

    den : unsigned_abs (a.den *ℤ b.den) ≤ k * l
    den =
        let first : unsigned_abs a.den ≤ unsigned_abs d = factor_small a.den f.times d f.positive f.den in
        let second : unsigned_abs b.den ≤ unsigned_abs e = factor_small b.den g.times e g.positive g.den in
        product-small k l a.den b.den (omega (arith, first, hd)) (omega (arith, second, he))

    below : (z most : ℕ) → z ≤ most → most < 2 ^ 127 → z < 2 ^ 127
    below z most h r = omega (arith, h, r)

    ratio_ok : Fraction → Result Fraction Step.Wide
    ratio_ok r = Ok r

    made : ratio_product a b ≡ Ok (lowest_terms (a.num *ℤ b.num) (a.den *ℤ b.den))
    made =
        ap (λ (r : Result ℤ Step.Wide). r >>= λ top. product_of a.den b.den >>= λ bottom. ratio_ok (lowest_terms top bottom)) (product_of-fits a.num b.num (below (unsigned_abs (a.num *ℤ b.num)) (m * n) num top))
        ∙ ap (λ (r : Result ℤ Step.Wide). r >>= λ bottom. ratio_ok (lowest_terms (a.num *ℤ b.num) bottom)) (product_of-fits a.den b.den (below (unsigned_abs (a.den *ℤ b.den)) (k * l) den bottom))

pub sum-of_ratios : (b c : ℕ) (x y d : ℤ) (total part : Fraction) → pos 0 <ℤ d → unsigned_abs d < 2 ^ 127 → IsRatio total x d → IsRatio part y d → unsigned_abs x ≤ b → unsigned_abs y ≤ c → b + c < 2 ^ 127
    → HasRatio (ratio_sum total part) (x +ℤ y) d
sum-of_ratios b c x y d total part p hd s t hx hy room =
    let both : unsigned_abs (x +ℤ y) ≤ unsigned_abs x + unsigned_abs y = unsigned_abs-+ℤ x y in
    let made = sum-ratio x y d total part p s t (omega (arith, hx, room)) (omega (arith, hy, room)) (omega (arith, both, hx, hy, room)) hd in
    record { value = made.0; is = made.1.0; ratio = made.1.1 }

-- ---- what stands at an unknown

-- by the values of polynomials and of 1; 0 past the last
abbrev pub side_by : (Polynomial → ℤ) → ℤ → List Side → ℕ → ℤ
side_by value one [] unknown = pos 0
side_by value one (s ∷ ss) zero = side_value value one s
side_by value one (s ∷ ss) (suc unknown) = side_by value one ss unknown

pub side_at-by : (cs : List (List Col)) (place : ℕ) (ss : List Side) (unknown : ℕ) → side_at cs place ss unknown ≡ side_by (read_at cs place) (one_at cs place) ss unknown
side_at-by cs place [] unknown = refl
side_at-by cs place (s ∷ ss) zero = refl
side_at-by cs place (s ∷ ss) (suc unknown) = side_at-by cs place ss unknown

-- a small polynomial over the columns, or 1
abbrev pub IsSmallSide : List (List Col) → Side → Type 0
IsSmallSide cs (Term p) = IsSmallOver cs p
IsSmallSide cs (Lower p) = IsSmallOver cs p
IsSmallSide cs One = Unit {0}

times_minus_one : (z : ℤ) → z *ℤ negsuc 0 ≡ neg_ℤ z
times_minus_one z = omega (arith, ints)

-- a value that is subtracted
lower-ratio : (r : Result Fraction Step.Wide) (x d : ℤ) (most : ℕ) → pos 0 <ℤ d → unsigned_abs d ≤ most → unsigned_abs x ≤ most → most * 1 < 2 ^ 127 → HasRatio r x d → HasRatio (r >>= λ v. ratio_product v (whole (negsuc 0))) (neg_ℤ x) d
lower-ratio r x d most p hd hx room v = of_product (product-of_ratios most 1 most 1 x (negsuc 0) d (pos 1) v.value (whole (negsuc 0)) p (omega (arith, ints)) v.ratio minus_one hx (omega arith) hd (omega arith) room room)
  where
    minus_one : IsRatio (whole (negsuc 0)) (negsuc 0) (pos 1)
    minus_one = record { stands = record { same = refl; positive = omega (arith, ints) }; lowest = IsLowest-whole (negsuc 0) }

    of_product : HasRatio (ratio_product v.value (whole (negsuc 0))) (x *ℤ negsuc 0) (d *ℤ pos 1) → HasRatio (r >>= λ v. ratio_product v (whole (negsuc 0))) (neg_ℤ x) d
    of_product t = record {
      value = t.value;
      is = ap (λ (q : Result Fraction Step.Wide). q >>= λ v. ratio_product v (whole (negsuc 0))) v.is ∙ t.is;
      ratio = subst (λ z. IsRatio t.value z d) (times_minus_one x) (subst (λ z. IsRatio t.value (x *ℤ negsuc 0) z) (*ℤ-one d) t.ratio);
    }

pub side-ratio : (cs : List (List Col)) (value : Polynomial → Result Fraction Step.Wide) (num : Polynomial → ℤ) (d : ℤ) (most : ℕ) (ss : List Side) (unknown : ℕ) → pos 0 <ℤ d → unsigned_abs d ≤ most → most * 1 < 2 ^ 127
    → ((p : Polynomial) → IsSmallOver cs p → HasRatio (value p) (num p) d) → ((p : Polynomial) → IsSmallOver cs p → unsigned_abs (num p) ≤ most) → AllByRecursion (IsSmallSide cs) ss
    → HasRatio (ratio_side_at value ss unknown) (side_by num d ss unknown) d
side-ratio cs value num d most [] unknown p hd room f g h = record { value = whole (pos 0); is = refl; ratio = IsRatio-nothing d }
side-ratio cs value num d most (Term q ∷ ss) zero p hd room f g h = f q h.0
side-ratio cs value num d most (Lower q ∷ ss) zero p hd room f g h = lower-ratio (value q) (num q) d most p hd (g q h.0) room (f q h.0)
side-ratio cs value num d most (One ∷ ss) zero p hd room f g h = record {
  value = whole (negsuc 0);
  is = refl;
  ratio = record { stands = record { same = level d; positive = omega (arith, ints) }; lowest = IsLowest-whole (negsuc 0) };
}
  where
    level : (z : ℤ) → negsuc 0 *ℤ z ≡ neg_ℤ z *ℤ pos 1
    level z = omega (arith, ints)
side-ratio cs value num d most (s ∷ ss) (suc unknown) p hd room f g h = side-ratio cs value num d most ss unknown p hd room f g h.1

minus-size : (z : ℤ) → unsigned_abs (neg_ℤ z) ≡ unsigned_abs z
minus-size z = omega (arith, ints)

pub side-size : (cs : List (List Col)) (num : Polynomial → ℤ) (d : ℤ) (most : ℕ) (ss : List Side) (unknown : ℕ) → unsigned_abs d ≤ most → ((p : Polynomial) → IsSmallOver cs p → unsigned_abs (num p) ≤ most) → AllByRecursion (IsSmallSide cs) ss
    → unsigned_abs (side_by num d ss unknown) ≤ most
side-size cs num d most [] unknown hd g h = omega arith
side-size cs num d most (Term q ∷ ss) zero hd g h = g q h.0
side-size cs num d most (Lower q ∷ ss) zero hd g h = subst (λ (n : ℕ). n ≤ most) (sym (minus-size (num q))) (g q h.0)
side-size cs num d most (One ∷ ss) zero hd g h = subst (λ (n : ℕ). n ≤ most) (sym (minus-size d)) hd
side-size cs num d most (s ∷ ss) (suc unknown) hd g h = side-size cs num d most ss unknown hd g h.1

-- ---- sums of multiples that read a number

nothing-read : (n : ℕ) (w : ℕ → ℤ) → sum_below n (λ i. w i *ℤ pos 0) ≡ pos 0
nothing-read zero w = refl
nothing-read (suc n) w = ap (λ z. z +ℤ w n *ℤ pos 0) (nothing-read n w) ∙ none (w n)
  where
    none : (z : ℤ) → pos 0 +ℤ z *ℤ pos 0 ≡ pos 0
    none z = omega (arith, ints)

minus-read : (n : ℕ) (w f : ℕ → ℤ) → sum_below n (λ i. w i *ℤ neg_ℤ (f i)) ≡ neg_ℤ (sum_below n (λ i. w i *ℤ f i))
minus-read zero w f = refl
minus-read (suc n) w f = ap (λ z. z +ℤ w n *ℤ neg_ℤ (f n)) (minus-read n w f) ∙ ap (λ z. neg_ℤ (sum_below n (λ i. w i *ℤ f i)) +ℤ z) (*ℤ-neg_ℤ (w n) (f n)) ∙ both (sum_below n (λ i. w i *ℤ f i)) (w n *ℤ f n)
  where
    both : (a b : ℤ) → neg_ℤ a +ℤ neg_ℤ b ≡ neg_ℤ (a +ℤ b)
    both a b = omega (arith, ints)

-- multiples that read polynomials and 1 read what stands at each unknown
pub side-read : (cs : List (List Col)) (n : ℕ) (w : ℕ → ℤ) (num : ℕ → Polynomial → ℤ) (d : ℤ) (read : Polynomial → ℤ) (one : ℤ) (ss : List Side) (unknown : ℕ)
    → ((p : Polynomial) → IsSmallOver cs p → sum_below n (λ i. w i *ℤ num i p) ≡ d *ℤ read p) → sum_below n (λ i. w i *ℤ d) ≡ d *ℤ one → AllByRecursion (IsSmallSide cs) ss
    → sum_below n (λ i. w i *ℤ side_by (num i) d ss unknown) ≡ d *ℤ side_by read one ss unknown
side-read cs n w num d read one [] unknown f g h = nothing-read n w ∙ sym (none d)
  where
    none : (z : ℤ) → z *ℤ pos 0 ≡ pos 0
    none z = omega (arith, ints)
side-read cs n w num d read one (Term p ∷ ss) zero f g h = f p h.0
side-read cs n w num d read one (Lower p ∷ ss) zero f g h = minus-read n w (λ i. num i p) ∙ ap neg_ℤ (f p h.0) ∙ sym (*ℤ-neg_ℤ d (read p))
side-read cs n w num d read one (One ∷ ss) zero f g h = minus-read n w (λ i. d) ∙ ap neg_ℤ g ∙ sym (*ℤ-neg_ℤ d one)
side-read cs n w num d read one (s ∷ ss) (suc unknown) f g h = side-read cs n w num d read one ss unknown f g h.1

-- and a multiple of them a multiple of it
pub multiple-read : (n : ℕ) (k : ℤ) (w f : ℕ → ℤ) → sum_below n (λ i. f i *ℤ (k *ℤ w i)) ≡ k *ℤ sum_below n (λ i. w i *ℤ f i)
multiple-read zero k w f = sym (none k)
  where
    none : (z : ℤ) → z *ℤ pos 0 ≡ pos 0
    none z = omega (arith, ints)
multiple-read (suc n) k w f = ap (λ z. z +ℤ f n *ℤ (k *ℤ w n)) (multiple-read n k w f) ∙ together (sum_below n (λ i. w i *ℤ f i)) (f n) (w n)
  where
    together : (s a b : ℤ) → k *ℤ s +ℤ a *ℤ (k *ℤ b) ≡ k *ℤ (s +ℤ b *ℤ a)
    together s a b = simp ring (omega (arith, ints))
