-- A point at which a relation's difference is not 0: what the relation's numbers make of the spot's
-- line there is not 0.
use Rattle.std.proofs.Common.{◌≡◌, ◌≢◌, ℕ, zero, suc, Bool, true, false, cond, List, [], ◌∷◌, ◌++◌, length, map, Result, Ok, refl, sym, ap, subst, ◌∙◌, arith, ℤ, pos, negsuc, ◌+ℤ◌, ◌*ℤ◌, ◌<ℤ◌}
use Rattle.std.specs.Prelude.{neg_ℤ}
use Rattle.std.specs.List.{AllByRecursion}
use Rattle.std.specs.Map.{keys_of}
use Rattle.std.specs.Ordering.{eq_by_cmp}
use Rattle.std.proofs.lemmas.Int.{ints}
use Rattle.std.proofs.lemmas.Bool.{false≢true}
use Rattle.std.proofs.Math.IntN.{*ℤ_comm, zero-*ℤ}
use Rattle.items.specs.Gives.{◌>>=◌}
use Rattle.items.proofs.Gives.{on_ok}
use Rattle.whole_numbers.specs.declared.wide.Wide as Step
use Rattle.whole_numbers.proofs.Ring.{ring, *ℤ_cancel}
use Rattle.linear_terms.specs.declared.col.Col.{Col}
use Rattle.linear_terms.specs.Mono.{mono_cmp}
use Rattle.linear_terms.specs.Polynomial.{Terms, Polynomial, coefficient_in, IsCanonical}
use Rattle.linear_terms.proofs.Canonical.{first_some, IsCanonical-tail}
use Rattle.farkas_check.specs.Frames.{sum_below}
use Rattle.farkas_check.specs.Points.{ratio_at, ratio_value}
use Rattle.farkas_check.specs.Rational.{RationalPoint, sum_at}
use Rattle.farkas_check.specs.Ratios.{Fraction, whole, ratio_product}
use Rattle.farkas_check.specs.Relations.{entry, Side, Term, Lower, One, sides, side_value, difference, coefficient_at}
use Rattle.farkas_check.specs.Stratum.{minus_value}
use Rattle.farkas_check.proofs.Differences.{IsSideOver, AreSidesOver, numbers_at, constant_at, difference-at}
use Rattle.farkas_check.proofs.PointValues.{Stands, Stands-whole, StandsEach, ratio_value-stands}
use Rattle.farkas_check.proofs.Spots.{Stands-times}
use Rattle.farkas_check.proofs.Spreads.{is_among, AreAmong, same_mono, itself, spread, spread-same, spread-times, terms_at-spread}
use Rattle.farkas_check.proofs.Walks.{IsOrdered}
use Rattle.simplex.specs.Differences.{IsDifferenceOf}
use Rattle.simplex.specs.Raise.{sign_of}
use Rattle.simplex.specs.Spots.{values_of, AreSideValues, inner_product, IsApart}
use Rattle.simplex.proofs.Certificates.{sum_below-first}
use Rattle.simplex.proofs.Denominators.{AreLowest, AreNumerators, numerators_of, denominator-positive}
use Rattle.simplex.proofs.Exchanges.{times_zero, zero_factor}
use Rattle.simplex.proofs.Units.{sides-lowest}

-- ---- the monomials of the difference are columns

coefficient-apart : (m : List Col) (cs : List (List Col)) (ts : Terms) → AreAmong (keys_of ts) cs → is_among m cs ≡ false → coefficient_in ts m ≡ pos 0
coefficient-apart m cs [] a e = refl
coefficient-apart m cs (t ∷ ts) a e = go (eq_by_cmp mono_cmp t.0 m) refl (coefficient-apart m cs ts a.1 e)
  where
    go : (q : Bool) → eq_by_cmp mono_cmp t.0 m ≡ q → coefficient_in ts m ≡ pos 0 → cond q t.1 (coefficient_in ts m) ≡ pos 0
    go true f ih = absurd (false≢true (sym e ∙ ap (λ (x : List Col). is_among x cs) (sym (same_mono t.0 m f)) ∙ a.0))
    go false f ih = ih

side-apart : (m : List Col) (cs : List (List Col)) (s : Side) → IsSideOver cs s → is_among m cs ≡ false → side_value (coefficient_at m) (pos 0) s ≡ pos 0
side-apart m cs (Term p) h e = coefficient-apart m cs p.terms h.among e
side-apart m cs (Lower p) h e = ap neg_ℤ (coefficient-apart m cs p.terms h.among e)
side-apart m cs One h e = refl

difference-apart : (m : List Col) (cs : List (List Col)) (ns : List ℤ) (ss : List Side) → AreSidesOver cs ss → is_among m cs ≡ false → numbers_at ns ss m ≡ pos 0
difference-apart m cs [] ss h e = refl
difference-apart m cs (n ∷ ns) [] h e = refl
difference-apart m cs (n ∷ ns) (s ∷ ss) h e = none (n *ℤ side_value (coefficient_at m) (pos 0) s) (numbers_at ns ss m) (ap (λ z. n *ℤ z) (side-apart m cs s h.0 e) ∙ times_zero n) (difference-apart m cs ns ss h.1 e)
  where
    none : (a b : ℤ) → a ≡ pos 0 → b ≡ pos 0 → a +ℤ b ≡ pos 0
    none a b f g = omega (arith, ints, f, g)

all_among : (cs : List (List Col)) (ts : Terms) → IsCanonical ts → ((m : List Col) → is_among m cs ≡ false → coefficient_in ts m ≡ pos 0) → AreAmong (keys_of ts) cs
all_among cs [] k f = tt
all_among cs (t ∷ ts) k f = (first (is_among t.0 cs) refl, all_among cs ts (IsCanonical-tail t ts k) (λ m e. later m (eq_by_cmp mono_cmp t.0 m) refl e (f m e)))
  where
    no_first : is_among t.0 cs ≡ false → ⊥
    no_first e = first_some t ts k (sym (ap (λ (b : Bool). cond b t.1 (coefficient_in ts t.0)) (itself t.0)) ∙ f t.0 e)

    first : (b : Bool) → is_among t.0 cs ≡ b → is_among t.0 cs ≡ true
    first true e = e
    first false e = absurd (no_first e)

    later : (m : List Col) (q : Bool) → eq_by_cmp mono_cmp t.0 m ≡ q → is_among m cs ≡ false → cond q t.1 (coefficient_in ts m) ≡ pos 0 → coefficient_in ts m ≡ pos 0
    later m true g e h = absurd (no_first (ap (λ (x : List Col). is_among x cs) (same_mono t.0 m g) ∙ e))
    later m false g e h = h

pub difference-among : (cs : List (List Col)) (terms lower : List Polynomial) (numbers : List ℤ) (up : Bool) (p : Polynomial) → AreSidesOver cs (sides terms lower) → IsDifferenceOf terms lower numbers up p → AreAmong (keys_of p.terms) cs
difference-among cs terms lower numbers up p over d = all_among cs p.terms d.canonical (λ m e. d.coefficient m ∙ ap (λ z. sign_of up *ℤ z) (difference-apart m cs numbers (sides terms lower) over e) ∙ times_zero (sign_of up))

-- ---- the value of the polynomial is that of the difference, with the sign

value-is : (cs : List (List Col)) (terms lower : List Polynomial) (numbers : List ℤ) (up : Bool) (p : Polynomial) (point : RationalPoint) → IsOrdered cs → AreSidesOver cs (sides terms lower) → IsDifferenceOf terms lower numbers up p → sum_at point p ≡ sign_of up *ℤ difference (sum_at point) point.over numbers (sides terms lower)
value-is cs terms lower numbers up p point ordered over d =
    ap (λ z. z +ℤ p.rest *ℤ point.over) (terms_at-spread point.numerator cs p.terms ordered d.canonical (difference-among cs terms lower numbers up p over d)
    ∙ spread-same (coefficient_in p.terms) (λ c. sign_of up *ℤ numbers_at numbers (sides terms lower) c) point.numerator cs (each cs)
    ∙ spread-times (numbers_at numbers (sides terms lower)) point.numerator (sign_of up) cs)
    ∙ ap (λ z. sign_of up *ℤ spread (numbers_at numbers (sides terms lower)) point.numerator cs +ℤ z *ℤ point.over) d.rest
    ∙ together (sign_of up) (spread (numbers_at numbers (sides terms lower)) point.numerator cs) (constant_at numbers (sides terms lower)) point.over
    ∙ ap (λ z. sign_of up *ℤ z) (difference-at point cs numbers (sides terms lower) ordered over)
  where
    each : (ds : List (List Col)) → AllByRecursion (λ c. coefficient_in p.terms c ≡ sign_of up *ℤ numbers_at numbers (sides terms lower) c) ds
    each [] = tt
    each (c ∷ ds) = (d.coefficient c, each ds)

    together : (s a b o : ℤ) → s *ℤ a +ℤ s *ℤ b *ℤ o ≡ s *ℤ (a +ℤ b *ℤ o)
    together s a b o = simp ring (omega (arith, ints))

-- ---- the values at the unknowns

-- each ratio is what its side is worth
abbrev pub AreStanding : RationalPoint → List Fraction → List Side → Type 0
AreStanding point [] ss = Unit {0}
AreStanding point (r ∷ rs) [] = ⊥
AreStanding point (r ∷ rs) (s ∷ ss) = Stands r (side_value (sum_at point) point.over s) point.over × AreStanding point rs ss

own_standing : (point : RationalPoint) (value : Polynomial → Result Fraction Step.Wide) (side : Polynomial → Side) (ps : List Polynomial) (rs more : List Fraction) (ss : List Side) → ((p : Polynomial) (r : Fraction) → value p ≡ Ok r → Stands r (side_value (sum_at point) point.over (side p)) point.over)
    → values_of value ps ≡ Ok rs → AreStanding point more ss → AreStanding point (rs ++ more) (map side ps ++ ss)
own_standing point value side [] rs more ss f e h = let none : [] ≡ rs = cc in subst (λ (xs : List Fraction). AreStanding point (xs ++ more) ss) none h
own_standing point value side (p ∷ ps) rs more ss f e h =
    on_ok (value p) (λ r. values_of value ps >>= λ others. ratios_ok (r ∷ others)) rs e
    (λ r g i. on_ok (values_of value ps) (λ others. ratios_ok (r ∷ others)) rs i
    (λ others j k. let same : r ∷ others ≡ rs = cc in subst (λ (xs : List Fraction). AreStanding point (xs ++ more) (map side (p ∷ ps) ++ ss)) same (f p r g, own_standing point value side ps others more ss f j h)))
  where
    ratios_ok : List Fraction → Result (List Fraction) Step.Wide
    ratios_ok rs = Ok rs

pub sides-standing : (cs : List (List Col)) (at : List Fraction) (terms lower : List Polynomial) (values : List Fraction) (point : RationalPoint) → StandsEach (ratio_at cs at) point.numerator point.over → AreSideValues cs at terms lower values → AreStanding point values (sides terms lower)
sides-standing cs at terms lower values point each a =
    subst (λ (rs : List Fraction). AreStanding point rs (sides terms lower)) (sym a.is)
    (own_standing point (ratio_value (ratio_at cs at)) Term terms a.own (a.others ++ whole (negsuc 0) ∷ []) (map Lower lower ++ One ∷ []) (λ p r e. ratio_value-stands (ratio_at cs at) point.numerator point.over p r each e) a.own_is
    (own_standing point (minus_value (ratio_value (ratio_at cs at))) Lower lower a.others (whole (negsuc 0) ∷ []) (One ∷ []) minus a.others_is (one, tt)))
  where
    turned : (z : ℤ) → z *ℤ negsuc 0 ≡ neg_ℤ z
    turned z = omega (arith, ints)

    once : (z : ℤ) → z *ℤ pos 1 ≡ z
    once z = omega (arith, ints)

    minus : (p : Polynomial) (r : Fraction) → minus_value (ratio_value (ratio_at cs at)) p ≡ Ok r → Stands r (neg_ℤ (sum_at point p)) point.over
    minus p r e =
        on_ok (ratio_value (ratio_at cs at) p) (λ v. ratio_product v (whole (negsuc 0))) r e
        (λ v f g. subst (λ z. Stands r z point.over) (turned (sum_at point p)) (subst (λ z. Stands r (sum_at point p *ℤ negsuc 0) z) (once point.over)
        (Stands-times (sum_at point p) point.over v (whole (negsuc 0)) r (ratio_value-stands (ratio_at cs at) point.numerator point.over p v each f) (omega (arith, ints)) g)))

    less : (z : ℤ) → negsuc 0 *ℤ z ≡ neg_ℤ z
    less z = omega (arith, ints)

    one : Stands (whole (negsuc 0)) (neg_ℤ point.over) point.over
    one = subst (λ z. Stands (whole (negsuc 0)) z point.over) (less point.over) (Stands-whole (negsuc 0) point.over)

-- ---- what numbers make of a line

-- the sum of products of numbers in pairs
abbrev dots : List ℤ → List ℤ → ℤ
dots [] line = pos 0
dots (n ∷ ns) [] = pos 0
dots (n ∷ ns) (z ∷ line) = n *ℤ z +ℤ dots ns line

dots-none : (ns : List ℤ) (k : ℕ) → sum_below k (λ j. entry ns j *ℤ entry [] j) ≡ pos 0
dots-none ns zero = refl
dots-none ns (suc k) = ap (λ z. z +ℤ entry ns k *ℤ pos 0) (dots-none ns k) ∙ ap (λ z. pos 0 +ℤ z) (times_zero (entry ns k))

dots-is : (ns line : List ℤ) → inner_product (length ns) ns line ≡ dots ns line
dots-is [] line = refl
dots-is (n ∷ ns) [] = dots-none (n ∷ ns) (suc (length ns))
dots-is (n ∷ ns) (z ∷ line) = sum_below-first (length ns) (λ j. entry (n ∷ ns) j *ℤ entry (z ∷ line) j) ∙ ap (λ x. n *ℤ z +ℤ x) (dots-is ns line)

weigh : (point : RationalPoint) (scale : ℤ) (ns line : List ℤ) (rs : List Fraction) (ss : List Side) → AreStanding point rs ss → AreNumerators scale rs line → length rs ≡ length ss → dots ns line *ℤ point.over ≡ scale *ℤ difference (sum_at point) point.over ns ss
weigh point scale [] line rs ss st a h = zero-*ℤ point.over ∙ sym (times_zero scale)
weigh point scale (n ∷ ns) line [] [] st a h = ap (λ (zs : List ℤ). dots (n ∷ ns) zs *ℤ point.over) a ∙ zero-*ℤ point.over ∙ sym (times_zero scale)
weigh point scale (n ∷ ns) line [] (s ∷ ss) st a h = absurd (omega (arith, h))
weigh point scale (n ∷ ns) line (r ∷ rs) [] st a h = absurd st
weigh point scale (n ∷ ns) [] (r ∷ rs) (s ∷ ss) st a h = absurd a
weigh point scale (n ∷ ns) (z ∷ line) (r ∷ rs) (s ∷ ss) st a h =
    open_up n z (dots ns line) point.over
    ∙ ap (λ x. n *ℤ x +ℤ dots ns line *ℤ point.over) one
    ∙ ap (λ x. n *ℤ (side_value (sum_at point) point.over s *ℤ scale) +ℤ x) (weigh point scale ns line rs ss st.1 a.1 (omega (arith, h)))
    ∙ together n (side_value (sum_at point) point.over s) scale (difference (sum_at point) point.over ns ss)
  where
    open_up : (n z d o : ℤ) → (n *ℤ z +ℤ d) *ℤ o ≡ n *ℤ (z *ℤ o) +ℤ d *ℤ o
    open_up n z d o = simp ring (omega (arith, ints))

    together : (n v k d : ℤ) → n *ℤ (v *ℤ k) +ℤ k *ℤ d ≡ k *ℤ (n *ℤ v +ℤ d)
    together n v k d = simp ring (omega (arith, ints))

    slide : (a b c : ℤ) → a *ℤ b *ℤ c ≡ a *ℤ c *ℤ b
    slide a b c = simp ring (omega (arith, ints))

    one : z *ℤ point.over ≡ side_value (sum_at point) point.over s *ℤ scale
    one = *ℤ_cancel (z *ℤ point.over) (side_value (sum_at point) point.over s *ℤ scale) r.den st.0.positive
        (slide z point.over r.den ∙ ap (λ x. x *ℤ point.over) a.0 ∙ slide r.num scale point.over ∙ ap (λ x. x *ℤ scale) st.0.same ∙ slide (side_value (sum_at point) point.over s) r.den scale)

standing-length : (value : Polynomial → Result Fraction Step.Wide) (side : Polynomial → Side) (ps : List Polynomial) (rs more : List Fraction) (ss : List Side) → values_of value ps ≡ Ok rs → length more ≡ length ss → length (rs ++ more) ≡ length (map side ps ++ ss)
standing-length value side [] rs more ss e h = let none : [] ≡ rs = cc in ap (λ (xs : List Fraction). length (xs ++ more)) (sym none) ∙ h
standing-length value side (p ∷ ps) rs more ss e h =
    on_ok (value p) (λ r. values_of value ps >>= λ others. ratios_ok (r ∷ others)) rs e
    (λ r g i. on_ok (values_of value ps) (λ others. ratios_ok (r ∷ others)) rs i
    (λ others j k. let same : r ∷ others ≡ rs = cc in ap (λ (xs : List Fraction). length (xs ++ more)) (sym same) ∙ ap (λ (n : ℕ). suc n) (standing-length value side ps others more ss j h)))
  where
    ratios_ok : List Fraction → Result (List Fraction) Step.Wide
    ratios_ok rs = Ok rs

-- there are as many values as unknowns
pub sides-length : (cs : List (List Col)) (at : List Fraction) (terms lower : List Polynomial) (values : List Fraction) → AreSideValues cs at terms lower values → length values ≡ length (sides terms lower)
sides-length cs at terms lower values a =
    ap length a.is ∙ standing-length (ratio_value (ratio_at cs at)) Term terms a.own (a.others ++ whole (negsuc 0) ∷ []) (map Lower lower ++ One ∷ []) a.own_is
    (standing-length (minus_value (ratio_value (ratio_at cs at))) Lower lower a.others (whole (negsuc 0) ∷ []) (One ∷ []) a.others_is refl)

pub apart_at : (cs : List (List Col)) (terms lower : List Polynomial) (numbers : List ℤ) (up : Bool) (p : Polynomial) (at : List Fraction) (point : RationalPoint) → IsOrdered cs → AreSidesOver cs (sides terms lower) → IsDifferenceOf terms lower numbers up p → StandsEach (ratio_at cs at) point.numerator point.over → sum_at point p ≢ pos 0
    → IsApart cs terms lower (length numbers) numbers at
apart_at cs terms lower numbers up p at point ordered over d each some line scale is e = some (value-is cs terms lower numbers up p point ordered over d ∙ ap (λ z. sign_of up *ℤ z) no_difference ∙ times_zero (sign_of up))
  where
    lowest : AreLowest is.values
    lowest = sides-lowest cs at terms lower is.values (λ m. (each m).positive) is.are

    level : scale *ℤ difference (sum_at point) point.over numbers (sides terms lower) ≡ pos 0
    level =
        sym (weigh point scale numbers line is.values (sides terms lower) (sides-standing cs at terms lower is.values point each is.are) (numerators_of is.values scale line lowest is.scale_is is.line_is) (sides-length cs at terms lower is.values is.are))
        ∙ ap (λ z. z *ℤ point.over) (sym (dots-is numbers line) ∙ e) ∙ zero-*ℤ point.over

    no_difference : difference (sum_at point) point.over numbers (sides terms lower) ≡ pos 0
    no_difference = zero_factor (difference (sum_at point) point.over numbers (sides terms lower)) scale (*ℤ_comm (difference (sum_at point) point.over numbers (sides terms lower)) scale ∙ level) (λ z. above scale (denominator-positive is.values scale lowest is.scale_is) z)
      where
        above : (z : ℤ) → pos 0 <ℤ z → z ≡ pos 0 → ⊥
        above z h g = omega (arith, ints, h, g)
