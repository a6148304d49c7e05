-- The polynomial that the search raises is the difference of a relation, or minus the difference.
use Rattle.std.proofs.Common.{◌≡◌, ℕ, zero, suc, ◌+◌, Bool, true, false, List, [], ◌∷◌, ◌++◌, length, map, take, drop, Ok, refl, sym, ap, subst, ◌∙◌, arith, ℤ, pos, ◌+ℤ◌, ◌*ℤ◌}
use Rattle.std.specs.Prelude.{not, neg_ℤ, slice_get, Some}
use Rattle.std.specs.List.{AllByRecursion, list_all}
use Rattle.std.proofs.lemmas.Int.{ints}
use Rattle.std.proofs.lemmas.Bool.{eqb-true}
use Rattle.std.proofs.lemmas.List.Elements.{recursion_from_All}
use Rattle.std.proofs.lemmas.List.{length-drop, length-take-le, take-append-drop}
use Rattle.items.specs.Gives.{◌>>=◌}
use Rattle.items.proofs.Gives.{on_ok}
use Rattle.whole_numbers.specs.Fits.{product_of}
use Rattle.whole_numbers.proofs.Ring.{ring, product_of-value}
use Rattle.linear_terms.specs.Operations.{sum_of_polys}
use Rattle.linear_terms.specs.Polynomial.{Polynomial, IsCanonical, coefficient_in, constant_of}
use Rattle.linear_terms.proofs.Canonical.{IsCanonical-nil, IsCanonical-sum_of_polys}
use Rattle.farkas_check.specs.Kept.{IsCanonicalChange}
use Rattle.farkas_check.specs.declared.stratum.Change.{Change}
use Rattle.farkas_check.specs.Relations.{has_count, term_count, entry, Side, Term, Lower, One, sides, difference, coefficient_at, rest_of}
use Rattle.simplex.specs.Differences.{with_multiples, weighted_value, IsDifferenceOf}
use Rattle.simplex.specs.Exchange.{line_multiple}
use Rattle.simplex.specs.Raise.{sign_of}
use Rattle.simplex.proofs.Coefficients.{IsWeightedSum, weighted_sum, sum-coefficient, sum-rest}
use Rattle.farkas_check.proofs.Farkas.{numbers_ok, both_true}
use Rattle.simplex.specs.Strata.{IsAsked, IsCaseOf}
use Rattle.simplex.specs.declared.differences.StrataQuestion.{StrataQuestion}
use Rattle.simplex.proofs.Cases.{at_place}

-- the parts of the terms, which are added
terms_part : (value : Polynomial → ℤ) (one sign : ℤ) (first own last : List ℤ) (terms : List Polynomial) (ss : List Side) → length first ≡ length terms → line_multiple first sign ≡ Ok own
    → sign *ℤ difference value one (first ++ last) (map Term terms ++ ss) ≡ weighted_value value own terms +ℤ sign *ℤ difference value one last ss
terms_part value one sign [] own last [] ss h e =
    let none : [] ≡ own = cc in
    plain (sign *ℤ difference value one last ss) ∙ ap (λ (ns : List ℤ). weighted_value value ns [] +ℤ sign *ℤ difference value one last ss) none
  where
    plain : (z : ℤ) → z ≡ pos 0 +ℤ z
    plain z = omega (arith, ints)
terms_part value one sign [] own last (t ∷ terms) ss h e = absurd (omega (arith, h))
terms_part value one sign (n ∷ first) own last [] ss h e = absurd (omega (arith, h))
terms_part value one sign (n ∷ first) own last (t ∷ terms) ss h e =
    on_ok (product_of n sign) (λ z. line_multiple first sign >>= λ made. numbers_ok (z ∷ made)) own e
    (λ z f g. on_ok (line_multiple first sign) (λ made. numbers_ok (z ∷ made)) own g
    (λ made k l. step z made (product_of-value n sign z f) (terms_part value one sign first made last terms ss (omega (arith, h)) k) (cc)))
  where
    regroup : (v d : ℤ) → sign *ℤ (n *ℤ v +ℤ d) ≡ v *ℤ (n *ℤ sign) +ℤ sign *ℤ d
    regroup v d = simp ring (omega (arith, ints))

    group : (a b c : ℤ) → a +ℤ (b +ℤ c) ≡ a +ℤ b +ℤ c
    group a b c = omega (arith, ints)

    step : (z : ℤ) (made : List ℤ) → z ≡ n *ℤ sign → sign *ℤ difference value one (first ++ last) (map Term terms ++ ss) ≡ weighted_value value made terms +ℤ sign *ℤ difference value one last ss → z ∷ made ≡ own
        → sign *ℤ (n *ℤ value t +ℤ difference value one (first ++ last) (map Term terms ++ ss)) ≡ weighted_value value own (t ∷ terms) +ℤ sign *ℤ difference value one last ss
    step z made f ih same =
        regroup (value t) (difference value one (first ++ last) (map Term terms ++ ss))
        ∙ ap (λ x. value t *ℤ x +ℤ sign *ℤ difference value one (first ++ last) (map Term terms ++ ss)) (sym f)
        ∙ ap (λ x. value t *ℤ z +ℤ x) ih
        ∙ group (value t *ℤ z) (weighted_value value made terms) (sign *ℤ difference value one last ss)
        ∙ ap (λ (ns : List ℤ). weighted_value value ns (t ∷ terms) +ℤ sign *ℤ difference value one last ss) same

-- the parts of the lower terms and of 1, which are subtracted
lower_part : (value : Polynomial → ℤ) (one sign : ℤ) (last others : List ℤ) (lower : List Polynomial) → length last ≡ length lower + 1 → line_multiple last (neg_ℤ sign) ≡ Ok others
    → sign *ℤ difference value one last (map Lower lower ++ One ∷ []) ≡ weighted_value value others lower +ℤ entry others (length lower) *ℤ one
lower_part value one sign [] others lower h e = absurd (omega (arith, h))
lower_part value one sign (n ∷ []) others [] h e =
    on_ok (product_of n (neg_ℤ sign)) (λ z. line_multiple [] (neg_ℤ sign) >>= λ made. numbers_ok (z ∷ made)) others e
    (λ z f g. let same : z ∷ [] ≡ others = cc in last_one ∙ ap (λ x. pos 0 +ℤ x *ℤ one) (sym (product_of-value n (neg_ℤ sign) z f)) ∙ ap (λ (ns : List ℤ). weighted_value value ns [] +ℤ entry ns 0 *ℤ one) same)
  where
    last_one : sign *ℤ (n *ℤ neg_ℤ one +ℤ pos 0) ≡ pos 0 +ℤ n *ℤ neg_ℤ sign *ℤ one
    last_one = simp ring (omega (arith, ints))
lower_part value one sign (n ∷ (m ∷ last)) others [] h e = absurd (omega (arith, h))
lower_part value one sign (n ∷ last) others (t ∷ lower) h e =
    on_ok (product_of n (neg_ℤ sign)) (λ z. line_multiple last (neg_ℤ sign) >>= λ made. numbers_ok (z ∷ made)) others e
    (λ z f g. on_ok (line_multiple last (neg_ℤ sign)) (λ made. numbers_ok (z ∷ made)) others g
    (λ made k l. step z made (product_of-value n (neg_ℤ sign) z f) (lower_part value one sign last made lower (omega (arith, h)) k) (cc)))
  where
    regroup : (v d : ℤ) → sign *ℤ (n *ℤ neg_ℤ v +ℤ d) ≡ v *ℤ (n *ℤ neg_ℤ sign) +ℤ sign *ℤ d
    regroup v d = simp ring (omega (arith, ints))

    group : (a b c : ℤ) → a +ℤ (b +ℤ c) ≡ a +ℤ b +ℤ c
    group a b c = omega (arith, ints)

    step : (z : ℤ) (made : List ℤ) → z ≡ n *ℤ neg_ℤ sign → sign *ℤ difference value one last (map Lower lower ++ One ∷ []) ≡ weighted_value value made lower +ℤ entry made (length lower) *ℤ one → z ∷ made ≡ others
        → sign *ℤ (n *ℤ neg_ℤ (value t) +ℤ difference value one last (map Lower lower ++ One ∷ [])) ≡ weighted_value value others (t ∷ lower) +ℤ entry others (suc (length lower)) *ℤ one
    step z made f ih same =
        regroup (value t) (difference value one last (map Lower lower ++ One ∷ []))
        ∙ ap (λ x. value t *ℤ x +ℤ sign *ℤ difference value one last (map Lower lower ++ One ∷ [])) (sym f)
        ∙ ap (λ x. value t *ℤ z +ℤ x) ih
        ∙ group (value t *ℤ z) (weighted_value value made lower) (entry made (length lower) *ℤ one)
        ∙ ap (λ (ns : List ℤ). weighted_value value ns (t ∷ lower) +ℤ entry ns (suc (length lower)) *ℤ one) same

-- how the code makes the polynomial: multiples of the terms, of the lower terms, and a constant
pub record IsMadeOf (count : ℕ) (terms lower : List Polynomial) (numbers : List ℤ) (up : Bool) (p : Polynomial) : Type 0 where
  pub own : List ℤ
  pub others : List ℤ
  pub first : Polynomial
  pub second : Polynomial
  pub own_is : line_multiple (take count numbers) (sign_of up) ≡ Ok own
  pub others_is : line_multiple (drop count numbers) (sign_of (not up)) ≡ Ok others
  pub first_is : with_multiples (constant_of (pos 0)) own terms ≡ Ok first
  pub second_is : with_multiples first others lower ≡ Ok second
  pub is : sum_of_polys second (constant_of (entry others (length lower))) ≡ Ok p

is_difference : (terms lower : List Polynomial) (numbers : List ℤ) (up : Bool) (p : Polynomial) → AllByRecursion (λ (q : Polynomial). IsCanonical q.terms) terms → AllByRecursion (λ (q : Polynomial). IsCanonical q.terms) lower → length numbers ≡ length terms + length lower + 1 → IsMadeOf (length terms) terms lower numbers up p → IsDifferenceOf terms lower numbers up p
is_difference terms lower numbers up p k l h m = record {
  canonical = IsCanonical-sum_of_polys m.second (constant_of (entry m.others (length lower))) p m.is second.canonical;
  coefficient = λ n. sum-coefficient m.second (constant_of (entry m.others (length lower))) p n second.canonical IsCanonical-nil m.is
      ∙ both (coefficient_at n) (pos 0) (coefficient_in p.terms n) (coefficient_in m.first.terms n) (coefficient_in m.second.terms n) (pos 0) (first.coefficient n) (second.coefficient n) (nothing (entry m.others (length lower)));
  rest = sum-rest m.second (constant_of (entry m.others (length lower))) p m.is
      ∙ both rest_of (pos 1) p.rest m.first.rest m.second.rest (entry m.others (length lower)) first.rest second.rest (one (entry m.others (length lower)));
}
  where
    first : IsWeightedSum (constant_of (pos 0)) m.first m.own terms
    first = weighted_sum (constant_of (pos 0)) m.first m.own terms IsCanonical-nil k m.first_is

    second : IsWeightedSum m.first m.second m.others lower
    second = weighted_sum m.first m.second m.others lower first.canonical l m.second_is

    nothing : (z : ℤ) → z *ℤ pos 0 ≡ pos 0
    nothing z = omega (arith, ints)

    one : (z : ℤ) → z *ℤ pos 1 ≡ z
    one z = omega (arith, ints)

    turned : (up : Bool) → sign_of (not up) ≡ neg_ℤ (sign_of up)
    turned true = refl
    turned false = refl

    whole : (value : Polynomial → ℤ) (one : ℤ) → sign_of up *ℤ difference value one numbers (sides terms lower) ≡ weighted_value value m.own terms +ℤ (weighted_value value m.others lower +ℤ entry m.others (length lower) *ℤ one)
    whole value one =
        ap (λ (ns : List ℤ). sign_of up *ℤ difference value one ns (sides terms lower)) (sym (take-append-drop (length terms) numbers))
        ∙ terms_part value one (sign_of up) (take (length terms) numbers) m.own (drop (length terms) numbers) terms (map Lower lower ++ One ∷ []) (length-take-le (length terms) numbers (omega (arith, h))) m.own_is
        ∙ ap (λ z. weighted_value value m.own terms +ℤ z)
        (lower_part value one (sign_of up) (drop (length terms) numbers) m.others lower (length-drop (length terms) numbers ∙ (omega (arith, h))) (subst (λ z. line_multiple (drop (length terms) numbers) z ≡ Ok m.others) (turned up) m.others_is))

    both : (value : Polynomial → ℤ) (one x y z w : ℤ) → y ≡ pos 0 +ℤ weighted_value value m.own terms → z ≡ y +ℤ weighted_value value m.others lower → entry m.others (length lower) *ℤ one ≡ w → z +ℤ w ≡ sign_of up *ℤ difference value one numbers (sides terms lower)
    both value one x y z w f g e = joined (weighted_value value m.own terms) (weighted_value value m.others lower) f g e (whole value one)
      where
        joined : (a b : ℤ) {c d : ℤ} → y ≡ pos 0 +ℤ a → z ≡ y +ℤ b → c ≡ w → d ≡ a +ℤ (b +ℤ c) → z +ℤ w ≡ d
        joined a b f g e k = omega (arith, ints, f, g, e, k)

-- each case has as many terms as the first
pub terms_at : (count l : ℕ) (cases : List Change) (case : Change) → list_all (has_count count) cases ≡ true → slice_get cases l ≡ Some case → length case.terms ≡ count
terms_at count l [] case h e = cc
terms_at count zero (c ∷ cases) case h e = let same : c ≡ case = cc in subst (λ (x : Change). length x.terms ≡ count) same (eqb-true (length c.terms) count (both_true (has_count count c) (list_all (has_count count) cases) h).0)
terms_at count (suc l) (c ∷ cases) case h e = terms_at count l cases case (both_true (has_count count c) (list_all (has_count count) cases) h).1 e

pub asked_difference : (s : StrataQuestion) (case : Change) (numbers : List ℤ) (up : Bool) (p : Polynomial) → IsAsked s → IsCaseOf s case → s.count ≡ s.terms + length s.lower.now + 1 → length numbers ≡ s.count → IsMadeOf s.terms case.terms s.lower.now numbers up p → IsDifferenceOf case.terms s.lower.now numbers up p
asked_difference s case numbers up p is of count h m =
    is_difference case.terms s.lower.now numbers up p (recursion_from_All (λ (q : Polynomial). IsCanonical q.terms) case.terms canonical.terms) (recursion_from_All (λ (q : Polynomial). IsCanonical q.terms) s.lower.now is.canonical.lower_too) (h ∙ count ∙ ap (λ (n : ℕ). n + length s.lower.now + 1) (sym many))
    (subst (λ (n : ℕ). IsMadeOf n case.terms s.lower.now numbers up p) (sym many) m)
  where
    canonical : IsCanonicalChange case
    canonical = at_place IsCanonicalChange s.cases.now of.place case (recursion_from_All IsCanonicalChange s.cases.now is.canonical.cases_too) of.is

    many : length case.terms ≡ s.terms
    many = terms_at (term_count s.cases.now) of.place s.cases.now case is.even of.is ∙ sym is.terms
