-- How far a relation's difference gets in a case of a calm question is found within 128 bits.
use Rattle.std.proofs.Common.{◌≡◌, ℕ, zero, suc, ◌+◌, ◌*◌, ◌^◌, ◌<◌, ◌≤◌, Bool, true, false, List, [], ◌∷◌, ◌++◌, map, take, drop, length, Result, Ok, Err, refl, sym, ap, subst, ◌∙◌, arith, ℤ, pos, negsuc, ◌*ℤ◌}
use Rattle.std.specs.Prelude.{not, unsigned_abs, IfErr}
use Rattle.std.specs.List.{AllByRecursion}
use Rattle.std.proofs.lemmas.Int.{ints, unsigned_abs-mul}
use Rattle.std.proofs.Math.Nat.{mul-one}
use Rattle.items.specs.Gives.{◌>>=◌}
use Rattle.whole_numbers.specs.declared.wide.Wide as Step
use Rattle.linear_terms.specs.declared.row.Kind.TheVariants.{AtMost}
use Rattle.linear_terms.specs.Operations.{sum_of_polys}
use Rattle.linear_terms.specs.Polynomial.{Polynomial, constant_of}
use Rattle.linear_terms.proofs.Canonical.{IsCanonical-nil}
use Rattle.farkas_check.specs.Calm.{row_frame, difference_frame}
use Rattle.farkas_check.specs.Frames.{IsCalmUpTo}
use Rattle.farkas_check.specs.Points.{ratio_at, ratio_value}
use Rattle.farkas_check.specs.Ratios.{Fraction}
use Rattle.farkas_check.specs.Relations.{entry, Lower, One}
use Rattle.farkas_check.specs.Sizes.{HasNumbersUpTo}
use Rattle.farkas_check.specs.declared.stratum.Change.{Change}
use Rattle.simplex.specs.CalmStrata.{IsCalmAsked, IsCalmRelation, IsRefusalOf}
use Rattle.simplex.specs.Differences.{with_multiples, IsDifferenceOf}
use Rattle.simplex.specs.Exchange.{line_multiple}
use Rattle.simplex.specs.Raise.{sign_of}
use Rattle.simplex.specs.Refusal.{IsSmallFrame, IsRefusalIn}
use Rattle.simplex.specs.Spots.{sums_of}
use Rattle.simplex.specs.Strata.{IsAsked, IsCaseOf}
use Rattle.simplex.specs.StrataSteps.{IsCandidate, case_step}
use Rattle.simplex.specs.Suprema.{with_goal, frame_over, own_frame, IsSupremumOver}
use Rattle.simplex.specs.Wider.{AreColumnsOf}
use Rattle.simplex.specs.declared.differences.StrataQuestion.{StrataQuestion}
use Rattle.simplex.specs.declared.stop.SearchStop.{SearchStop}
use Rattle.simplex.specs.declared.stop.SearchStop.TheVariants.{Wide, Memory}
use Rattle.simplex.specs.declared.supremum.Supremum.TheVariants as supremum
use Rattle.simplex.proofs.Apart.{difference-among}
use Rattle.simplex.proofs.CalmDifferences.{difference_small}
use Rattle.simplex.proofs.CalmSteps.{terms_of_sides, lower_of_sides, all_below}
use Rattle.simplex.proofs.Cases.{at_place}
use Rattle.simplex.proofs.Further.{IsGiven, case_given}
use Rattle.simplex.proofs.Numerators.{HasValueWith}
use Rattle.simplex.proofs.Objectives.{more_rows}
use Rattle.simplex.proofs.GoalCorners.{slice_goal}
use Rattle.simplex.proofs.Small.{product_of-fits}
use Rattle.simplex.proofs.SmallPoints.{more_room, corner_small, ray_sums}
use Rattle.simplex.proofs.SmallSides.{value_below}
use Rattle.simplex.proofs.SmallSums.{IsBelow, below_more, IsSmallTerm, multiples-below, sum-below}
use Rattle.simplex.proofs.WiderColumns.{small_over_own}
use Rattle.simplex.proofs.Tame.{own_small, IsSmallPoly, small_poly}

-- ---- the numbers of a relation

abbrev AreSmallNumbers : List ℤ → Type 0
AreSmallNumbers ns = AllByRecursion (λ z. unsigned_abs z ≤ 1048576) ns

pub first_small : (n : ℕ) (ns : List ℤ) → AllByRecursion (λ z. unsigned_abs z ≤ 1048576) ns → AllByRecursion (λ z. unsigned_abs z ≤ 1048576) (take n ns)
first_small zero ns h = tt
first_small (suc n) [] h = tt
first_small (suc n) (z ∷ ns) h = (h.0, first_small n ns h.1)

pub last_small : (n : ℕ) (ns : List ℤ) → AllByRecursion (λ z. unsigned_abs z ≤ 1048576) ns → AllByRecursion (λ z. unsigned_abs z ≤ 1048576) (drop n ns)
last_small zero ns h = h
last_small (suc n) [] h = tt
last_small (suc n) (z ∷ ns) h = last_small n ns h.1

-- the numbers, or minus the numbers
abbrev HasSigned : List ℤ → Bool → Type 0
HasSigned ns up = (ms : List ℤ) × ((line_multiple ns (sign_of up) ≡ Ok ms) × (AreSmallNumbers ms × (length ms ≡ length ns)))

sign_size : (z : ℤ) (up : Bool) → unsigned_abs (z *ℤ sign_of up) ≡ unsigned_abs z
sign_size z true = unsigned_abs-mul z (pos 1) ∙ mul-one (unsigned_abs z)
sign_size z false = unsigned_abs-mul z (negsuc 0) ∙ mul-one (unsigned_abs z)

pub signed_small : (ns : List ℤ) (up : Bool) → AllByRecursion (λ z. unsigned_abs z ≤ 1048576) ns → (ms : List ℤ) × ((line_multiple ns (sign_of up) ≡ Ok ms) × (AllByRecursion (λ z. unsigned_abs z ≤ 1048576) ms × (length ms ≡ length ns)))
signed_small [] up h = ([], (refl, (tt, refl)))
signed_small (z ∷ ns) up h = joined (signed_small ns up h.1)
  where
    numbers_ok : List ℤ → Result (List ℤ) Step.Wide
    numbers_ok zs = Ok zs

    own : unsigned_abs (z *ℤ sign_of up) ≤ 1048576
    own = subst (λ (n : ℕ). n ≤ 1048576) (sym (sign_size z up)) h.0

    joined : HasSigned ns up → HasSigned (z ∷ ns) up
    joined more = (
      (z *ℤ sign_of up) ∷ more.0,
      (
        ap (λ (r : Result ℤ Step.Wide). r >>= λ y. line_multiple ns (sign_of up) >>= λ ys. numbers_ok (y ∷ ys)) (product_of-fits z (sign_of up) (let g : unsigned_abs (z *ℤ sign_of up) ≤ 1048576 = own in omega (arith, g)))
            ∙ ap (λ (r : Result (List ℤ) Step.Wide). r >>= λ ys. numbers_ok ((z *ℤ sign_of up) ∷ ys)) more.1.0,
        ((own, more.1.1.0), ap (λ (n : ℕ). suc n) more.1.1.1),
      ),
    )

-- ---- the terms of a case

pub case_terms_small : (s : StrataQuestion) (case : Change) → IsAsked s → IsCaseOf s case → IsCalmAsked s → AllByRecursion IsSmallTerm case.terms
case_terms_small s case is of calm = all_below case.terms (λ p o u. record { canonical = o.canonical; up_to = u }) (terms_of_sides s.columns.now case.terms (map Lower s.lower.now ++ One ∷ []) (case_given s case is of).over).0 (at_place (λ (c : Change). AllByRecursion (HasNumbersUpTo 1048576) c.terms) s.cases.now of.place case calm.calm.terms of.is)

pub lower_terms_small : (s : StrataQuestion) (case : Change) → IsAsked s → IsCaseOf s case → IsCalmAsked s → AllByRecursion IsSmallTerm s.lower.now
lower_terms_small s case is of calm = all_below s.lower.now (λ p o u. record { canonical = o.canonical; up_to = u }) (lower_of_sides s.columns.now s.lower.now (terms_of_sides s.columns.now case.terms (map Lower s.lower.now ++ One ∷ []) (case_given s case is of).over).1) calm.calm.lower_terms

-- nothing is below any number
pub zero_below : (p : Polynomial) → p ≡ constant_of (pos 0) → IsBelow 0 p
zero_below p e = subst (IsBelow 0) (sym e) (record { canonical = IsCanonical-nil; terms = λ m. omega (arith, ints); rest = omega (arith, ints) })

-- ---- the supremum of the difference

frame_at : (s : StrataQuestion) (case : Change) (numbers : List ℤ) → IsCaseOf s case → IsCalmRelation s numbers → IsCalmAsked s → IsCalmUpTo 1048576 (difference_frame s.columns.now s.lower.now numbers case)
frame_at s case numbers of r calm = at_place (λ (c : Change). IsCalmUpTo 1048576 (difference_frame s.columns.now s.lower.now numbers c)) s.cases.now of.place case (r.frames calm) of.is

half_small : (s : StrataQuestion) (case : Change) (numbers : List ℤ) (up : Bool) (p : Polynomial) → IsCaseOf s case → IsCalmRelation s numbers → IsDifferenceOf case.terms s.lower.now numbers up p → IsCalmAsked s → IsSmallFrame 1048576 (frame_over s.columns.now case.rows p) (length case.rows + 1)
half_small s case numbers up p of r d calm = difference_small 1048576 s.columns.now s.lower.now numbers case up p d (frame_at s case numbers of r calm)

pub half_refusal : {X : Type 0} (s : StrataQuestion) (case : Change) (numbers : List ℤ) (up : Bool) (p : Polynomial) (r : Result X SearchStop) → AreColumnsOf s.columns.now case.rows p → IsCaseOf s case → IsCandidate s.columns.now s.cases.now s.lower.now numbers → IsCalmRelation s numbers → IsDifferenceOf case.terms s.lower.now numbers up p
    → IfErr r (IsRefusalIn (own_frame case.rows p) (length case.rows + 1)) → IfErr r (IsRefusalOf s)
half_refusal s case numbers up p (Ok x) a of candidate r d o = tt
half_refusal s case numbers up p (Err (Wide step)) a of candidate r d o = record {
  leaves = o.leaves;
  great = λ calm. o.great 1048576 (omega arith) (small_over_own 1048576 case.rows p s.columns.now a (half_small s case numbers up p of r d calm));
  is = case_step numbers up of.place case p candidate of.is d o.is;
}
half_refusal s case numbers up p (Err Memory) a of candidate r d o = tt

-- the objective's own numbers are small
objective_small : (s : StrataQuestion) (case : Change) (numbers : List ℤ) (up : Bool) (p : Polynomial) → IsAsked s → IsCaseOf s case → IsCalmRelation s numbers → IsDifferenceOf case.terms s.lower.now numbers up p → IsCalmAsked s → IsSmallPoly 1048576 s.columns.now p
objective_small s case numbers up p is of r d calm =
    small_poly 1048576 s.columns.now (with_goal case.rows p) (length case.rows) (record { poly = p; kind = AtMost }) given.ordered
    (own_small 1048576 s.columns.now (with_goal case.rows p) (subst (λ (n : ℕ). IsSmallFrame 1048576 (frame_over s.columns.now case.rows p) n) (sym (more_rows case.rows p)) (half_small s case numbers up p of r d calm)))
    (slice_goal case.rows p) d.canonical (difference-among s.columns.now case.terms s.lower.now numbers up p given.over d)
  where
    given : IsGiven s.columns.now case.rows case.terms s.lower.now
    given = case_given s case is of

rows_calm : (s : StrataQuestion) (case : Change) → IsCaseOf s case → IsCalmAsked s → IsCalmUpTo 1048576 (row_frame s.columns.now case.rows)
rows_calm s case of calm = at_place (λ (c : Change). IsCalmUpTo 1048576 (row_frame s.columns.now c.rows)) s.cases.now of.place case calm.calm.rows of.is

-- the objective at the corner from which it grows without end
pub growing_value : (s : StrataQuestion) (case : Change) (numbers : List ℤ) (up : Bool) (p : Polynomial) (budget : ℕ) (point ray : List Fraction) → IsAsked s → length s.columns.now < 2 ^ 64 → IsCaseOf s case → IsCalmRelation s numbers → IsDifferenceOf case.terms s.lower.now numbers up p → IsSupremumOver s.columns.now case.rows p budget (supremum.Unbounded point ray) → IsCalmAsked s
    → (v : Fraction) × (ratio_value (ratio_at s.columns.now point) p ≡ Ok v)
growing_value s case numbers up p budget point ray is few of r d u calm = value_of (value_below s.columns.now point p given.ordered few (more_room s.columns.now point (corner_small s.columns.now case.rows p u.1.0 u.0 u.1.1.1.1.0.met (rows_calm s case of calm) point u.1.1.1.1.1))
    (record { canonical = d.canonical; among = difference-among s.columns.now case.terms s.lower.now numbers up p given.over d }) (record { terms = small.terms; rest = small.rest }))
  where
    given : IsGiven s.columns.now case.rows case.terms s.lower.now
    given = case_given s case is of

    small : IsSmallPoly 1048576 s.columns.now p
    small = objective_small s case numbers up p is of r d calm

    value_of : {P : Fraction → Type 0} → HasValueWith P (ratio_value (ratio_at s.columns.now point)) p → (v : Fraction) × (ratio_value (ratio_at s.columns.now point) p ≡ Ok v)
    value_of v = (v.0, v.1.0)

-- the corner and the ray together
pub growing_sums : (s : StrataQuestion) (case : Change) (p : Polynomial) (budget : ℕ) (point ray : List Fraction) → IsCaseOf s case → IsSupremumOver s.columns.now case.rows p budget (supremum.Unbounded point ray) → IsCalmAsked s → (zs : List Fraction) × (sums_of point ray ≡ Ok zs)
growing_sums s case p budget point ray of u calm = ray_sums s.columns.now case.rows p u.1.0 u.0 u.1.1.0 u.1.1.1.0 u.1.1.1.1.0 (rows_calm s case of calm) point ray u.1.1.1.1.1 u.1.1.1.1.2

-- ---- the difference, step by step

first_length : (n : ℕ) (ns : List ℤ) → length (take n ns) ≤ length ns
first_length zero ns = omega arith
first_length (suc n) [] = omega arith
first_length (suc n) (z ∷ ns) = let h : length (take n ns) ≤ length ns = first_length n ns in omega (arith, h)

last_length : (n : ℕ) (ns : List ℤ) → length (drop n ns) ≤ length ns
last_length zero ns = omega arith
last_length (suc n) [] = omega arith
last_length (suc n) (z ∷ ns) = let h : length (drop n ns) ≤ length ns = last_length n ns in omega (arith, h)

signed_made : (ns ms : List ℤ) (up : Bool) → AreSmallNumbers ns → line_multiple ns (sign_of up) ≡ Ok ms → AreSmallNumbers ms × (length ms ≡ length ns)
signed_made ns ms up h e = again (signed_small ns up h)
  where
    again : HasSigned ns up → AreSmallNumbers ms × (length ms ≡ length ns)
    again v = subst (λ (zs : List ℤ). AreSmallNumbers zs × (length zs ≡ length ns)) (same v.0 v.1.0) v.1.1
      where
        same : (zs : List ℤ) → line_multiple ns (sign_of up) ≡ Ok zs → zs ≡ ms
        same zs f = let g : Ok zs ≡ Ok ms = sym f ∙ e in cc

-- what is known of a relation whose difference is made
pub record IsReady (s : StrataQuestion) (case : Change) (numbers : List ℤ) : Type 0 where
  pub asked : IsAsked s
  pub of : IsCaseOf s case
  pub many : length numbers ≡ s.count
  pub few : s.count < 2 ^ 61
  pub calm : IsCalmAsked s
  pub small : AllByRecursion (λ z. unsigned_abs z ≤ 1048576) numbers

pub first_sum : (s : StrataQuestion) (case : Change) (numbers own : List ℤ) (up : Bool) (zero_poly : Polynomial) → IsReady s case numbers → zero_poly ≡ constant_of (pos 0) → line_multiple (take s.terms numbers) (sign_of up) ≡ Ok own
    → (p : Polynomial) × ((with_multiples zero_poly own case.terms ≡ Ok p) × IsBelow (0 + length own * 1099511627776) p)
first_sum s case numbers own up zero_poly k e f = multiples-below 0 zero_poly own case.terms (zero_below zero_poly e) m.0 (case_terms_small s case k.asked k.of k.calm)
    (let g : length own ≡ length (take s.terms numbers) = m.1 in let h : length (take s.terms numbers) ≤ length numbers = first_length s.terms numbers in let i : length numbers ≡ s.count = k.many in let j : s.count < 2 ^ 61 = k.few in omega (arith, g, h, i, j))
  where
    m : AreSmallNumbers own × (length own ≡ length (take s.terms numbers))
    m = signed_made (take s.terms numbers) own up (first_small s.terms numbers k.small) f

pub second_sum : (s : StrataQuestion) (case : Change) (numbers own others : List ℤ) (up : Bool) (zero_poly terms : Polynomial) → IsReady s case numbers → zero_poly ≡ constant_of (pos 0) → line_multiple (take s.terms numbers) (sign_of up) ≡ Ok own → line_multiple (drop s.terms numbers) (sign_of (not up)) ≡ Ok others → with_multiples zero_poly own case.terms ≡ Ok terms
    → (p : Polynomial) × ((with_multiples terms others s.lower.now ≡ Ok p) × IsBelow (2 ^ 110) p)
second_sum s case numbers own others up zero_poly terms k e f g t = wider (multiples-below (0 + length own * 1099511627776) terms others s.lower.now below n.0 (lower_terms_small s case k.asked k.of k.calm) (omega (arith, room)))
  where
    m : AreSmallNumbers own × (length own ≡ length (take s.terms numbers))
    m = signed_made (take s.terms numbers) own up (first_small s.terms numbers k.small) f

    n : AreSmallNumbers others × (length others ≡ length (drop s.terms numbers))
    n = signed_made (drop s.terms numbers) others (not up) (last_small s.terms numbers k.small) g

    below : IsBelow (0 + length own * 1099511627776) terms
    below = again (first_sum s case numbers own up zero_poly k e f)
      where
        again : (p : Polynomial) × ((with_multiples zero_poly own case.terms ≡ Ok p) × IsBelow (0 + length own * 1099511627776) p) → IsBelow (0 + length own * 1099511627776) terms
        again v = subst (IsBelow (0 + length own * 1099511627776)) (same v.0 v.1.0) v.1.1
          where
            same : (q : Polynomial) → with_multiples zero_poly own case.terms ≡ Ok q → q ≡ terms
            same q h = let i : Ok q ≡ Ok terms = sym h ∙ t in cc

    room : 0 + length own * 1099511627776 + length others * 1099511627776 ≤ 2 ^ 110
    room =
        let g : length own ≡ length (take s.terms numbers) = m.1 in let h : length (take s.terms numbers) ≤ length numbers = first_length s.terms numbers in
        let i : length others ≡ length (drop s.terms numbers) = n.1 in let j : length (drop s.terms numbers) ≤ length numbers = last_length s.terms numbers in
        let l : length numbers ≡ s.count = k.many in let o : s.count < 2 ^ 61 = k.few in omega (arith, g, h, i, j, l, o)

    wider : (p : Polynomial) × ((with_multiples terms others s.lower.now ≡ Ok p) × IsBelow (0 + length own * 1099511627776 + length others * 1099511627776) p) → (p : Polynomial) × ((with_multiples terms others s.lower.now ≡ Ok p) × IsBelow (2 ^ 110) p)
    wider v = (v.0, (v.1.0, below_more (0 + length own * 1099511627776 + length others * 1099511627776) (2 ^ 110) v.0 room v.1.1))

entry_small : (ns : List ℤ) (j : ℕ) → AreSmallNumbers ns → unsigned_abs (entry ns j) ≤ 1048576
entry_small [] j h = omega arith
entry_small (z ∷ ns) zero h = h.0
entry_small (z ∷ ns) (suc j) h = entry_small ns j h.1

pub third_sum : (s : StrataQuestion) (case : Change) (numbers own others : List ℤ) (up : Bool) (zero_poly terms sides : Polynomial) (last : ℤ) (place : ℕ) → IsReady s case numbers → zero_poly ≡ constant_of (pos 0) → line_multiple (take s.terms numbers) (sign_of up) ≡ Ok own → line_multiple (drop s.terms numbers) (sign_of (not up)) ≡ Ok others → with_multiples zero_poly own case.terms ≡ Ok terms → with_multiples terms others s.lower.now ≡ Ok sides → last ≡ entry others place
    → (p : Polynomial) × (sum_of_polys sides (constant_of last) ≡ Ok p)
third_sum s case numbers own others up zero_poly terms sides last place k e f g t u is = made (sum-below (2 ^ 110) 1048576 sides (constant_of last) below (record { canonical = IsCanonical-nil; terms = λ m. omega (arith, ints); rest = subst (λ z. unsigned_abs z ≤ 1048576) (sym is) (entry_small others place n.0) }) (omega arith))
  where
    n : AreSmallNumbers others × (length others ≡ length (drop s.terms numbers))
    n = signed_made (drop s.terms numbers) others (not up) (last_small s.terms numbers k.small) g

    below : IsBelow (2 ^ 110) sides
    below = again (second_sum s case numbers own others up zero_poly terms k e f g t)
      where
        again : (p : Polynomial) × ((with_multiples terms others s.lower.now ≡ Ok p) × IsBelow (2 ^ 110) p) → IsBelow (2 ^ 110) sides
        again v = subst (IsBelow (2 ^ 110)) (same v.0 v.1.0) v.1.1
          where
            same : (q : Polynomial) → with_multiples terms others s.lower.now ≡ Ok q → q ≡ sides
            same q h = let i : Ok q ≡ Ok sides = sym h ∙ u in cc

    made : (r : Polynomial) × ((sum_of_polys sides (constant_of last) ≡ Ok r) × IsBelow (2 ^ 110 + 1048576) r) → (p : Polynomial) × (sum_of_polys sides (constant_of last) ≡ Ok p)
    made v = (v.0, v.1.0)
