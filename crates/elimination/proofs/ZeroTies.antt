-- A relation whose difference is the polynomial 0 in each case is tied by zeros, and its test stays
-- within 128 bits.
use Rattle.std.proofs.Common.{◌≡◌, ℕ, zero, suc, ◌+◌, ◌*◌, ◌^◌, ◌<◌, ◌≤◌, Bool, true, false, List, [], ◌∷◌, map, length, Result, Ok, refl, ap, ◌∙◌, arith, ℤ, pos, negsuc, ◌+ℤ◌, ◌*ℤ◌}
use Rattle.std.specs.Prelude.{◌==◌, ◌&&◌, int_le, unsigned_abs}
use Rattle.std.specs.List.{AllByRecursion, list_all, zip}
use Rattle.std.specs.Cmp.Lexicographic.{pointwise}
use Rattle.std.specs.Ordering.{int_eq}
use Rattle.std.proofs.lemmas.Int.{ints}
use Rattle.std.proofs.lemmas.Bool.{eq-eqb}
use Rattle.std.proofs.lemmas.List.{length-map}
use Rattle.items.specs.Gives.{◌>>=◌}
use Rattle.whole_numbers.specs.Fits.{sum_of, product_of}
use Rattle.whole_numbers.specs.declared.wide.Wide as Step
use Rattle.whole_numbers.proofs.Ring.{unsigned_abs-+ℤ}
use Rattle.linear_terms.specs.declared.col.Col.{Col}
use Rattle.linear_terms.specs.declared.row.Kind.{Kind}
use Rattle.linear_terms.specs.declared.row.Kind.TheVariants.{AtMost, Equal}
use Rattle.linear_terms.specs.declared.row.Row.{Row}
use Rattle.linear_terms.specs.Polynomial.{Polynomial}
use Rattle.farkas_check.specs.declared.stratum.Change.{Change}
use Rattle.farkas_check.specs.declared.stratum.Relation.{Relation}
use Rattle.farkas_check.specs.declared.stratum.Tie.{Tie}
use Rattle.farkas_check.specs.Multiples.{is_multiplier, are_multipliers, Form, sum_from, number_at, constant_in, sums_at, constant_sum, sum_of_multiples, same_form}
use Rattle.farkas_check.specs.Parts.{and_then}
use Rattle.farkas_check.specs.Relations.{Side, Term, Lower, One, sides, numbers_of, difference, with_side, with_sides, coefficient_at, rest_of, difference_numbers, difference_form}
use Rattle.farkas_check.specs.Stratum.{all_of, multiples_of, multiple_of, scale_times, minus_scale_times, tested_half, tested_multiple, tested_tie, tested_relation}
use Rattle.farkas_check.proofs.Differences.{one_if, with_sides-value}
use Rattle.farkas_check.proofs.Farkas.{bool_ok, numbers_ok, form_ok, form_of}
use Rattle.simplex.specs.Relations.{IsRelationWith}
use Rattle.simplex.proofs.Small.{HasValue, product-small, product_of-fits, sum_of-fits}
use Rattle.simplex.proofs.SmallSums.{coefficient-small}
use Rattle.elimination.specs.BasisParts.{no_multipliers, zero_tie}
use Rattle.elimination.specs.Probes.{read_at, one_at, IsNothing}
use Rattle.elimination.proofs.FreeSums.{IsSmallSide}
use Rattle.elimination.proofs.WeightSizes.{AreWithin}

-- a part that is true, and others that are true
pub and_then-passes : (part others : Result Bool Step.Wide) → part ≡ Ok true → others ≡ Ok true → and_then part others ≡ Ok true
and_then-passes part others e f = ap (λ (r : Result Bool Step.Wide). and_then r others) e ∙ f

pub and-true : (a b : Bool) → a ≡ true → b ≡ true → a && b ≡ true
and-true a b e f = rw (e, f) refl

-- ---- multiples of rows

abbrev int_ok : ℤ → Result ℤ Step.Wide
int_ok z = Ok z

product-nothing : (z : ℤ) → product_of z (pos 0) ≡ Ok (pos 0)
product-nothing z = product_of-fits z (pos 0) (let e : unsigned_abs (z *ℤ pos 0) ≡ 0 = ap unsigned_abs (none z) in omega (arith, e)) ∙ ap int_ok (none z)
  where
    none : (z : ℤ) → z *ℤ pos 0 ≡ pos 0
    none z = omega (arith, ints)

sum_from-nothing : (number : Row → ℤ) (rows : List Row) → sum_from number (pos 0) rows (no_multipliers rows) ≡ Ok (pos 0)
sum_from-nothing number [] = refl
sum_from-nothing number (row ∷ rows) =
    ap (λ (r : Result ℤ Step.Wide). r >>= λ part. sum_of (pos 0) part >>= λ next. sum_from number next rows (no_multipliers rows)) (product-nothing (number row))
    ∙ sum_from-nothing number rows

-- as many zeros as columns
abbrev zeros : List (List Col) → List ℤ
zeros cs = map (λ (c : List Col). pos 0) cs

sums_at-nothing : (rows : List Row) (cs : List (List Col)) → sums_at rows (no_multipliers rows) cs ≡ Ok (zeros cs)
sums_at-nothing rows [] = refl
sums_at-nothing rows (c ∷ cs) =
    ap (λ (r : Result ℤ Step.Wide). r >>= λ s. sums_at rows (no_multipliers rows) cs >>= λ more. numbers_ok (s ∷ more)) (sum_from-nothing (number_at c) rows)
    ∙ ap (λ (r : Result (List ℤ) Step.Wide). r >>= λ more. numbers_ok (pos 0 ∷ more)) (sums_at-nothing rows cs)

multiples-nothing : (rows : List Row) (cs : List (List Col)) → sum_of_multiples rows (no_multipliers rows) cs ≡ Ok (form_of (zeros cs) (pos 0))
multiples-nothing rows cs =
    ap (λ (r : Result (List ℤ) Step.Wide). r >>= λ numbers. constant_sum rows (no_multipliers rows) >>= λ rest. form_ok (form_of numbers rest)) (sums_at-nothing rows cs)
    ∙ ap (λ (r : Result ℤ Step.Wide). r >>= λ rest. form_ok (form_of (zeros cs) rest)) (sum_from-nothing constant_in rows)

multipliers-nothing : (rows : List Row) → list_all (λ (p : Row × ℤ). is_multiplier p.0.kind p.1) (zip rows (no_multipliers rows)) ≡ true
multipliers-nothing [] = refl
multipliers-nothing (row ∷ rows) = and-true (is_multiplier row.kind (pos 0)) (list_all (λ (p : Row × ℤ). is_multiplier p.0.kind p.1) (zip rows (no_multipliers rows))) (of_kind row.kind) (multipliers-nothing rows)
  where
    of_kind : (kind : Kind) → is_multiplier kind (pos 0) ≡ true
    of_kind AtMost = refl
    of_kind Equal = refl

are_multipliers-nothing : (rows : List Row) → are_multipliers rows (no_multipliers rows) ≡ true
are_multipliers-nothing rows =
    and-true (length (no_multipliers rows) == length rows) (list_all (λ (p : Row × ℤ). is_multiplier p.0.kind p.1) (zip rows (no_multipliers rows)))
    (eq-eqb (length (no_multipliers rows)) (length rows) (length-map rows (λ (row : Row). pos 0))) (multipliers-nothing rows)

-- ---- the difference

-- what stands at an unknown is at most 4
abbrev IsSideWithin : (Polynomial → ℤ) → Side → Type 0
IsSideWithin value (Term p) = unsigned_abs (value p) ≤ 4
IsSideWithin value (Lower p) = unsigned_abs (value p) ≤ 4
IsSideWithin value One = Unit {0}

record HasNext (r : Result ℤ Step.Wide) (most : ℕ) : Type 0 where
  next : ℤ
  is : r ≡ Ok next
  small : unsigned_abs next ≤ most

more-size : (total part : ℤ) (b most : ℕ) → unsigned_abs total ≤ b → unsigned_abs part ≤ most → unsigned_abs (total +ℤ part) ≤ b + most
more-size total part b most h k = let both : unsigned_abs (total +ℤ part) ≤ unsigned_abs total + unsigned_abs part = unsigned_abs-+ℤ total part in omega (arith, both, h, k)

below-limit : (n most : ℕ) → n ≤ most → most < 2 ^ 127 → n < 2 ^ 127
below-limit n most h k = omega (arith, h, k)

with_side-fits : (value : Polynomial → ℤ) (constant : Bool) (b : ℕ) (total n : ℤ) (s : Side) → unsigned_abs n ≤ 481890304 → unsigned_abs total ≤ b → IsSideWithin value s → b + 1927561216 < 2 ^ 127 → HasNext (with_side value constant total n s) (b + 1927561216)
with_side-fits value constant b total n (Term p) hn ht h room =
    let part : unsigned_abs (n *ℤ value p) ≤ 481890304 * 4 = product-small 481890304 4 n (value p) hn h in
    let sum : unsigned_abs (total +ℤ n *ℤ value p) ≤ b + 1927561216 = more-size total (n *ℤ value p) b 1927561216 ht part in
    record {
      next = total +ℤ n *ℤ value p;
      is = ap (λ (r : Result ℤ Step.Wide). r >>= λ part. sum_of total part) (product_of-fits n (value p) (below-limit (unsigned_abs (n *ℤ value p)) (481890304 * 4) part (omega arith)))
          ∙ sum_of-fits total (n *ℤ value p) (below-limit (unsigned_abs (total +ℤ n *ℤ value p)) (b + 1927561216) sum room);
      small = sum;
    }
with_side-fits value constant b total n (Lower p) hn ht h room =
    let part : unsigned_abs (n *ℤ value p) ≤ 481890304 * 4 = product-small 481890304 4 n (value p) hn h in
    let less : unsigned_abs (n *ℤ value p *ℤ negsuc 0) ≤ 1927561216 * 1 = product-small 1927561216 1 (n *ℤ value p) (negsuc 0) part (omega arith) in
    let sum : unsigned_abs (total +ℤ n *ℤ value p *ℤ negsuc 0) ≤ b + 1927561216 = more-size total (n *ℤ value p *ℤ negsuc 0) b 1927561216 ht less in
    record {
      next = total +ℤ n *ℤ value p *ℤ negsuc 0;
      is = ap (λ (r : Result ℤ Step.Wide). r >>= λ part. product_of part (negsuc 0) >>= λ less. sum_of total less) (product_of-fits n (value p) (below-limit (unsigned_abs (n *ℤ value p)) (481890304 * 4) part (omega arith)))
          ∙ ap (λ (r : Result ℤ Step.Wide). r >>= λ less. sum_of total less) (product_of-fits (n *ℤ value p) (negsuc 0) (below-limit (unsigned_abs (n *ℤ value p *ℤ negsuc 0)) (1927561216 * 1) less (omega arith)))
          ∙ sum_of-fits total (n *ℤ value p *ℤ negsuc 0) (below-limit (unsigned_abs (total +ℤ n *ℤ value p *ℤ negsuc 0)) (b + 1927561216) sum room);
      small = sum;
    }
with_side-fits value true b total n One hn ht h room =
    let less : unsigned_abs (n *ℤ negsuc 0) ≤ 481890304 * 1 = product-small 481890304 1 n (negsuc 0) hn (omega arith) in
    let sum : unsigned_abs (total +ℤ n *ℤ negsuc 0) ≤ b + 1927561216 = more-size total (n *ℤ negsuc 0) b 1927561216 ht (omega (arith, less)) in
    record {
      next = total +ℤ n *ℤ negsuc 0;
      is = ap (λ (r : Result ℤ Step.Wide). r >>= λ less. sum_of total less) (product_of-fits n (negsuc 0) (below-limit (unsigned_abs (n *ℤ negsuc 0)) (481890304 * 1) less (omega arith)))
          ∙ sum_of-fits total (n *ℤ negsuc 0) (below-limit (unsigned_abs (total +ℤ n *ℤ negsuc 0)) (b + 1927561216) sum room);
      small = sum;
    }
with_side-fits value false b total n One hn ht h room = record { next = total; is = refl; small = omega (arith, ht) }

with_sides-fits : (value : Polynomial → ℤ) (constant : Bool) (b : ℕ) (total : ℤ) (ns : List ℤ) (ss : List Side) → AreWithin 481890304 ns → AllByRecursion (IsSideWithin value) ss → unsigned_abs total ≤ b → b + length ns * 1927561216 < 2 ^ 127
    → HasValue (with_sides value constant total ns ss)
with_sides-fits value constant b total [] ss h k ht room = (total, refl)
with_sides-fits value constant b total (n ∷ ns) [] h k ht room = (total, refl)
with_sides-fits value constant b total (n ∷ ns) (s ∷ ss) h k ht room =
    go (with_side-fits value constant b total n s h.0 ht k.0 (omega (arith, room, opened)))
    (λ next small. with_sides-fits value constant (b + 1927561216) next ns ss h.1 k.1 small (omega (arith, room, opened)))
  where
    opened : suc (length ns) * 1927561216 ≡ length ns * 1927561216 + 1927561216
    opened = omega arith

    go : HasNext (with_side value constant total n s) (b + 1927561216) → ((next : ℤ) → unsigned_abs next ≤ b + 1927561216 → HasValue (with_sides value constant next ns ss)) → HasValue (with_sides value constant total (n ∷ ns) (s ∷ ss))
    go r again = last (again r.next r.small)
      where
        last : HasValue (with_sides value constant r.next ns ss) → HasValue (with_sides value constant total (n ∷ ns) (s ∷ ss))
        last v = (v.0, ap (λ (q : Result ℤ Step.Wide). q >>= λ next. with_sides value constant next ns ss) r.is ∙ v.1)

with_sides-nothing : (value : Polynomial → ℤ) (constant : Bool) (ns : List ℤ) (ss : List Side) → AreWithin 481890304 ns → length ns < 2 ^ 61 → AllByRecursion (IsSideWithin value) ss → difference value (one_if constant) ns ss ≡ pos 0
    → with_sides value constant (pos 0) ns ss ≡ Ok (pos 0)
with_sides-nothing value constant ns ss h few k e = go (with_sides-fits value constant 0 (pos 0) ns ss h k (omega arith) (omega (arith, few)))
  where
    none : (z d : ℤ) → z ≡ pos 0 +ℤ d → d ≡ pos 0 → z ≡ pos 0
    none z d f g = omega (arith, ints, f, g)

    go : HasValue (with_sides value constant (pos 0) ns ss) → with_sides value constant (pos 0) ns ss ≡ Ok (pos 0)
    go v = v.1 ∙ ap int_ok (none v.0 (difference value (one_if constant) ns ss) (with_sides-value value constant (pos 0) v.0 ns ss v.1) e)

sides-within : (cs : List (List Col)) (value : Polynomial → ℤ) (ss : List Side) → ((s : Side) → IsSmallSide cs s → IsSideWithin value s) → AllByRecursion (IsSmallSide cs) ss → AllByRecursion (IsSideWithin value) ss
sides-within cs value [] f h = tt
sides-within cs value (s ∷ ss) f h = (f s h.0, sides-within cs value ss f h.1)

coefficient-within : (cs : List (List Col)) (c : List Col) (s : Side) → IsSmallSide cs s → IsSideWithin (coefficient_at c) s
coefficient-within cs c (Term p) h = coefficient-small 4 p.terms c h.small.terms
coefficient-within cs c (Lower p) h = coefficient-small 4 p.terms c h.small.terms
coefficient-within cs c One h = tt

rest-within : (cs : List (List Col)) (s : Side) → IsSmallSide cs s → IsSideWithin rest_of s
rest-within cs (Term p) h = h.small.rest
rest-within cs (Lower p) h = h.small.rest
rest-within cs One h = tt

numbers-nothing : (all cs : List (List Col)) (ns : List ℤ) (ss : List Side) → AreWithin 481890304 ns → length ns < 2 ^ 61 → AllByRecursion (IsSmallSide all) ss → ((place : ℕ) → difference (read_at cs place) (one_at cs place) ns ss ≡ pos 0)
    → difference_numbers ns ss cs ≡ Ok (zeros cs)
numbers-nothing all [] ns ss h few k f = refl
numbers-nothing all (c ∷ cs) ns ss h few k f =
    ap (λ (r : Result ℤ Step.Wide). r >>= λ number. difference_numbers ns ss cs >>= λ more. numbers_ok (number ∷ more)) (with_sides-nothing (coefficient_at c) false ns ss h few (sides-within all (coefficient_at c) ss (coefficient-within all c) k) (f zero))
    ∙ ap (λ (r : Result (List ℤ) Step.Wide). r >>= λ more. numbers_ok (pos 0 ∷ more)) (numbers-nothing all cs ns ss h few k (λ place. f (suc place)))

constant-nothing : (cs : List (List Col)) (ns : List ℤ) (ss : List Side) → ((place : ℕ) → difference (read_at cs place) (one_at cs place) ns ss ≡ pos 0) → difference rest_of (pos 1) ns ss ≡ pos 0
constant-nothing [] ns ss f = f zero
constant-nothing (c ∷ cs) ns ss f = constant-nothing cs ns ss (λ place. f (suc place))

form-nothing : (cs : List (List Col)) (ns : List ℤ) (ss : List Side) → AreWithin 481890304 ns → length ns < 2 ^ 61 → AllByRecursion (IsSmallSide cs) ss → ((place : ℕ) → difference (read_at cs place) (one_at cs place) ns ss ≡ pos 0)
    → difference_form ns ss cs ≡ Ok (form_of (zeros cs) (pos 0))
form-nothing cs ns ss h few k f =
    ap (λ (r : Result (List ℤ) Step.Wide). r >>= λ numbers. with_sides rest_of true (pos 0) ns ss >>= λ rest. form_ok (form_of numbers rest)) (numbers-nothing cs cs ns ss h few k f)
    ∙ ap (λ (r : Result ℤ Step.Wide). r >>= λ rest. form_ok (form_of (zeros cs) rest)) (with_sides-nothing rest_of true ns ss h few (sides-within cs rest_of ss (rest-within cs) k) (constant-nothing cs ns ss f))

-- ---- ties

multiples_of-nothing : (times : ℤ → Result ℤ Step.Wide) (cs : List (List Col)) → times (pos 0) ≡ Ok (pos 0) → multiples_of times (zeros cs) ≡ Ok (zeros cs)
multiples_of-nothing times [] e = refl
multiples_of-nothing times (c ∷ cs) e =
    ap (λ (r : Result ℤ Step.Wide). r >>= λ next. multiples_of times (zeros cs) >>= λ more. numbers_ok (next ∷ more)) e
    ∙ ap (λ (r : Result (List ℤ) Step.Wide). r >>= λ more. numbers_ok (pos 0 ∷ more)) (multiples_of-nothing times cs e)

multiple-nothing : (times : ℤ → Result ℤ Step.Wide) (cs : List (List Col)) → times (pos 0) ≡ Ok (pos 0) → multiple_of times (form_of (zeros cs) (pos 0)) ≡ Ok (form_of (zeros cs) (pos 0))
multiple-nothing times cs e =
    ap (λ (r : Result (List ℤ) Step.Wide). r >>= λ numbers. times (pos 0) >>= λ rest. form_ok (form_of numbers rest)) (multiples_of-nothing times cs e)
    ∙ ap (λ (r : Result ℤ Step.Wide). r >>= λ rest. form_ok (form_of (zeros cs) rest)) e

same-nothing : (cs : List (List Col)) → pointwise int_eq (zeros cs) (zeros cs) ≡ true
same-nothing [] = refl
same-nothing (c ∷ cs) = and-true (int_eq (pos 0) (pos 0)) (pointwise int_eq (zeros cs) (zeros cs)) refl (same-nothing cs)

half-passes : (scaled : ℤ → ℤ → Result ℤ Step.Wide) (cs : List (List Col)) (rows : List Row) (form : Result Form Step.Wide) → scaled (pos 1) (pos 0) ≡ Ok (pos 0) → form ≡ Ok (form_of (zeros cs) (pos 0)) → tested_half scaled cs rows form (pos 1) (no_multipliers rows) ≡ Ok true
half-passes scaled cs rows form e f =
    and_then-passes (bool_ok (are_multipliers rows (no_multipliers rows) && int_le (pos 1) (pos 1))) (tested_multiple (scaled (pos 1)) cs rows form (no_multipliers rows))
    (ap bool_ok (and-true (are_multipliers rows (no_multipliers rows)) (int_le (pos 1) (pos 1)) (are_multipliers-nothing rows) refl))
    (ap (λ (r : Result Form Step.Wide). r >>= λ left. form >>= λ own. multiple_of (scaled (pos 1)) own >>= λ right. bool_ok (same_form left right)) (multiples-nothing rows cs)
    ∙ ap (λ (r : Result Form Step.Wide). r >>= λ own. multiple_of (scaled (pos 1)) own >>= λ right. bool_ok (same_form (form_of (zeros cs) (pos 0)) right)) f
    ∙ ap (λ (r : Result Form Step.Wide). r >>= λ right. bool_ok (same_form (form_of (zeros cs) (pos 0)) right)) (multiple-nothing (scaled (pos 1)) cs e)
    ∙ ap bool_ok (and-true (pointwise int_eq (zeros cs) (zeros cs)) (int_eq (pos 0) (pos 0)) (same-nothing cs) refl))

tie-passes : (cs : List (List Col)) (lower : List Polynomial) (numbers : List ℤ) (case : Change) → AreWithin 481890304 numbers → length numbers < 2 ^ 61 → AllByRecursion (IsSmallSide cs) (sides case.terms lower) → IsNothing cs lower numbers case
    → tested_tie cs lower numbers case (zero_tie case) ≡ Ok true
tie-passes cs lower numbers case h few k nothing =
    and_then-passes (tested_half scale_times cs case.rows (difference_form numbers (sides case.terms lower) cs) (pos 1) (no_multipliers case.rows)) (tested_half minus_scale_times cs case.rows (difference_form numbers (sides case.terms lower) cs) (pos 1) (no_multipliers case.rows))
    (half-passes scale_times cs case.rows (difference_form numbers (sides case.terms lower) cs) refl form)
    (half-passes minus_scale_times cs case.rows (difference_form numbers (sides case.terms lower) cs) refl form)
  where
    form : difference_form numbers (sides case.terms lower) cs ≡ Ok (form_of (zeros cs) (pos 0))
    form = form-nothing cs numbers (sides case.terms lower) h few k nothing

ties-pass : (cs : List (List Col)) (lower : List Polynomial) (numbers : List ℤ) (cases : List Change) → AreWithin 481890304 numbers → length numbers < 2 ^ 61 → AllByRecursion (λ (case : Change). AllByRecursion (IsSmallSide cs) (sides case.terms lower)) cases → AllByRecursion (IsNothing cs lower numbers) cases
    → all_of (λ (p : Change × Tie). tested_tie cs lower numbers p.0 p.1) (zip cases (map zero_tie cases)) ≡ Ok true
ties-pass cs lower numbers [] h few k nothing = refl
ties-pass cs lower numbers (case ∷ cases) h few k nothing =
    and_then-passes (tested_tie cs lower numbers case (zero_tie case)) (all_of (λ (p : Change × Tie). tested_tie cs lower numbers p.0 p.1) (zip cases (map zero_tie cases)))
    (tie-passes cs lower numbers case h few k.0 nothing.0) (ties-pass cs lower numbers cases h few k.1 nothing.1)

pub relation-passes : (cs : List (List Col)) (cases : List Change) (lower : List Polynomial) (terms count : ℕ) (numbers : List ℤ) (relation : Relation) → IsRelationWith terms count numbers (map zero_tie cases) relation → AreWithin 481890304 numbers → length numbers < 2 ^ 61
    → AllByRecursion (λ (case : Change). AllByRecursion (IsSmallSide cs) (sides case.terms lower)) cases → AllByRecursion (IsNothing cs lower numbers) cases → tested_relation cs cases lower relation ≡ Ok true
relation-passes cs cases lower terms count numbers relation r h few k nothing =
    and_then-passes (bool_ok (length relation.ties == length cases)) (all_of (λ (p : Change × Tie). tested_tie cs lower (numbers_of relation) p.0 p.1) (zip cases relation.ties))
    (ap bool_ok (eq-eqb (length relation.ties) (length cases) (ap length r.tied ∙ length-map cases zero_tie)))
    (ap (λ (ns : List ℤ). all_of (λ (p : Change × Tie). tested_tie cs lower ns p.0 p.1) (zip cases relation.ties)) r.is
    ∙ ap (λ (ts : List Tie). all_of (λ (p : Change × Tie). tested_tie cs lower numbers p.0 p.1) (zip cases ts)) r.tied
    ∙ ties-pass cs lower numbers cases h few k nothing)
