-- A calm question of relations: the test of ties of small numbers stays within 128 bits.
use Rattle.std.proofs.Common.{◌≡◌, ℕ, suc, ◌+◌, ◌*◌, ◌^◌, ◌<◌, ◌≤◌, Bool, true, false, List, [], ◌∷◌, ◌++◌, length, map, Result, Ok, refl, sym, ap, subst, ◌∙◌, arith, ℤ, pos, negsuc, ◌+ℤ◌, ◌*ℤ◌}
use Rattle.std.specs.Prelude.{unsigned_abs, ◌&&◌, ◌==◌, int_le, ⊤}
use Rattle.std.specs.List.{AllByRecursion, list_all, zip}
use Rattle.std.proofs.lemmas.Int.{ints}
use Rattle.std.proofs.lemmas.Bool.{eqb-true}
use Rattle.items.specs.Gives.{◌>>=◌}
use Rattle.whole_numbers.specs.declared.wide.Wide as Step
use Rattle.whole_numbers.specs.Fits.{sum_of, product_of}
use Rattle.whole_numbers.proofs.Ring.{unsigned_abs-+ℤ}
use Rattle.linear_terms.specs.declared.col.Col.{Col}
use Rattle.linear_terms.specs.Polynomial.{Polynomial}
use Rattle.farkas_check.specs.Calm.{row_frame}
use Rattle.farkas_check.specs.Frames.{IsCalmUpTo}
use Rattle.farkas_check.specs.Multiples.{Form, are_multipliers, sum_of_multiples, same_form}
use Rattle.farkas_check.specs.Parts.{and_then}
use Rattle.farkas_check.specs.Relations.{Side, Term, Lower, One, sides, numbers_of, term_count, unknown_count, with_side, with_sides, coefficient_at, rest_of, difference_numbers, difference_form}
use Rattle.farkas_check.specs.Sizes.{HasNumbersUpTo}
use Rattle.farkas_check.specs.Stratum.{all_of, multiples_of, multiple_of, scale_times, minus_scale_times, tested_multiple, tested_half, tested_tie, tested_relation, has_unknowns}
use Rattle.farkas_check.specs.declared.stratum.Change.{Change}
use Rattle.farkas_check.specs.declared.stratum.Relation.{Relation}
use Rattle.farkas_check.specs.declared.stratum.Tie.{Tie}
use Rattle.farkas_check.proofs.Farkas.{bool_ok, numbers_ok, form_ok, both_true}
use Rattle.simplex.specs.SmallBasis.{AreAtMost, IsSmallTie, IsSmallRelation}
use Rattle.simplex.proofs.Calmness.{small_frame}
use Rattle.simplex.proofs.RowTableaux.{long}
use Rattle.simplex.proofs.Small.{HasValue, product-small, product_of-fits, sum_of-fits}
use Rattle.simplex.proofs.SmallSums.{coefficient-small}
use Rattle.simplex.proofs.Tame.{own_small, multiples-fit}

-- ---- numbers and their sizes

-- the result is a number of at most this size
abbrev pub HasSize : Result ℤ Step.Wide → ℕ → Type 0
HasSize r most = (x : ℤ) × ((r ≡ Ok x) × (unsigned_abs x ≤ most))

product-size : (a b : ℤ) (m : ℕ) → unsigned_abs (a *ℤ b) ≤ m → m < 2 ^ 127 → HasSize (product_of a b) m
product-size a b m h k = (a *ℤ b, (product_of-fits a b (omega (arith, h, k)), h))

sum-size : (a b : ℤ) (m n : ℕ) → unsigned_abs a ≤ m → unsigned_abs b ≤ n → m + n < 2 ^ 127 → HasSize (sum_of a b) (m + n)
sum-size a b m n h k room =
    let small : unsigned_abs (a +ℤ b) ≤ unsigned_abs a + unsigned_abs b = unsigned_abs-+ℤ a b in (a +ℤ b, (sum_of-fits a b (omega (arith, small, h, k, room)), omega (arith, small, h, k)))

minus-size : (a : ℤ) (m : ℕ) → unsigned_abs a ≤ m → m < 2 ^ 127 → HasSize (product_of a (negsuc 0)) m
minus-size a m h k = product-size a (negsuc 0) m (let same : unsigned_abs (a *ℤ negsuc 0) ≡ unsigned_abs a = omega (arith, ints) in omega (arith, same, h)) k

then-size : (r : Result ℤ Step.Wide) (f : ℤ → Result ℤ Step.Wide) (m n : ℕ) → HasSize r m → ((x : ℤ) → unsigned_abs x ≤ m → HasSize (f x) n) → HasSize (r >>= f) n
then-size r f m n h k = after (k h.0 h.1.1)
  where
    after : HasSize (f h.0) n → HasSize (r >>= f) n
    after v = (v.0, (ap (λ (q : Result ℤ Step.Wide). q >>= f) h.1.0 ∙ v.1.0, v.1.1))

pub then-value : {X Y : Type 0} (r : Result X Step.Wide) (f : X → Result Y Step.Wide) (x : X) → r ≡ Ok x → HasValue (f x) → HasValue (r >>= f)
then-value {X = X} r f x e v = (v.0, ap (λ (q : Result X Step.Wide). q >>= f) e ∙ v.1)

within : (z b k : ℕ) → z ≤ b → z ≤ b + k
within z b k h = omega (arith, h)

-- ---- the difference of a relation

-- what stands at an unknown is at most 2 ^ 20
abbrev pub IsSmallSide : (Polynomial → ℤ) → Side → Type 0
IsSmallSide value (Term p) = unsigned_abs (value p) ≤ 1048576
IsSmallSide value (Lower p) = unsigned_abs (value p) ≤ 1048576
IsSmallSide value One = ⊤

with_side-fits : (value : Polynomial → ℤ) (constant : Bool) (total n : ℤ) (b : ℕ) (s : Side) → IsSmallSide value s → unsigned_abs n ≤ 1048576 → unsigned_abs total ≤ b → b + 1099511627776 < 2 ^ 127 → HasSize (with_side value constant total n s) (b + 1099511627776)
with_side-fits value constant total n b (Term p) v m t room =
    then-size (product_of n (value p)) (λ part. sum_of total part) 1099511627776 (b + 1099511627776)
    (product-size n (value p) 1099511627776 (let g : unsigned_abs (n *ℤ value p) ≤ 1048576 * 1048576 = product-small 1048576 1048576 n (value p) m v in omega (arith, g)) (omega arith))
    (λ part k. sum-size total part b 1099511627776 t k room)
with_side-fits value constant total n b (Lower p) v m t room =
    then-size (product_of n (value p)) (λ part. product_of part (negsuc 0) >>= λ less. sum_of total less) 1099511627776 (b + 1099511627776)
    (product-size n (value p) 1099511627776 (let g : unsigned_abs (n *ℤ value p) ≤ 1048576 * 1048576 = product-small 1048576 1048576 n (value p) m v in omega (arith, g)) (omega arith))
    (λ part k. then-size (product_of part (negsuc 0)) (λ less. sum_of total less) 1099511627776 (b + 1099511627776) (minus-size part 1099511627776 k (omega arith)) (λ less l. sum-size total less b 1099511627776 t l room))
with_side-fits value true total n b One v m t room =
    then-size (product_of n (negsuc 0)) (λ less. sum_of total less) 1099511627776 (b + 1099511627776) (minus-size n 1099511627776 (omega (arith, m)) (omega arith)) (λ less l. sum-size total less b 1099511627776 t l room)
with_side-fits value false total n b One v m t room = (total, (refl, within (unsigned_abs total) b 1099511627776 t))

with_sides-fits : (value : Polynomial → ℤ) (constant : Bool) (total : ℤ) (b : ℕ) (ns : List ℤ) (ss : List Side) → AllByRecursion (IsSmallSide value) ss → AreAtMost 1048576 ns → unsigned_abs total ≤ b → b + length ns * 1099511627776 < 2 ^ 127 → HasSize (with_sides value constant total ns ss) (b + length ns * 1099511627776)
with_sides-fits value constant total b [] ss s m t room = (total, (refl, within (unsigned_abs total) b (0 * 1099511627776) t))
with_sides-fits value constant total b (n ∷ ns) [] s m t room = (total, (refl, within (unsigned_abs total) b (suc (length ns) * 1099511627776) t))
with_sides-fits value constant total b (n ∷ ns) (x ∷ ss) s m t room =
    subst (λ (most : ℕ). HasSize (with_sides value constant total (n ∷ ns) (x ∷ ss)) most) same
    (then-size (with_side value constant total n x) (λ next. with_sides value constant next ns ss) (b + 1099511627776) (b + 1099511627776 + length ns * 1099511627776)
    (with_side-fits value constant total n b x s.0 m.0 t (omega (arith, room, more)))
    (λ next k. with_sides-fits value constant next (b + 1099511627776) ns ss s.1 m.1 k (omega (arith, room, more))))
  where
    more : suc (length ns) * 1099511627776 ≡ length ns * 1099511627776 + 1099511627776
    more = omega arith

    same : b + 1099511627776 + length ns * 1099511627776 ≡ b + suc (length ns) * 1099511627776
    same = omega (arith, more)

from_nothing-fits : (value : Polynomial → ℤ) (constant : Bool) (ns : List ℤ) (ss : List Side) → AllByRecursion (IsSmallSide value) ss → AreAtMost 1048576 ns → length ns * 1099511627776 < 2 ^ 127 → HasSize (with_sides value constant (pos 0) ns ss) (length ns * 1099511627776)
from_nothing-fits value constant ns ss s m room = subst (λ (most : ℕ). HasSize (with_sides value constant (pos 0) ns ss) most) (plain (length ns * 1099511627776)) (with_sides-fits value constant (pos 0) 0 ns ss s m (omega arith) (omega (arith, room)))
  where
    plain : (n : ℕ) → 0 + n ≡ n
    plain n = omega arith

-- a number of a polynomial that is at most 2 ^ 20 where all its numbers are
abbrev IsNumber : (Polynomial → ℤ) → Type 0
IsNumber value = (p : Polynomial) → HasNumbersUpTo 1048576 p → unsigned_abs (value p) ≤ 1048576

lower-small : (value : Polynomial → ℤ) → IsNumber value → (lower : List Polynomial) → AllByRecursion (HasNumbersUpTo 1048576) lower → AllByRecursion (IsSmallSide value) (map Lower lower ++ One ∷ [])
lower-small value f [] h = (tt, tt)
lower-small value f (p ∷ lower) h = (f p h.0, lower-small value f lower h.1)

sides-small : (value : Polynomial → ℤ) → IsNumber value → (terms lower : List Polynomial) → AllByRecursion (HasNumbersUpTo 1048576) terms → AllByRecursion (HasNumbersUpTo 1048576) lower → AllByRecursion (IsSmallSide value) (sides terms lower)
sides-small value f [] lower h k = lower-small value f lower k
sides-small value f (p ∷ terms) lower h k = (f p h.0, sides-small value f terms lower h.1 k)

-- the result is a list of numbers of at most this size, or a form
abbrev HasSizes : Result (List ℤ) Step.Wide → ℕ → Type 0
HasSizes r most = (xs : List ℤ) × ((r ≡ Ok xs) × AreAtMost most xs)

record IsSmallForm (r : Result Form Step.Wide) (most : ℕ) : Type 0 where
  form : Form
  is : r ≡ Ok form
  numbers : AreAtMost most form.numbers
  rest : unsigned_abs form.rest ≤ most

difference_numbers-fits : (ns : List ℤ) (ss : List Side) (cs : List (List Col)) → ((c : List Col) → AllByRecursion (IsSmallSide (coefficient_at c)) ss) → AreAtMost 1048576 ns → length ns * 1099511627776 < 2 ^ 127 → HasSizes (difference_numbers ns ss cs) (length ns * 1099511627776)
difference_numbers-fits ns ss [] s m room = ([], (refl, tt))
difference_numbers-fits ns ss (c ∷ cs) s m room = both (from_nothing-fits (coefficient_at c) false ns ss (s c) m room) (difference_numbers-fits ns ss cs s m room)
  where
    both : HasSize (with_sides (coefficient_at c) false (pos 0) ns ss) (length ns * 1099511627776) → HasSizes (difference_numbers ns ss cs) (length ns * 1099511627776) → HasSizes (difference_numbers ns ss (c ∷ cs)) (length ns * 1099511627776)
    both z more = (
      z.0 ∷ more.0,
      (
        ap (λ (q : Result ℤ Step.Wide). q >>= λ number. difference_numbers ns ss cs >>= λ others. numbers_ok (number ∷ others)) z.1.0
            ∙ ap (λ (q : Result (List ℤ) Step.Wide). q >>= λ others. numbers_ok (z.0 ∷ others)) more.1.0,
        (z.1.1, more.1.1),
      ),
    )

difference_form-fits : (ns : List ℤ) (terms lower : List Polynomial) (cs : List (List Col)) → AllByRecursion (HasNumbersUpTo 1048576) terms → AllByRecursion (HasNumbersUpTo 1048576) lower → AreAtMost 1048576 ns → length ns * 1099511627776 < 2 ^ 127 → IsSmallForm (difference_form ns (sides terms lower) cs) (length ns * 1099511627776)
difference_form-fits ns terms lower cs t l m room =
    both (difference_numbers-fits ns (sides terms lower) cs (λ c. sides-small (coefficient_at c) (λ p h. coefficient-small 1048576 p.terms c h.terms) terms lower t l) m room)
    (from_nothing-fits rest_of true ns (sides terms lower) (sides-small rest_of (λ p h. h.rest) terms lower t l) m room)
  where
    both : HasSizes (difference_numbers ns (sides terms lower) cs) (length ns * 1099511627776) → HasSize (with_sides rest_of true (pos 0) ns (sides terms lower)) (length ns * 1099511627776) → IsSmallForm (difference_form ns (sides terms lower) cs) (length ns * 1099511627776)
    both zs rest = record {
      form = record { numbers = zs.0; rest = rest.0 };
      is = ap (λ (q : Result (List ℤ) Step.Wide). q >>= λ numbers. with_sides rest_of true (pos 0) ns (sides terms lower) >>= λ last. form_ok (record { numbers = numbers; rest = last })) zs.1.0
          ∙ ap (λ (q : Result ℤ Step.Wide). q >>= λ last. form_ok (record { numbers = zs.0; rest = last })) rest.1.0;
      numbers = zs.1.1;
      rest = rest.1.1;
    }

-- ---- multiples of the difference

multiples_of-fits : (times : ℤ → Result ℤ Step.Wide) (most : ℕ) (zs : List ℤ) → ((z : ℤ) → unsigned_abs z ≤ most → HasValue (times z)) → AreAtMost most zs → HasValue (multiples_of times zs)
multiples_of-fits times most [] f h = ([], refl)
multiples_of-fits times most (z ∷ zs) f h = both (f z h.0) (multiples_of-fits times most zs f h.1)
  where
    both : HasValue (times z) → HasValue (multiples_of times zs) → HasValue (multiples_of times (z ∷ zs))
    both next more =
        then-value (times z) (λ number. multiples_of times zs >>= λ others. numbers_ok (number ∷ others)) next.0 next.1
        (then-value (multiples_of times zs) (λ others. numbers_ok (next.0 ∷ others)) more.0 more.1 (next.0 ∷ more.0, refl))

multiple_of-fits : (times : ℤ → Result ℤ Step.Wide) (most : ℕ) (form : Form) → ((z : ℤ) → unsigned_abs z ≤ most → HasValue (times z)) → AreAtMost most form.numbers → unsigned_abs form.rest ≤ most → HasValue (multiple_of times form)
multiple_of-fits times most form f h k = both (multiples_of-fits times most form.numbers f h) (f form.rest k)
  where
    both : HasValue (multiples_of times form.numbers) → HasValue (times form.rest) → HasValue (multiple_of times form)
    both numbers rest =
        then-value (multiples_of times form.numbers) (λ ns. times form.rest >>= λ last. form_ok (record { numbers = ns; rest = last })) numbers.0 numbers.1
        (then-value (times form.rest) (λ last. form_ok (record { numbers = numbers.0; rest = last })) rest.0 rest.1 (record { numbers = numbers.0; rest = rest.0 }, refl))

-- a number that is no greater than a difference, times a scale
scaled_up-fits : (scale z : ℤ) (most : ℕ) → unsigned_abs scale ≤ 1048576 → unsigned_abs z ≤ most → 1048576 * most < 2 ^ 127 → HasSize (scale_times scale z) (1048576 * most)
scaled_up-fits scale z most s h room = product-size scale z (1048576 * most) (product-small 1048576 most scale z s h) room

scaled_down-fits : (scale z : ℤ) (most : ℕ) → unsigned_abs scale ≤ 1048576 → unsigned_abs z ≤ most → 1048576 * most < 2 ^ 127 → HasSize (minus_scale_times scale z) (1048576 * most)
scaled_down-fits scale z most s h room =
    then-size (product_of scale z) (λ part. product_of part (negsuc 0)) (1048576 * most) (1048576 * most) (scaled_up-fits scale z most s h room) (λ part k. minus-size part (1048576 * most) k room)

-- ---- parts of a test

-- both parts come to an end
pub both-fit : (part others : Result Bool Step.Wide) → HasValue part → HasValue others → HasValue (and_then part others)
both-fit part others p o = joined p.0 p.1
  where
    joined : (b : Bool) → part ≡ Ok b → HasValue (and_then part others)
    joined true e = (o.0, ap (λ (q : Result Bool Step.Wide). and_then q others) e ∙ o.1)
    joined false e = (false, ap (λ (q : Result Bool Step.Wide). and_then q others) e)

-- the others, where the first is true
pub second-fits : (b : Bool) (others : Result Bool Step.Wide) → (b ≡ true → HasValue others) → HasValue (and_then (bool_ok b) others)
second-fits true others f = f refl
second-fits false others f = (false, refl)

pub all_of-fits : {A : Type 0} (part : A → Result Bool Step.Wide) (xs : List A) → AllByRecursion (λ x. HasValue (part x)) xs → HasValue (all_of part xs)
all_of-fits part [] h = (true, refl)
all_of-fits part (x ∷ xs) h = both-fit (part x) (all_of part xs) h.0 (all_of-fits part xs h.1)

-- ---- ties

-- a case of a calm question
pub record IsSmallCase (cs : List (List Col)) (case : Change) : Type 0 where
  pub terms : AllByRecursion (HasNumbersUpTo 1048576) case.terms
  pub calm : IsCalmUpTo 1048576 (row_frame cs case.rows)
  pub few : length case.rows < 2 ^ 64

half-fits : (scaled : ℤ → ℤ → Result ℤ Step.Wide) (cs : List (List Col)) (lower : List Polynomial) (numbers : List ℤ) (case : Change) (scale : ℤ) (by : List ℤ)
    → ((z : ℤ) → unsigned_abs z ≤ length numbers * 1099511627776 → HasSize (scaled scale z) (1048576 * (length numbers * 1099511627776)))
    → IsSmallCase cs case → AllByRecursion (HasNumbersUpTo 1048576) lower → AreAtMost 1048576 numbers → length numbers < 2 ^ 61 → AreAtMost 1048576 by
    → HasValue (tested_half scaled cs case.rows (difference_form numbers (sides case.terms lower) cs) scale by)
half-fits scaled cs lower numbers case scale by times k l m few b = second-fits (are_multipliers case.rows by && int_le (pos 1) scale) (tested_multiple (scaled scale) cs case.rows (difference_form numbers (sides case.terms lower) cs) by) (λ e. whole multiples difference)
  where
    multiples : HasValue (sum_of_multiples case.rows by cs)
    multiples =
        multiples-fit 1048576 case.rows by cs (own_small 1048576 cs case.rows (small_frame 1048576 cs case.rows k.calm)) b
        (let rows : length case.rows < 2 ^ 64 = k.few in omega (arith, rows))

    difference : IsSmallForm (difference_form numbers (sides case.terms lower) cs) (length numbers * 1099511627776)
    difference = difference_form-fits numbers case.terms lower cs k.terms l m (omega (arith, few))

    whole : HasValue (sum_of_multiples case.rows by cs) → IsSmallForm (difference_form numbers (sides case.terms lower) cs) (length numbers * 1099511627776) → HasValue (tested_multiple (scaled scale) cs case.rows (difference_form numbers (sides case.terms lower) cs) by)
    whole left own =
        then-value (sum_of_multiples case.rows by cs) (λ sum. difference_form numbers (sides case.terms lower) cs >>= λ form. multiple_of (scaled scale) form >>= λ multiple. bool_ok (same_form sum multiple)) left.0 left.1
        (then-value (difference_form numbers (sides case.terms lower) cs) (λ form. multiple_of (scaled scale) form >>= λ multiple. bool_ok (same_form left.0 multiple)) own.form own.is
        (last (multiple_of-fits (scaled scale) (length numbers * 1099511627776) own.form (λ z h. value_of z (times z h)) own.numbers own.rest)))
      where
        value_of : (z : ℤ) → HasSize (scaled scale z) (1048576 * (length numbers * 1099511627776)) → HasValue (scaled scale z)
        value_of z v = (v.0, v.1.0)

        last : HasValue (multiple_of (scaled scale) own.form) → HasValue (multiple_of (scaled scale) own.form >>= λ multiple. bool_ok (same_form left.0 multiple))
        last right = then-value (multiple_of (scaled scale) own.form) (λ multiple. bool_ok (same_form left.0 multiple)) right.0 right.1 (same_form left.0 right.0, refl)

pub tie-fits : (cs : List (List Col)) (lower : List Polynomial) (numbers : List ℤ) (case : Change) (tie : Tie) → IsSmallCase cs case → AllByRecursion (HasNumbersUpTo 1048576) lower → AreAtMost 1048576 numbers → length numbers < 2 ^ 61 → IsSmallTie tie → HasValue (tested_tie cs lower numbers case tie)
tie-fits cs lower numbers case tie k l m few t =
    both-fit (tested_half scale_times cs case.rows (difference_form numbers (sides case.terms lower) cs) tie.up_scale tie.up) (tested_half minus_scale_times cs case.rows (difference_form numbers (sides case.terms lower) cs) tie.down_scale tie.down)
    (half-fits scale_times cs lower numbers case tie.up_scale tie.up (λ z h. scaled_up-fits tie.up_scale z (length numbers * 1099511627776) t.up_scale h (omega (arith, few))) k l m few t.up)
    (half-fits minus_scale_times cs lower numbers case tie.down_scale tie.down (λ z h. scaled_down-fits tie.down_scale z (length numbers * 1099511627776) t.down_scale h (omega (arith, few))) k l m few t.down)

ties-fit : (cs : List (List Col)) (lower : List Polynomial) (numbers : List ℤ) (cases : List Change) (ties : List Tie) → AllByRecursion (IsSmallCase cs) cases → AllByRecursion (HasNumbersUpTo 1048576) lower → AreAtMost 1048576 numbers → length numbers < 2 ^ 61 → AllByRecursion IsSmallTie ties
    → AllByRecursion (λ (p : Change × Tie). HasValue (tested_tie cs lower numbers p.0 p.1)) (zip cases ties)
ties-fit cs lower numbers [] ties k l m few t = tt
ties-fit cs lower numbers (case ∷ cases) [] k l m few t = tt
ties-fit cs lower numbers (case ∷ cases) (tie ∷ ties) k l m few t = (tie-fits cs lower numbers case tie k.0 l m few t.0, ties-fit cs lower numbers cases ties k.1 l m few t.1)

-- a relation with a number for each unknown
numbers-length : (cases : List Change) (lower : List Polynomial) (relation : Relation) → has_unknowns cases lower relation ≡ true → length (numbers_of relation) ≡ unknown_count cases lower
numbers-length cases lower relation h =
    let own : length relation.a ≡ term_count cases = eqb-true (length relation.a) (term_count cases) (both_true (length relation.a == term_count cases) (length relation.b == length lower) h).0 in
    let others : length relation.b ≡ length lower = eqb-true (length relation.b) (length lower) (both_true (length relation.a == term_count cases) (length relation.b == length lower) h).1 in
    let behind : length (relation.b ++ relation.c ∷ []) ≡ length relation.b + 1 = long relation.b (relation.c ∷ []) in
    let all : length (relation.a ++ (relation.b ++ relation.c ∷ [])) ≡ length relation.a + length (relation.b ++ relation.c ∷ []) = long relation.a (relation.b ++ relation.c ∷ []) in omega (arith, own, others, behind, all)

pub relation-fits : (cs : List (List Col)) (cases : List Change) (lower : List Polynomial) (relation : Relation) → AllByRecursion (IsSmallCase cs) cases → AllByRecursion (HasNumbersUpTo 1048576) lower → has_unknowns cases lower relation ≡ true → unknown_count cases lower < 2 ^ 61 → IsSmallRelation relation → HasValue (tested_relation cs cases lower relation)
relation-fits cs cases lower relation k l counts few r =
    second-fits (length relation.ties == length cases) (all_of (λ (p : Change × Tie). tested_tie cs lower (numbers_of relation) p.0 p.1) (zip cases relation.ties))
    (λ e. all_of-fits (λ (p : Change × Tie). tested_tie cs lower (numbers_of relation) p.0 p.1) (zip cases relation.ties)
    (ties-fit cs lower (numbers_of relation) cases relation.ties k l r.numbers (subst (λ (n : ℕ). n < 2 ^ 61) (sym (numbers-length cases lower relation counts)) few) r.ties))

pub relations-fit : (cs : List (List Col)) (cases : List Change) (lower : List Polynomial) (relations : List Relation) → AllByRecursion (IsSmallCase cs) cases → AllByRecursion (HasNumbersUpTo 1048576) lower → list_all (has_unknowns cases lower) relations ≡ true → unknown_count cases lower < 2 ^ 61 → AllByRecursion IsSmallRelation relations
    → AllByRecursion (λ (relation : Relation). HasValue (tested_relation cs cases lower relation)) relations
relations-fit cs cases lower [] k l counts few r = tt
relations-fit cs cases lower (relation ∷ relations) k l counts few r = (
  relation-fits cs cases lower relation k l (both_true (has_unknowns cases lower relation) (list_all (has_unknowns cases lower) relations) counts).0 few r.0,
  relations-fit cs cases lower relations k l (both_true (has_unknowns cases lower relation) (list_all (has_unknowns cases lower) relations) counts).1 few r.1,
)
