-- What steps of 128 bits come to is what is defined, where none of them leaves 128 bits.
use Rattle.std.proofs.Common.{◌≡◌, ℕ, Bool, true, false, cond, not, ◌&&◌, refl, sym, subst, arith, List, [], ◌∷◌, ◌++◌, map, ℤ, pos, negsuc, ◌+ℤ◌, ◌*ℤ◌}
use Rattle.std.specs.Prelude.{Option, None, Some, Result, Ok, Err, IfOk, IfErr, neg_ℤ, unsigned_abs, int_le}
use Rattle.std.specs.List.{cons_option, find, flat_map, list_all}
use Rattle.std.specs.Ordering.{int_eq}
use Rattle.std.proofs.lemmas.Bool.{le-ltb}
use Rattle.items.specs.Gives.{◌>>=◌, Gives}
use Rattle.whole_numbers.specs.Dot.{dot}
use Rattle.whole_numbers.specs.Fits.{fits, sum_of, product_of}
use Rattle.whole_numbers.proofs.Ring.{neg_ℤ-neg_ℤ}
use Rattle.cones.specs.Cones.{Cleared, Kept, Given, along_sign, projection, clearing, clearing_with, are_at_most, ends, extremes_at_zero, extremes}
use Rattle.cones.specs.InBits as in_bits
use Rattle.cones.specs.InBits.{Made, IsOrLeaves, ◌⊞◌}
use Rattle.cones.specs.Laws.{StepsMakeWhatIsDefined}
use Rattle.cones.specs.Refusal.{IsRefusal, cause}
use Rattle.cones.specs.Split.{units, remainder, clearing_by_all, flat, is_zero_on, is_pivot, pivots_behind, pivots, rest_basis}
use Rattle.cones.specs.Tangents.{Point, difference, direction, directions, facets_at, facets_of, facets}
use Rattle.cones.specs.Vectors.{combination, lowest, opposite}
use Rattle.cones.specs.declared.stop.ConeStop.{ConeStop}
use Rattle.cones.specs.declared.stop.ConeStop.TheVariants.{Wide, Memory}
use Rattle.cones.proofs.Signs.{minus}
use Rattle.cones.proofs.Tangency.{put_all}

-- ---- one step after another

pub value_of : {X : Type 0} (defined made : X) (r : Made X) → IsOrLeaves defined r → r ≡ Ok made → made ≡ defined
value_of defined made r h e = subst (IsOrLeaves defined) e h

pub IsOrLeaves-same : {X : Type 0} (x y : X) (r : Made X) → x ≡ y → IsOrLeaves x r → IsOrLeaves y r
IsOrLeaves-same x y r e h = subst (λ z. IsOrLeaves z r) e h

pub IsOrLeaves-bind : {X Y : Type 0} (x : X) (y : Y) (r : Made X) (f : X → Made Y) → IsOrLeaves x r → IsOrLeaves y (f x) → IsOrLeaves y (r >>= f)
IsOrLeaves-bind x y (Ok made) f h k = subst (λ z. IsOrLeaves y (f z)) (sym h) k
IsOrLeaves-bind x y (Err step) f h k = h

pub behind-made : {X : Type 0} (front xs : List X) (r : Made (List X)) → IsOrLeaves xs r → IsOrLeaves (front ++ xs) (in_bits.behind front r)
behind-made front xs r h = IsOrLeaves-bind xs (front ++ xs) r (λ made. Ok (front ++ made)) h refl

pub both-made : (a b : Bool) (r s : Made Bool) → IsOrLeaves a r → IsOrLeaves b s → IsOrLeaves (a && b) (in_bits.both r s)
both-made a b r s h k = IsOrLeaves-bind a (a && b) r (λ x. cond x s (Ok false)) h (go a)
  where
    go : (x : Bool) → IsOrLeaves (x && b) (cond x s (Ok false))
    go true = k
    go false = refl

pub each-made : {X Y : Type 0} (f : X → Made Y) (g : X → Y) → ((x : X) → IsOrLeaves (g x) (f x)) → (xs : List X) → IsOrLeaves (map g xs) (in_bits.each f xs)
each-made f g h [] = refl
each-made f g h (x ∷ xs) =
    IsOrLeaves-bind (g x) (g x ∷ map g xs) (f x) (λ y. in_bits.behind (y ∷ []) (in_bits.each f xs)) (h x) (behind-made (g x ∷ []) (map g xs) (in_bits.each f xs) (each-made f g h xs))

pub all_of-made : {X Y : Type 0} (f : X → Made (List Y)) (g : X → List Y) → ((x : X) → IsOrLeaves (g x) (f x)) → (xs : List X) → IsOrLeaves (flat_map g xs) (in_bits.all_of f xs)
all_of-made f g h [] = refl
all_of-made f g h (x ∷ xs) =
    IsOrLeaves-bind (g x) (g x ++ flat_map g xs) (f x) (λ ys. in_bits.behind ys (in_bits.all_of f xs)) (h x) (behind-made (g x) (flat_map g xs) (in_bits.all_of f xs) (all_of-made f g h xs))

pub are_all-made : {X : Type 0} (f : X → Made Bool) (g : X → Bool) → ((x : X) → IsOrLeaves (g x) (f x)) → (xs : List X) → IsOrLeaves (list_all g xs) (in_bits.are_all f xs)
are_all-made f g h [] = refl
are_all-made f g h (x ∷ xs) = both-made (g x) (list_all g xs) (f x) (in_bits.are_all f xs) (h x) (are_all-made f g h xs)

pub first_of-made : {X : Type 0} (f : X → Made Bool) (g : X → Bool) → ((x : X) → IsOrLeaves (g x) (f x)) → (xs : List X) → IsOrLeaves (find g xs) (in_bits.first_of f xs)
first_of-made f g h [] = refl
first_of-made {X = X} f g h (x ∷ xs) = IsOrLeaves-bind (g x) (find g (x ∷ xs)) (f x) (λ b. cond b (Ok (Some x)) (in_bits.first_of f xs)) (h x) (go (g x) (first_of-made f g h xs))
  where
    go : (b : Bool) → IsOrLeaves (find g xs) (in_bits.first_of f xs) → IsOrLeaves (cond b (Some x) (find g xs)) (cond b (Ok (Some x)) (in_bits.first_of f xs))
    go true later = refl
    go false later = later

-- ---- numbers

product-made : (a b : ℤ) → IsOrLeaves (a *ℤ b) (product_of a b)
product-made a b = go (fits (a *ℤ b)) refl
  where
    go : (t : Bool) → fits (a *ℤ b) ≡ t → IsOrLeaves (a *ℤ b) (cond t (Ok (a *ℤ b)) (Err (record { left = a; right = b; times = true })))
    go true f = refl
    go false f = f

sum-made : (a b : ℤ) → IsOrLeaves (a +ℤ b) (sum_of a b)
sum-made a b = go (fits (a +ℤ b)) refl
  where
    go : (t : Bool) → fits (a +ℤ b) ≡ t → IsOrLeaves (a +ℤ b) (cond t (Ok (a +ℤ b)) (Err (record { left = a; right = b; times = false })))
    go true f = refl
    go false f = f

two-made : (a b : ℤ) (r s : Made ℤ) → IsOrLeaves a r → IsOrLeaves b s → IsOrLeaves (a +ℤ b) (r ⊞ s)
two-made a b r s h k = IsOrLeaves-bind a (a +ℤ b) r (λ x. s >>= λ y. sum_of x y) h (IsOrLeaves-bind b (a +ℤ b) s (λ y. sum_of a y) k (sum-made a b))

opposite_number-made : (z : ℤ) → IsOrLeaves (neg_ℤ z) (in_bits.opposite_number z)
opposite_number-made z = IsOrLeaves-same (z *ℤ negsuc 0) (neg_ℤ z) (product_of z (negsuc 0)) (minus z) (product-made z (negsuc 0))

magnitude-made : (z : ℤ) → IsOrLeaves (pos (unsigned_abs z)) (in_bits.magnitude z)
magnitude-made (pos n) = subst (λ b. IsOrLeaves (pos n) (cond b (in_bits.opposite_number (pos n)) (Ok (pos n)))) (sym (le-ltb n 0 (omega arith))) refl
magnitude-made (negsuc n) = opposite_number-made (negsuc n)

opposite_along-made : (s z : ℤ) → IsOrLeaves (along_sign s (neg_ℤ z)) (in_bits.opposite_along s z)
opposite_along-made (pos n) z = subst (λ b. IsOrLeaves (neg_ℤ z) (cond b (Ok z) (in_bits.opposite_number z))) (sym (le-ltb n 0 (omega arith))) (opposite_number-made z)
opposite_along-made (negsuc n) z = sym (neg_ℤ-neg_ℤ z)

-- ---- vectors

pub dot-made : (xs ys : List ℤ) → IsOrLeaves (dot xs ys) (in_bits.dot xs ys)
dot-made [] ys = refl
dot-made (x ∷ xs) [] = refl
dot-made (x ∷ xs) (y ∷ ys) = two-made (x *ℤ y) (dot xs ys) (product_of x y) (in_bits.dot xs ys) (product-made x y) (dot-made xs ys)

pub combination-made : (a b : ℤ) (v u : List ℤ) → IsOrLeaves (combination a v b u) (in_bits.combination a v b u)
combination-made a b [] ys = each-made (product_of b) (λ y. b *ℤ y) (product-made b) ys
combination-made a b (x ∷ xs) [] = each-made (product_of a) (λ z. a *ℤ z) (product-made a) (x ∷ xs)
combination-made a b (x ∷ xs) (y ∷ ys) =
    IsOrLeaves-bind (a *ℤ x +ℤ b *ℤ y) ((a *ℤ x +ℤ b *ℤ y) ∷ combination a xs b ys) (in_bits.sum_of_products a x b y) (λ z. in_bits.behind (z ∷ []) (in_bits.combination a xs b ys))
    (two-made (a *ℤ x) (b *ℤ y) (product_of a x) (product_of b y) (product-made a x) (product-made b y))
    (behind-made ((a *ℤ x +ℤ b *ℤ y) ∷ []) (combination a xs b ys) (in_bits.combination a xs b ys) (combination-made a b xs ys))

pub opposite-made : (v : List ℤ) → IsOrLeaves (opposite v) (in_bits.opposite v)
opposite-made v = each-made in_bits.opposite_number neg_ℤ opposite_number-made v

-- ---- one line made 0

pub projection-made : (line pivot v : List ℤ) → IsOrLeaves (projection line pivot v) (in_bits.projection line pivot v)
projection-made line pivot v = IsOrLeaves-bind own (projection line pivot v) (in_bits.dot line pivot) _ (dot-made line pivot)
    (IsOrLeaves-bind value (projection line pivot v) (in_bits.dot line v) _ (dot-made line v)
    (IsOrLeaves-bind (pos (unsigned_abs own)) (projection line pivot v) (in_bits.magnitude own) _ (magnitude-made own)
    (IsOrLeaves-bind (along_sign own (neg_ℤ value)) (projection line pivot v) (in_bits.opposite_along own value) _ (opposite_along-made own value)
    (IsOrLeaves-bind (combination (pos (unsigned_abs own)) v (along_sign own (neg_ℤ value)) pivot) (projection line pivot v)
    (in_bits.combination (pos (unsigned_abs own)) v (along_sign own (neg_ℤ value)) pivot) (λ made. Ok (lowest made)) (combination-made (pos (unsigned_abs own)) (along_sign own (neg_ℤ value)) v pivot) refl))))
  where
    own : ℤ
    own = dot line pivot

    value : ℤ
    value = dot line v

clearing_with-made : (line v : List ℤ) (vs : List (List ℤ)) (c : Cleared) → IsOrLeaves (clearing_with line v vs c) (in_bits.clearing_with line v vs c)
clearing_with-made line v vs Kept = IsOrLeaves-bind (dot line v) (cond (int_eq (dot line v) (pos 0)) Kept (Given v vs)) (in_bits.dot line v) (λ value. Ok (cond (int_eq value (pos 0)) Kept (Given v vs))) (dot-made line v) refl
clearing_with-made line v vs (Given pivot rest) =
    IsOrLeaves-bind (projection line pivot v) (Given pivot (projection line pivot v ∷ rest)) (in_bits.projection line pivot v) (λ made. Ok (Given pivot (made ∷ rest))) (projection-made line pivot v) refl

pub clearing-made : (line : List ℤ) (vs : List (List ℤ)) → IsOrLeaves (clearing line vs) (in_bits.clearing line vs)
clearing-made line [] = refl
clearing-made line (v ∷ vs) =
    IsOrLeaves-bind (clearing line vs) (clearing_with line v vs (clearing line vs)) (in_bits.clearing line vs) (in_bits.clearing_with line v vs) (clearing-made line vs) (clearing_with-made line v vs (clearing line vs))

-- ---- the search

pub are_at_most-made : (lines : List (List ℤ)) (w : List ℤ) → IsOrLeaves (are_at_most lines w) (in_bits.are_at_most lines w)
are_at_most-made [] w = refl
are_at_most-made (line ∷ lines) w =
    both-made (int_le (dot line w) (pos 0)) (are_at_most lines w) (in_bits.is_at_most w line) (in_bits.are_at_most lines w)
    (IsOrLeaves-bind (dot line w) (int_le (dot line w) (pos 0)) (in_bits.dot line w) (λ value. Ok (int_le value (pos 0))) (dot-made line w) refl) (are_at_most-made lines w)

ends-made : (lines : List (List ℤ)) (w : List ℤ) → IsOrLeaves (ends lines w) (in_bits.ends lines w)
ends-made lines w = IsOrLeaves-bind (are_at_most lines w) (ends lines w) (in_bits.are_at_most lines w) _ (are_at_most-made lines w) (go (are_at_most lines w))
  where
    against : List (List ℤ)
    against = cond (are_at_most lines (opposite w)) (opposite w ∷ []) []

    turned : IsOrLeaves against (in_bits.opposite w >>= λ u. in_bits.are_at_most lines u >>= λ b. Ok (cond b (u ∷ []) []))
    turned = IsOrLeaves-bind (opposite w) against (in_bits.opposite w) _ (opposite-made w)
        (IsOrLeaves-bind (are_at_most lines (opposite w)) against (in_bits.are_at_most lines (opposite w)) (λ b. Ok (cond b (opposite w ∷ []) [])) (are_at_most-made lines (opposite w)) refl)

    go : (b : Bool) → IsOrLeaves (cond b (w ∷ []) against) (cond b (Ok (w ∷ [])) (in_bits.opposite w >>= λ u. in_bits.are_at_most lines u >>= λ b. Ok (cond b (u ∷ []) [])))
    go true = refl
    go false = turned

at_zero-made : (f : List (List ℤ) → List (List ℤ)) (g : List (List ℤ) → Made (List (List ℤ))) → ((basis : List (List ℤ)) → IsOrLeaves (f basis) (g basis)) → (c : Cleared) → IsOrLeaves (extremes_at_zero f c) (in_bits.extremes_at_zero g c)
at_zero-made f g h Kept = refl
at_zero-made f g h (Given pivot rest) = h rest

pub extremes-made : (lines rest basis : List (List ℤ)) → IsOrLeaves (extremes lines rest basis) (in_bits.extremes lines rest basis)
extremes-made lines [] [] = refl
extremes-made lines [] (w ∷ []) = ends-made lines w
extremes-made lines [] (v ∷ (u ∷ vs)) = refl
extremes-made lines (line ∷ rest) [] = refl
extremes-made lines (line ∷ rest) (w ∷ []) = ends-made lines w
extremes-made lines (line ∷ rest) (v ∷ (u ∷ vs)) =
    IsOrLeaves-bind left (taken ++ passed) (in_bits.clearing line (v ∷ u ∷ vs)) (λ c. in_bits.extremes_at_zero (in_bits.extremes lines rest) c >>= λ found. in_bits.behind found (in_bits.extremes lines rest (v ∷ u ∷ vs))) (clearing-made line (v ∷ u ∷ vs))
    (IsOrLeaves-bind taken (taken ++ passed) (in_bits.extremes_at_zero (in_bits.extremes lines rest) left) (λ found. in_bits.behind found (in_bits.extremes lines rest (v ∷ u ∷ vs))) (at_zero-made (extremes lines rest) (in_bits.extremes lines rest) (extremes-made lines rest) left)
    (behind-made taken passed (in_bits.extremes lines rest (v ∷ u ∷ vs)) (extremes-made lines rest (v ∷ u ∷ vs))))
  where
    left : Cleared
    left = clearing line (v ∷ u ∷ vs)

    passed : List (List ℤ)
    passed = extremes lines rest (v ∷ u ∷ vs)

    taken : List (List ℤ)
    taken = extremes_at_zero (extremes lines rest) left

-- ---- the vectors on which all lines are 0, and a basis of the rest

pub clearing_by_all-made : (lines basis : List (List ℤ)) → IsOrLeaves (clearing_by_all lines basis) (in_bits.clearing_by_all lines basis)
clearing_by_all-made [] basis = refl
clearing_by_all-made (line ∷ lines) basis =
    IsOrLeaves-bind (clearing line basis) (clearing_by_all lines (remainder basis (clearing line basis))) (in_bits.clearing line basis) (λ c. in_bits.clearing_by_all lines (remainder basis c)) (clearing-made line basis)
    (clearing_by_all-made lines (remainder basis (clearing line basis)))

pub flat-made : (lines : List (List ℤ)) (count : ℕ) → IsOrLeaves (flat lines count) (in_bits.flat lines count)
flat-made lines count = clearing_by_all-made lines (units count)

is_zero_at-made : (line v : List ℤ) → IsOrLeaves (int_eq (dot line v) (pos 0)) (in_bits.is_zero_at line v)
is_zero_at-made line v = IsOrLeaves-bind (dot line v) (int_eq (dot line v) (pos 0)) (in_bits.dot line v) (λ value. Ok (int_eq value (pos 0))) (dot-made line v) refl

is_zero_on-made : (line : List ℤ) (vs : List (List ℤ)) → IsOrLeaves (is_zero_on line vs) (in_bits.is_zero_on line vs)
is_zero_on-made line vs = are_all-made (in_bits.is_zero_at line) (λ v. int_eq (dot line v) (pos 0)) (is_zero_at-made line) vs

is_pivot-made : (v : List ℤ) (before behind : List (List ℤ)) (line : List ℤ) → IsOrLeaves (is_pivot v before behind line) (in_bits.is_pivot v before behind line)
is_pivot-made v before behind line = IsOrLeaves-same (not zero && (is_zero_on line before && is_zero_on line behind)) (is_pivot v before behind line) (in_bits.is_pivot v before behind line) (grouped (not zero))
    (both-made (not zero) (is_zero_on line before && is_zero_on line behind) (in_bits.negation (in_bits.is_zero_at line v)) (in_bits.both (in_bits.is_zero_on line before) (in_bits.is_zero_on line behind))
    (IsOrLeaves-bind zero (not zero) (in_bits.is_zero_at line v) (λ x. Ok (not x)) (is_zero_at-made line v) refl)
    (both-made (is_zero_on line before) (is_zero_on line behind) (in_bits.is_zero_on line before) (in_bits.is_zero_on line behind) (is_zero_on-made line before) (is_zero_on-made line behind)))
  where
    zero : Bool
    zero = int_eq (dot line v) (pos 0)

    grouped : (a : Bool) → (a && (is_zero_on line before && is_zero_on line behind)) ≡ (a && is_zero_on line before && is_zero_on line behind)
    grouped true = refl
    grouped false = refl

found_before : {X : Type 0} (found : Option X) (xs : List X) → cons_option found [] ++ xs ≡ cons_option found xs
found_before None xs = refl
found_before (Some x) xs = refl

pivots_behind-made : (lines before vs : List (List ℤ)) → IsOrLeaves (pivots_behind lines before vs) (in_bits.pivots_behind lines before vs)
pivots_behind-made lines before [] = refl
pivots_behind-made lines before (v ∷ vs) =
    IsOrLeaves-bind found (pivots_behind lines before (v ∷ vs)) (in_bits.first_of (in_bits.is_pivot v before vs) lines) (λ o. in_bits.behind (cons_option o []) (in_bits.pivots_behind lines (before ++ v ∷ []) vs))
    (first_of-made (in_bits.is_pivot v before vs) (is_pivot v before vs) (is_pivot-made v before vs) lines)
    (IsOrLeaves-same (cons_option found [] ++ rest) (pivots_behind lines before (v ∷ vs)) (in_bits.behind (cons_option found []) (in_bits.pivots_behind lines (before ++ v ∷ []) vs)) (found_before found rest)
    (behind-made (cons_option found []) rest (in_bits.pivots_behind lines (before ++ v ∷ []) vs) (pivots_behind-made lines (before ++ v ∷ []) vs)))
  where
    found : Option (List ℤ)
    found = find (is_pivot v before vs) lines

    rest : List (List ℤ)
    rest = pivots_behind lines (before ++ v ∷ []) vs

pub pivots-made : (lines vs : List (List ℤ)) → IsOrLeaves (pivots lines vs) (in_bits.pivots lines vs)
pivots-made lines vs = pivots_behind-made lines [] vs

pub rest_basis-made : (vs : List (List ℤ)) (count : ℕ) → IsOrLeaves (rest_basis vs count) (in_bits.rest_basis vs count)
rest_basis-made vs count =
    IsOrLeaves-bind (pivots (units count) vs) (rest_basis vs count) (in_bits.pivots (units count) vs) (λ ps. in_bits.clearing_by_all ps (units count)) (pivots-made (units count) vs) (clearing_by_all-made (pivots (units count) vs) (units count))

-- ---- the forms that bound points and rays

pub difference-made : (p q : Point) → IsOrLeaves (difference p q) (in_bits.difference p q)
difference-made p q =
    IsOrLeaves-bind (neg_ℤ q.over) (difference p q) (in_bits.opposite_number q.over) (λ by. in_bits.combination p.over q.numbers by p.numbers) (opposite_number-made q.over) (combination-made p.over (neg_ℤ q.over) q.numbers p.numbers)

pub direction-made : (p q : Point) → IsOrLeaves (direction p q) (in_bits.direction p q)
direction-made p q = IsOrLeaves-bind (difference p q) (direction p q) (in_bits.difference p q) (λ made. Ok (lowest made)) (difference-made p q) refl

pub directions-made : (points : List Point) (rays : List (List ℤ)) (p : Point) → IsOrLeaves (directions points rays p) (in_bits.directions points rays p)
directions-made points rays p =
    IsOrLeaves-bind (map (direction p) points) (directions points rays p) (in_bits.each (in_bits.direction p) points) (λ made. Ok (made ++ rays)) (each-made (in_bits.direction p) (direction p) (direction-made p) points) refl

facets_at-made : (basis : List (List ℤ)) (points : List Point) (rays : List (List ℤ)) (p : Point) → IsOrLeaves (facets_at basis points rays p) (in_bits.facets_at basis points rays p)
facets_at-made basis points rays p =
    IsOrLeaves-bind (directions points rays p) (facets_at basis points rays p) (in_bits.directions points rays p) (λ lines. in_bits.extremes lines lines basis) (directions-made points rays p)
    (extremes-made (directions points rays p) (directions points rays p) basis)

pub facets-made : (basis : List (List ℤ)) (points : List Point) (rays : List (List ℤ)) → IsOrLeaves (facets basis points rays) (in_bits.facets basis points rays)
facets-made basis points rays =
    IsOrLeaves-bind (facets_of basis points rays) (facets basis points rays) (in_bits.facets_of basis points rays) (λ found. Ok (put_all [] found))
    (all_of-made (in_bits.facets_at basis points rays) (facets_at basis points rays) (facets_at-made basis points rays) points) refl

pub steps_make_what_is_defined : StepsMakeWhatIsDefined
steps_make_what_is_defined = record {
  dots = dot-made;
  combinations = λ a v b u. combination-made a b v u;
  opposites = opposite-made;
  projections = projection-made;
  clearings = clearing-made;
  tests = are_at_most-made;
  searches = extremes-made;
  flats = flat-made;
  pivots_too = pivots-made;
  rests = rest_basis-made;
  differences = difference-made;
  ways = directions-made;
  facets_too = facets-made;
}

-- ---- what a call that gives it answers

pub given_value : {X : Type 0} (defined : X) (stated : Made X) (r : Result X ConeStop) → IsOrLeaves defined stated → Gives cause (λ x. x) r stated → IfOk r (λ made. made ≡ defined)
given_value defined stated (Ok made) h g = value_of defined made stated h g
given_value defined stated (Err stop) h g = tt

pub given_refusal : {X : Type 0} (defined : X) (stated : Made X) (r : Result X ConeStop) → IsOrLeaves defined stated → Gives cause (λ x. x) r stated → IfErr r IsRefusal
given_refusal defined stated (Ok made) h g = tt
given_refusal defined stated (Err (Wide step)) h g = subst (IsOrLeaves defined) g h
given_refusal defined stated (Err Memory) h g = tt
