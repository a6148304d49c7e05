-- What the basis of the rest spans is 0 at the pivots of vectors in reduced echelon form.
use Rattle.std.proofs.Common.{◌≡◌, ◌≢◌, ℕ, zero, suc, ◌<◌, Bool, true, false, cond, refl, sym, ap, subst, ◌∙◌, arith, List, [], ◌∷◌, ◌++◌, length, map, ℤ, pos, ◌+ℤ◌, ◌*ℤ◌}
use Rattle.std.specs.Prelude.{Some, not, ◌&&◌}
use Rattle.std.specs.List.{AllByRecursion, cons_option, find}
use Rattle.std.proofs.lemmas.Bool.Decides.{Decides-int_eq}
use Rattle.std.proofs.lemmas.Int.{ints}
use Rattle.std.proofs.Math.IntN.{zero-*ℤ}
use Rattle.items.proofs.Each.{each-append, each-both, each-more}
use Rattle.whole_numbers.specs.Dot.{dot}
use Rattle.farkas_check.specs.Relations.{entry, pivot}
use Rattle.cones.specs.Cones.{AreWide}
use Rattle.cones.specs.Spans.{IsSpanned}
use Rattle.cones.specs.Split.{zeros, units, rest_basis, is_zero_on, is_pivot, pivots_behind, pivots}
use Rattle.cones.proofs.Numbers.{above_not_zero}
use Rattle.cones.proofs.PivotSearch.{pivot-test}
use Rattle.cones.proofs.Several.{all_cleared}
use Rattle.cones.proofs.Spanning.{vanishes_on}
use Rattle.cones.proofs.Splitting.{zeros_dot, units-independent}
use Rattle.facet_hull.proofs.Echelon.{AreEchelon, IsAhead, before_pivot}
use Rattle.facet_hull.proofs.Origins.{each_of_map}

-- ---- units by their places

-- the unit of a place among so many
abbrev unit : ℕ → ℕ → List ℤ
unit zero place = []
unit (suc n) zero = pos 1 ∷ zeros n
unit (suc n) (suc place) = pos 0 ∷ unit n place

unit-is : (n place : ℕ) (v : List ℤ) → place < n → dot (unit n place) v ≡ entry v place
unit-is zero place v h = absurd (omega (arith, h))
unit-is (suc n) zero [] h = refl
unit-is (suc n) zero (x ∷ v) h = plain x (dot (zeros n) v) (zeros_dot n v)
  where
    plain : (x y : ℤ) → y ≡ pos 0 → pos 1 *ℤ x +ℤ y ≡ x
    plain x y e = omega (arith, ints)
unit-is (suc n) (suc place) [] h = refl
unit-is (suc n) (suc place) (x ∷ v) h = plain (pos 0 *ℤ x) (dot (unit n place) v) (zero-*ℤ x) ∙ unit-is n place v (omega (arith, h))
  where
    plain : (x y : ℤ) → x ≡ pos 0 → x +ℤ y ≡ y
    plain x y e = omega (arith, ints)

find-map : (f : List ℤ → List ℤ) (test : List ℤ → Bool) (vs : List (List ℤ)) (v : List ℤ) → find (λ u. test (f u)) vs ≡ Some v → find test (map f vs) ≡ Some (f v)
find-map f test [] v e = cc
find-map f test (u ∷ vs) v e = go (test (f u)) e (λ k. find-map f test vs v k)
  where
    go : (b : Bool) → cond b (Some u) (find (λ u. test (f u)) vs) ≡ Some v → (find (λ u. test (f u)) vs ≡ Some v → find test (map f vs) ≡ Some (f v)) → cond b (Some (f u)) (find test (map f vs)) ≡ Some (f v)
    go true e again = let same : u ≡ v = cc in ap (λ w. Some (f w)) same
    go false e again = again e

-- the first unit that passes
unit-found : (n place : ℕ) (test : List ℤ → Bool) → place < n → ((j : ℕ) → j < place → test (unit n j) ≡ false) → test (unit n place) ≡ true → find test (units n) ≡ Some (unit n place)
unit-found zero place test h f e = absurd (omega (arith, h))
unit-found (suc n) zero test h f e = ap (λ b. cond b (Some (pos 1 ∷ zeros n)) (find test (map (λ v. pos 0 ∷ v) (units n)))) e
unit-found (suc n) (suc place) test h f e =
    ap (λ b. cond b (Some (pos 1 ∷ zeros n)) (find test (map (λ v. pos 0 ∷ v) (units n)))) (f 0 (omega arith))
    ∙ find-map (λ v. pos 0 ∷ v) test (units n) (unit n place)
    (unit-found n place (λ v. test (pos 0 ∷ v)) (omega (arith, h)) (λ j l. f (suc j) (omega (arith, l))) e)

entry_inside : (v : List ℤ) (k : ℕ) → entry v k ≢ pos 0 → k < length v
entry_inside [] k n = absurd (n refl)
entry_inside (z ∷ v) zero n = omega arith
entry_inside (z ∷ v) (suc k) n = let l = entry_inside v k n in omega (arith, l)

-- ---- the pivots that are looked for

no_pivot : (v : List ℤ) (before behind : List (List ℤ)) (line : List ℤ) → dot line v ≡ pos 0 → is_pivot v before behind line ≡ false
no_pivot v before behind line e = ap (λ b. not b && is_zero_on line before && is_zero_on line behind) ((Decides-int_eq (dot line v) (pos 0)).1 e)

-- each of the vectors before is 0 at the pivots
abbrev AreAway : List (List ℤ) → List (List ℤ) → Type 0
AreAway vs before = AllByRecursion (λ u. AllByRecursion (λ v. entry u (pivot v) ≡ pos 0) vs) before

first_pivot : (n : ℕ) (before : List (List ℤ)) (v : List ℤ) (vs : List (List ℤ)) → AreEchelon (v ∷ vs) → AreWide n (v ∷ vs) → AreAway (v ∷ vs) before → find (is_pivot v before vs) (units n) ≡ Some (unit n (pivot v))
first_pivot n before v vs h w b =
    unit-found n (pivot v) (is_pivot v before vs) inside
    (λ j l. no_pivot v before vs (unit n j) (unit-is n j v (omega (arith, l, inside)) ∙ before_pivot v j l))
    (pivot-test v before vs (unit n (pivot v)) (record {
      seen = λ e. above_not_zero (entry v (pivot v)) h.0 (sym (unit-is n (pivot v) v inside) ∙ e);
      before_zero = each-more (λ u. AllByRecursion (λ x. entry u (pivot x) ≡ pos 0) (v ∷ vs)) (λ u. dot (unit n (pivot v)) u ≡ pos 0) (λ u k. unit-is n (pivot v) u inside ∙ k.0) before b;
      behind_zero = each-more (IsAhead v) (λ u. dot (unit n (pivot v)) u ≡ pos 0) (λ u k. unit-is n (pivot v) u inside ∙ before_pivot u (pivot v) k.0) vs h.1;
    }))
  where
    inside : pivot v < n
    inside = subst (λ m. pivot v < m) w.0 (entry_inside v (pivot v) (above_not_zero (entry v (pivot v)) h.0))

pivots_are : (n : ℕ) (before vs : List (List ℤ)) → AreEchelon vs → AreWide n vs → AreAway vs before → pivots_behind (units n) before vs ≡ map (λ v. unit n (pivot v)) vs
pivots_are n before [] h w b = refl
pivots_are n before (v ∷ vs) h w b =
    ap (λ o. cons_option o (pivots_behind (units n) (before ++ v ∷ []) vs)) (first_pivot n before v vs h w b)
    ∙ ap (λ (ps : List (List ℤ)). unit n (pivot v) ∷ ps)
    (pivots_are n (before ++ v ∷ []) vs h.2 w.1
    (each-append (λ u. AllByRecursion (λ x. entry u (pivot x) ≡ pos 0) vs) before (v ∷ [])
    (each-more (λ u. AllByRecursion (λ x. entry u (pivot x) ≡ pos 0) (v ∷ vs)) (λ u. AllByRecursion (λ x. entry u (pivot x) ≡ pos 0) vs) (λ u k. k.1) before b)
    (each-more (IsAhead v) (λ x. entry v (pivot x) ≡ pos 0) (λ x k. k.1) vs h.1, tt)))

-- ---- the basis of the rest

-- the units at the pivots are 0 on it
rest-zero : (vs : List (List ℤ)) (count : ℕ) → AreEchelon vs → AreWide count vs → AllByRecursion (λ v. AllByRecursion (λ u. dot (unit count (pivot v)) u ≡ pos 0) (rest_basis vs count)) vs
rest-zero vs count h w =
    each_of_map (λ line. AllByRecursion (λ u. dot line u ≡ pos 0) (rest_basis vs count)) (λ v. unit count (pivot v)) vs
    (subst (λ (ps : List (List ℤ)). AllByRecursion (λ line. AllByRecursion (λ u. dot line u ≡ pos 0) (rest_basis vs count)) ps) (pivots_are count [] vs h w tt)
    (all_cleared (pivots (units count) vs) (units count) (units-independent count)).zero_there)

each-inside : (count : ℕ) (vs : List (List ℤ)) → AreEchelon vs → AreWide count vs → AllByRecursion (λ v. pivot v < count) vs
each-inside count [] h w = tt
each-inside count (v ∷ vs) h w = (subst (λ m. pivot v < m) w.0 (entry_inside v (pivot v) (above_not_zero (entry v (pivot v)) h.0)), each-inside count vs h.2 w.1)

-- so what it spans is 0 at the pivots
pub rest-cleared : (vs : List (List ℤ)) (count : ℕ) → AreEchelon vs → AreWide count vs → (f : List ℤ) → IsSpanned (rest_basis vs count) (λ line. dot line f) → AllByRecursion (λ v. entry f (pivot v) ≡ pos 0) vs
rest-cleared vs count h w f s =
    each-more (λ v. (pivot v < count) × AllByRecursion (λ u. dot (unit count (pivot v)) u ≡ pos 0) (rest_basis vs count)) (λ v. entry f (pivot v) ≡ pos 0)
    (λ v k. sym (unit-is count (pivot v) f k.0) ∙ vanishes_on (rest_basis vs count) (λ line. dot line f) (unit count (pivot v)) k.1 s) vs
    (each-both (λ v. pivot v < count) (λ v. AllByRecursion (λ u. dot (unit count (pivot v)) u ≡ pos 0) (rest_basis vs count)) vs (each-inside count vs h w) (rest-zero vs count h w))
