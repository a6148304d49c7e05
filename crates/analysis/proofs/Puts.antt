-- Elements put at places of a list, and lists with one element for each of some numbers.
--     put-keeps, put-long         what is put keeps a property; the list keeps its length
--     put-stays, put-come         what stood somewhere is there in some form; what is put is there
--     put-none                    nothing is left to put
--     tabled-put                  known formulas with those of a table
--     each-none, each-next        none, and an element more
use Rattle.std.proofs.Common.{◌≡◌, ℕ, zero, suc, ◌<◌, ◌⊎◌, inl, inr, List, [], ◌∷◌, ◌++◌, length, refl, sym, ap, subst, ◌∙◌, arith}
use Rattle.std.specs.Prelude.{Option, Some, slice_set, unwrap_or}
use Rattle.std.specs.List.{AllByRecursion, slice_get}
use Rattle.std.proofs.lemmas.List.{length-set}
use Rattle.transition_formula.specs.Transition.{Transition}
use Rattle.newton_rounds.specs.Members.{with_table}
use Rattle.analysis.specs.Claims.{EachOf}
use Rattle.analysis.specs.Found.{put_at}

-- ---- one element

set-get : {X : Type 0} (xs : List X) (i j : ℕ) (x y : X) → slice_get (slice_set xs i x) j ≡ Some y → ((i ≡ j) × (x ≡ y)) ⊎ (slice_get xs j ≡ Some y)
set-get [] i j x y e = inr e
set-get (z ∷ xs) zero zero x y e = inl (refl, ap (λ o. unwrap_or o x) e)
set-get (z ∷ xs) zero (suc j) x y e = inr e
set-get (z ∷ xs) (suc i) zero x y e = inr e
set-get (z ∷ xs) (suc i) (suc j) x y e = go (set-get xs i j x y e)
  where
    go : ((i ≡ j) × (x ≡ y)) ⊎ (slice_get xs j ≡ Some y) → ((suc i ≡ suc j) × (x ≡ y)) ⊎ (slice_get xs j ≡ Some y)
    go (inl same) = inl (ap suc same.0, same.1)
    go (inr other) = inr other

set-there : {X : Type 0} (xs : List X) (i : ℕ) (x : X) → i < length xs → slice_get (slice_set xs i x) i ≡ Some x
set-there [] i x lt = absurd (omega arith)
set-there (z ∷ xs) zero x lt = refl
set-there (z ∷ xs) (suc i) x lt = set-there xs i x (omega arith)

-- a known element stays one
set-stays : {X : Type 0} (xs : List (Option X)) (i : ℕ) (x : X) (j : ℕ) (y : X) → slice_get xs j ≡ Some (Some y) → (z : X) × (slice_get (slice_set xs i (Some x)) j ≡ Some (Some z))
set-stays [] i x j y e = absurd (cc e)
set-stays (o ∷ xs) zero x zero y e = (x, refl)
set-stays (o ∷ xs) zero x (suc j) y e = (y, e)
set-stays (o ∷ xs) (suc i) x zero y e = (y, e)
set-stays (o ∷ xs) (suc i) x (suc j) y e = set-stays xs i x j y e

-- ---- elements at places

pub put-keeps : {X : Type 0} (P : ℕ → X → Type 0) (places : List ℕ) (xs : List X) (all : List (Option X))
    → EachOf P places xs → ((place : ℕ) (x : X) → slice_get all place ≡ Some (Some x) → P place x)
    → (place : ℕ) (x : X) → slice_get (put_at places xs all) place ≡ Some (Some x) → P place x
put-keeps P [] xs all each old = old
put-keeps P (q ∷ places) [] all each old = old
put-keeps {X = X} P (q ∷ places) (y ∷ xs) all each old =
    put-keeps P places xs (slice_set all q (Some y)) (λ place. each (suc place)) (λ place x e. go place x (set-get all q place (Some y) (Some x) e))
  where
    go : (place : ℕ) (x : X) → ((q ≡ place) × (Some y ≡ Some x)) ⊎ (slice_get all place ≡ Some (Some x)) → P place x
    go place x (inl same) = let is : y ≡ x = ap (λ o. unwrap_or o y) same.1 in subst (λ n. P n x) same.0 (subst (P q) is (each 0 q y refl refl))
    go place x (inr other) = old place x other

pub put-long : {X : Type 0} (places : List ℕ) (xs : List X) (all : List (Option X)) → length (put_at places xs all) ≡ length all
put-long [] xs all = refl
put-long (q ∷ places) [] all = refl
put-long (q ∷ places) (x ∷ xs) all = put-long places xs (slice_set all q (Some x)) ∙ length-set all q (Some x)

put-empty : {X : Type 0} (places : List ℕ) (all : List (Option X)) → put_at places [] all ≡ all
put-empty [] all = refl
put-empty (q ∷ places) all = refl

-- where nothing is left to put
pub put-none : {X : Type 0} (place : ℕ) (more : List ℕ) (xs ys : List X) (all : List (Option X)) → ys ≡ xs → length xs ≡ 0 → put_at more xs all ≡ put_at (place ∷ more) ys all
put-none place more [] ys all same long = put-empty more all ∙ ap (λ l. put_at (place ∷ more) l all) (sym same)
put-none place more (x ∷ xs) ys all same long = absurd (omega (arith, long))

pub put-stays : {X : Type 0} (places : List ℕ) (xs : List X) (all : List (Option X)) (place : ℕ) (x : X) → slice_get all place ≡ Some (Some x) → (y : X) × (slice_get (put_at places xs all) place ≡ Some (Some y))
put-stays [] xs all place x e = (x, e)
put-stays (q ∷ places) [] all place x e = (x, e)
put-stays (q ∷ places) (y ∷ xs) all place x e =
    let stays = set-stays all q y place x e in
    put-stays places xs (slice_set all q (Some y)) place stays.0 stays.1

pub put-come : {X : Type 0} (places : List ℕ) (xs : List X) (all : List (Option X)) (k place : ℕ) → slice_get places k ≡ Some place → k < length xs → place < length all
    → (x : X) × (slice_get (put_at places xs all) place ≡ Some (Some x))
put-come [] xs all k place e lt there = absurd (cc e)
put-come (q ∷ places) [] all k place e lt there = absurd (omega (arith, lt))
put-come (q ∷ places) (x ∷ xs) all zero place e lt there =
    let same : q ≡ place = ap (λ o. unwrap_or o q) e in
    put-stays places xs (slice_set all q (Some x)) place x
    (subst (λ n. slice_get (slice_set all n (Some x)) place ≡ Some (Some x)) (sym same) (set-there all place (Some x) there))
put-come (q ∷ places) (x ∷ xs) all (suc k) place e lt there =
    let long = length-set all q (Some x) in
    put-come places xs (slice_set all q (Some x)) k place e (omega arith) (omega (arith, there, long))

-- what is known with a table of as many formulas
pub tabled-put : (procs : List ℕ) (table : List Transition) (known : List (Option Transition)) → length table ≡ length procs → with_table procs table known ≡ put_at procs table known
tabled-put [] table known long = refl
tabled-put (p ∷ procs) [] known long = absurd (omega (arith, long))
tabled-put (p ∷ procs) (f ∷ table) known long = tabled-put procs table (slice_set known p (Some f)) (omega arith)

-- ---- one element for each of some numbers

pub push-get : {X : Type 0} (xs : List X) (x : X) (place : ℕ) (y : X) → slice_get (xs ++ x ∷ []) place ≡ Some y → (slice_get xs place ≡ Some y) ⊎ ((place ≡ length xs) × (x ≡ y))
push-get [] x zero y e = inr (refl, ap (λ o. unwrap_or o x) e)
push-get [] x (suc place) y e = absurd (cc e)
push-get (z ∷ xs) x zero y e = inl e
push-get (z ∷ xs) x (suc place) y e = go (push-get xs x place y e)
  where
    go : (slice_get xs place ≡ Some y) ⊎ ((place ≡ length xs) × (x ≡ y)) → (slice_get xs place ≡ Some y) ⊎ ((suc place ≡ length (z ∷ xs)) × (x ≡ y))
    go (inl there) = inl there
    go (inr last) = let same = last.0 in inr (omega (arith, same), last.1)

pub each-none : {X : Type 0} (P : ℕ → X → Type 0) (procs : List ℕ) → EachOf P procs []
each-none P procs place proc x at e = absurd (cc e)

pub each-next : {X : Type 0} (P : ℕ → X → Type 0) (procs : List ℕ) (xs : List X) (x : X) (i proc : ℕ) → length xs ≡ i → slice_get procs i ≡ Some proc → EachOf P procs xs → P proc x
    → EachOf P procs (xs ++ x ∷ [])
each-next {X = X} P procs xs x i proc long is each here place q y at e = go (push-get xs x place y e)
  where
    go : (slice_get xs place ≡ Some y) ⊎ ((place ≡ length xs) × (x ≡ y)) → P q y
    go (inl there) = each place q y at there
    go (inr last) =
        let same : Some proc ≡ Some q = sym is ∙ ap (slice_get procs) (sym long ∙ sym last.0) ∙ at in
        subst (P q) last.1 (subst (λ n. P n x) (ap (λ o. unwrap_or o proc) same) here)

-- the next of a list of properties at places
pub each-here : {X : Type 0} (P : X → Type 0) (xs : List X) → ((k : ℕ) (x : X) → slice_get xs k ≡ Some x → P x) → AllByRecursion P xs
each-here P [] tells = tt
each-here P (x ∷ xs) tells = (tells 0 x refl, each-here P xs (λ k. tells (suc k)))
