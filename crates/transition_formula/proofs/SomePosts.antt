-- What a formula with some of its posts holds of.
use Rattle.std.proofs.Common.{◌≡◌, ℕ, zero, suc, ◌<◌, inl, inr, Bool, length, map, List, [], ◌∷◌, get_or, refl, sym, ap, subst, ◌∙◌, ℤ, pos, arith}
use Rattle.std.specs.Prelude.{All, IsTrue, slice_get, unwrap_or}
use Rattle.std.specs.List.{AllByRecursion, list_all}
use Rattle.std.proofs.lemmas.List.{length-map}
use Rattle.std.proofs.lemmas.List.Elements.{recursion_from_All}
use Rattle.linear_terms.specs.declared.col.Col.{Col}
use Rattle.linear_terms.specs.declared.col.Col.TheVariants.{At}
use Rattle.linear_terms.specs.declared.row.Case.{Case}
use Rattle.linear_terms.specs.Polynomial.{Polynomial, column_of, constant_of}
use Rattle.linear_terms.specs.Value.{Valuation, value_of}
use Rattle.transition_formula.specs.Meaning.{numbers, HoldsCase, HoldsSome, Holds}
use Rattle.transition_formula.specs.Posts.{posts_at, numbers_at, case_with_posts, with_posts, entries_at, case_with_entries, with_entries}
use Rattle.transition_formula.specs.Transition.{Transition, every_column, is_below, fits, IsTransition}
use Rattle.transition_formula.proofs.ColumnTests.{both, both_true, test_from_columns}
use Rattle.transition_formula.proofs.Fitting.{fitting, from_fitting, below-true}
use Rattle.transition_formula.proofs.Values.{column-value}

-- ---- values

value_there : (at : Valuation) (posts : List Polynomial) (place : ℕ) → value_of at (unwrap_or (slice_get posts place) (constant_of (pos 0))) ≡ unwrap_or (slice_get (map (value_of at) posts) place) (pos 0)
value_there at [] place = refl
value_there at (p ∷ posts) zero = refl
value_there at (p ∷ posts) (suc place) = value_there at posts place

pub values_there : (at : Valuation) (places : List ℕ) (posts : List Polynomial) → map (value_of at) (posts_at places posts) ≡ numbers_at places (map (value_of at) posts)
values_there at [] posts = refl
values_there at (place ∷ places) posts = λ i. value_there at posts place i ∷ values_there at places posts i

-- ---- cases

case-holds : (places : List ℕ) (case : Case) (before after : List ℤ) → HoldsCase case before after → HoldsCase (case_with_posts places case) before (numbers_at places after)
case-holds places case before after (aux, h) = (aux, record { rows = h.rows; posts = values_there (numbers before aux) places case.post ∙ ap (numbers_at places) h.posts })

case-held : (places : List ℕ) (case : Case) (before told : List ℤ) → HoldsCase (case_with_posts places case) before told → (after : List ℤ) × (HoldsCase case before after × (told ≡ numbers_at places after))
case-held places case before told (aux, h) =
    let at = numbers before aux in
    (map (value_of at) case.post, ((aux, record { rows = h.rows; posts = refl }), sym h.posts ∙ values_there at places case.post))

some-holds : (places : List ℕ) (cases : List Case) (before after : List ℤ) → HoldsSome cases before after → HoldsSome (map (case_with_posts places) cases) before (numbers_at places after)
some-holds places [] before after h = absurd h
some-holds places (case ∷ cases) before after (inl h) = inl (case-holds places case before after h)
some-holds places (case ∷ cases) before after (inr h) = inr (some-holds places cases before after h)

some-held : (places : List ℕ) (cases : List Case) (before told : List ℤ) → HoldsSome (map (case_with_posts places) cases) before told → (after : List ℤ) × (HoldsSome cases before after × (told ≡ numbers_at places after))
some-held places [] before told h = absurd h
some-held places (case ∷ cases) before told (inl h) = let held = case-held places case before told h in (held.0, (inl held.1.0, held.1.1))
some-held places (case ∷ cases) before told (inr h) = let held = some-held places cases before told h in (held.0, (inr held.1.0, held.1.1))

-- ---- formulas

pub with_posts-holds : (places : List ℕ) (f : Transition) (before after : List ℤ) → Holds f before after → Holds (with_posts places f) before (numbers_at places after)
with_posts-holds places f before after h = record { enters = h.enters; some = some-holds places f.cases before after h.some }

pub with_posts-held : (places : List ℕ) (f : Transition) (before told : List ℤ) → Holds (with_posts places f) before told → (after : List ℤ) × (Holds f before after × (told ≡ numbers_at places after))
with_posts-held places f before told h =
    let held = some-held places f.cases before told h.some in (held.0, (record { enters = h.enters; some = held.1.0 }, held.1.1))

-- ---- the result is a formula

there_passes : (test : Col → Bool) (posts : List Polynomial) (place : ℕ) → place < length posts → IsTrue (list_all (every_column test) posts) → IsTrue (every_column test (unwrap_or (slice_get posts place) (constant_of (pos 0))))
there_passes test [] place lt h = refl
there_passes test (p ∷ posts) zero lt h = (both (every_column test p) (list_all (every_column test) posts) h).0
there_passes test (p ∷ posts) (suc place) lt h = there_passes test posts place (omega arith) (both (every_column test p) (list_all (every_column test) posts) h).1

all_there : (test : Col → Bool) (places : List ℕ) (posts : List Polynomial) → AllByRecursion (λ place. place < length posts) places → IsTrue (list_all (every_column test) posts) → IsTrue (list_all (every_column test) (posts_at places posts))
all_there test [] posts lt h = refl
all_there test (place ∷ places) posts lt h =
    both_true (every_column test (unwrap_or (slice_get posts place) (constant_of (pos 0)))) (list_all (every_column test) (posts_at places posts)) (there_passes test posts place lt.0 h) (all_there test places posts lt.1 h)

narrowed : (n m : ℕ) (places : List ℕ) → n ≡ m → AllByRecursion (λ place. place < n) places → AllByRecursion (λ place. place < m) places
narrowed n m [] e h = tt
narrowed n m (place ∷ places) e h = (let lt = h.0 in omega arith, narrowed n m places e h.1)

cases-fit : (from to : ℕ) (places : List ℕ) (cases : List Case) → AllByRecursion (λ place. place < to) places → IsTransition from to cases → IsTransition from (length places) (map (case_with_posts places) cases)
cases-fit from to places [] lt h = refl
cases-fit from to places (case ∷ cases) lt h =
    let parts = both (fits from to case) (list_all (fits from to) cases) h in
    let f = fitting from to case parts.0 in
    let long : length (posts_at places case.post) ≡ length places = length-map places (λ place. unwrap_or (slice_get case.post place) (constant_of (pos 0))) in
    both_true (fits from (length places) (case_with_posts places case)) (list_all (fits from (length places)) (map (case_with_posts places) cases))
    (from_fitting from (length places) (case_with_posts places case) (record {
      length_is = long;
      rows_are = f.rows_are;
      posts_are = all_there (is_below from case.aux) places case.post (narrowed to (length case.post) places (sym f.length_is) lt) f.posts_are;
    }))
    (cases-fit from to places cases lt parts.1)

pub with_posts-fits : (places : List ℕ) (f : Transition) → All (λ place. place < f.to) places → IsTransition f.from f.to f.cases → IsTransition f.from (length places) (map (case_with_posts places) f.cases)
with_posts-fits places f lt h = cases-fit f.from f.to places f.cases (recursion_from_All (λ place. place < f.to) places lt) h

-- ---- entry columns as posts

entries_there : (before : List ℤ) (aux : ℕ → ℤ) (places : List ℕ) → map (value_of (numbers before aux)) (entries_at places) ≡ numbers_at places before
entries_there before aux [] = refl
entries_there before aux (place ∷ places) = λ i. column-value (numbers before aux) (At place) i ∷ entries_there before aux places i

some-entries : (places : List ℕ) (cases : List Case) (before after : List ℤ) → HoldsSome cases before after → HoldsSome (map (case_with_entries places) cases) before (numbers_at places before)
some-entries places [] before after h = absurd h
some-entries places (case ∷ cases) before after (inl (aux, h)) = inl (aux, record { rows = h.rows; posts = entries_there before aux places })
some-entries places (case ∷ cases) before after (inr h) = inr (some-entries places cases before after h)

some-entries-held : (places : List ℕ) (cases : List Case) (before told : List ℤ) → HoldsSome (map (case_with_entries places) cases) before told → (after : List ℤ) × (HoldsSome cases before after × (told ≡ numbers_at places before))
some-entries-held places [] before told h = absurd h
some-entries-held places (case ∷ cases) before told (inl (aux, h)) =
    (map (value_of (numbers before aux)) case.post, (inl (aux, record { rows = h.rows; posts = refl }), sym h.posts ∙ entries_there before aux places))
some-entries-held places (case ∷ cases) before told (inr h) = let held = some-entries-held places cases before told h in (held.0, (inr held.1.0, held.1.1))

pub with_entries-least : (places : List ℕ) (f g : Transition) → g ≡ with_entries places f → (before after : List ℤ) → Holds f before after → Holds g before (numbers_at places before)
with_entries-least places f g e before after h = subst (λ (t : Transition). Holds t before (numbers_at places before)) (sym e) (record { enters = h.enters; some = some-entries places f.cases before after h.some })

pub with_entries-most : (places : List ℕ) (f g : Transition) → g ≡ with_entries places f → (before told : List ℤ) → Holds g before told → (after : List ℤ) × (Holds f before after × (told ≡ numbers_at places before))
with_entries-most places f g e before told h =
    let k : Holds (with_entries places f) before told = subst (λ (t : Transition). Holds t before told) e h in
    let held = some-entries-held places f.cases before told k.some in
    (held.0, (record { enters = k.enters; some = held.1.0 }, held.1.1))

entries-pass : (from aux : ℕ) (places : List ℕ) → AllByRecursion (λ place. place < from) places → IsTrue (list_all (every_column (is_below from aux)) (entries_at places))
entries-pass from aux [] lt = refl
entries-pass from aux (place ∷ places) lt =
    both_true (every_column (is_below from aux) (column_of (At place))) (list_all (every_column (is_below from aux)) (entries_at places))
    (test_from_columns (is_below from aux) (column_of (At place)) ((below-true place from lt.0, tt), tt)) (entries-pass from aux places lt.1)

entry_cases-fit : (from to : ℕ) (places : List ℕ) (cases : List Case) → AllByRecursion (λ place. place < from) places → IsTransition from to cases → IsTransition from (length places) (map (case_with_entries places) cases)
entry_cases-fit from to places [] lt h = refl
entry_cases-fit from to places (case ∷ cases) lt h =
    let parts = both (fits from to case) (list_all (fits from to) cases) h in
    let f = fitting from to case parts.0 in
    both_true (fits from (length places) (case_with_entries places case)) (list_all (fits from (length places)) (map (case_with_entries places) cases))
    (from_fitting from (length places) (case_with_entries places case) (record {
      length_is = length-map places (λ place. column_of (At place));
      rows_are = f.rows_are;
      posts_are = entries-pass from case.aux places lt;
    }))
    (entry_cases-fit from to places cases lt parts.1)

pub with_entries-fits : (places : List ℕ) (f : Transition) → All (λ place. place < f.from) places → IsTransition f.from f.to f.cases → IsTransition f.from (length places) (map (case_with_entries places) f.cases)
with_entries-fits places f lt h = entry_cases-fit f.from f.to places f.cases (recursion_from_All (λ place. place < f.from) places lt) h

-- ---- for the code

pub with_posts-least : (places : List ℕ) (f g : Transition) → g ≡ with_posts places f → (before after : List ℤ) → Holds f before after → Holds g before (numbers_at places after)
with_posts-least places f g e before after h = subst (λ t. Holds t before (numbers_at places after)) (sym e) (with_posts-holds places f before after h)

pub with_posts-most : (places : List ℕ) (f g : Transition) → g ≡ with_posts places f → (before told : List ℤ) → Holds g before told → (after : List ℤ) × (Holds f before after × (told ≡ numbers_at places after))
with_posts-most places f g e before told h = with_posts-held places f before told (subst (λ t. Holds t before told) e h)

pub there_is : {X : Type 0} (xs : List X) (k : ℕ) (x d : X) → k < length xs → x ≡ get_or xs k x → x ≡ unwrap_or (slice_get xs k) d
there_is [] k x d lt e = absurd (omega arith)
there_is (y ∷ xs) zero x d lt e = e
there_is (y ∷ xs) (suc k) x d lt e = there_is xs k x d (omega arith) e

pub same_default : (xs : List ℕ) (k d e : ℕ) → k < length xs → get_or xs k d ≡ get_or xs k e
same_default [] k d e lt = absurd (omega arith)
same_default (x ∷ xs) zero d e lt = refl
same_default (x ∷ xs) (suc k) d e lt = same_default xs k d e (omega arith)
