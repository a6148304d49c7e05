-- What a formula over more entry columns holds of, and one with rows that say that entry columns
-- are posts. Both fit between their columns.
use Rattle.std.proofs.Common.{◌≡◌, inl, inr, ℕ, suc, ◌+◌, ◌<◌, ◌≤◌, true, ℤ, pos, negsuc, length, map, take, drop, get_or, length-append, append_assoc, List, [], ◌∷◌, ◌++◌, refl, sym, ap, subst, ◌∙◌, arith}
use Rattle.std.specs.Prelude.{◌↔◌, ◌-ℤ◌, All, Bool, IsTrue, Result, Ok, Err, slice_get, unwrap_or}
use Rattle.std.specs.List.{filter_map, flat_map, cons_option, list_all}
use Rattle.std.proofs.Math.Seq.{get_or-append_seam, take-append_seam}
use Rattle.std.proofs.lemmas.Int.{ints}
use Rattle.std.proofs.lemmas.List.{drop_more, get_or-take, length-map, length-take}
use Rattle.std.proofs.lemmas.List.Folds.{list_all-append}
use Rattle.std.proofs.lemmas.Option.{unwrap_or-slice_get}
use Rattle.items.proofs.Each.{each-append, each-back, each-front}
use Rattle.items.proofs.Gives.{on_ok}
use Rattle.linear_terms.specs.declared.col.Col.{Col}
use Rattle.linear_terms.specs.declared.col.Col.TheVariants.{At, Aux}
use Rattle.linear_terms.specs.declared.error.TermError.{TermError}
use Rattle.linear_terms.specs.declared.row.Case.{Case}
use Rattle.linear_terms.specs.declared.row.Kind.TheVariants.{Equal}
use Rattle.linear_terms.specs.declared.row.Row.{Row}
use Rattle.linear_terms.specs.Expressions.{◌⊟◌, column}
use Rattle.linear_terms.specs.Operations.{difference_of_polys, multiple_of, sum_of_polys}
use Rattle.linear_terms.specs.Polynomial.{Polynomial, column_of, constant_of}
use Rattle.linear_terms.specs.Row.{RowHolds, RowsHold}
use Rattle.linear_terms.specs.Value.{Valuation, value_of}
use Rattle.linear_terms.proofs.Columns.{multiple_of-each, sum_of_polys-each}
use Rattle.linear_terms.proofs.Worth.{IsWorth-Ok, IsWorth-column, IsWorth-difference}
use Rattle.transition_formula.specs.Composition.{row_of}
use Rattle.transition_formula.specs.Equating.{differences, equated_formula, equated_case, losses_in_equating, losses_in_equating_case, raised_formula}
use Rattle.transition_formula.specs.Loss.{losses_of}
use Rattle.transition_formula.specs.Meaning.{Holds, HoldsSome, numbers}
use Rattle.transition_formula.specs.Posts.{case_with_posts, numbers_at, posts_at}
use Rattle.transition_formula.specs.Transition.{Transition, every_column, is_below, fits, IsTransition}
use Rattle.transition_formula.proofs.ColumnTests.{both, both_true, columns_from_test, more_columns, more_columns_of, all_more, test_from_columns}
use Rattle.transition_formula.proofs.Fitting.{below-true, fitting, from_fitting, true-below}
use Rattle.transition_formula.proofs.SomePosts.{values_there, with_posts-fits}
use Rattle.transition_formula.proofs.NotedErrors.{Tells, difference_of_polys-tells, lost-some}
use Rattle.transition_formula.proofs.Values.{none-of, posts-agree, rows-agree}

-- ---- more entry columns

below-wider : (a b aux : ℕ) → a ≤ b → (c : Col) → IsTrue (is_below a aux c) → IsTrue (is_below b aux c)
below-wider a b aux le (At n) h = let lt = true-below n a h in below-true n b (omega (arith, lt, le))
below-wider a b aux le (Aux n) h = h

case-wider : (a b to : ℕ) (case : Case) → a ≤ b → IsTrue (fits a to case) → IsTrue (fits b to case)
case-wider a b to case le h =
    let f = fitting a to case h in
    from_fitting b to case record {
      length_is = f.length_is;
      rows_are = more_columns_of (is_below a case.aux) (is_below b case.aux) (below-wider a b case.aux le) case.rows f.rows_are;
      posts_are =
          all_more (every_column (is_below a case.aux)) (every_column (is_below b case.aux)) (more_columns (is_below a case.aux) (is_below b case.aux) (below-wider a b case.aux le))
          case.post f.posts_are;
    }

pub raised-fits : (a b to : ℕ) (cases : List Case) → a ≤ b → IsTransition a to cases → IsTransition b to cases
raised-fits a b to [] le h = refl
raised-fits a b to (case ∷ cases) le h =
    let parts = both (fits a to case) (list_all (fits a to) cases) h in
    both_true (fits b to case) (list_all (fits b to) cases) (case-wider a b to case le parts.0) (raised-fits a b to cases le parts.1)

module _ (n : ℕ) (before : List ℤ) where
  front-agrees : (aux : ℕ → ℤ) (most : ℕ) (c : Col) → IsTrue (is_below n most c) → numbers (take n before) aux c ≡ numbers before aux c
  front-agrees aux most (At k) h =
      unwrap_or-slice_get (take n before) k (pos 0) ∙ get_or-take n before k (pos 0) (true-below k n h) ∙ sym (unwrap_or-slice_get before k (pos 0))
  front-agrees aux most (Aux k) h = refl

  -- what holds of the first columns holds of all ..
  some-wider : (to : ℕ) (cases : List Case) (after : List ℤ) → IsTransition n to cases → HoldsSome cases (take n before) after → HoldsSome cases before after
  some-wider to [] after fit h = absurd h
  some-wider to (case ∷ cases) after fit (inl (aux, h)) =
      let f = fitting n to case (both (fits n to case) (list_all (fits n to) cases) fit).0 in
      let agree = front-agrees aux case.aux in
      inl (
        aux,
        record {
          rows = rows-agree (numbers (take n before) aux) (numbers before aux) (is_below n case.aux) agree case.rows f.rows_are h.rows;
          posts = sym (posts-agree (numbers (take n before) aux) (numbers before aux) (is_below n case.aux) agree case.post f.posts_are) ∙ h.posts;
        },
      )
  some-wider to (case ∷ cases) after fit (inr h) = inr (some-wider to cases after (both (fits n to case) (list_all (fits n to) cases) fit).1 h)

  -- .. and the other way
  some-narrower : (to : ℕ) (cases : List Case) (after : List ℤ) → IsTransition n to cases → HoldsSome cases before after → HoldsSome cases (take n before) after
  some-narrower to [] after fit h = absurd h
  some-narrower to (case ∷ cases) after fit (inl (aux, h)) =
      let f = fitting n to case (both (fits n to case) (list_all (fits n to) cases) fit).0 in
      let agree : (c : Col) → IsTrue (is_below n case.aux c) → numbers before aux c ≡ numbers (take n before) aux c = λ c k. sym (front-agrees aux case.aux c k) in
      inl (
        aux,
        record {
          rows = rows-agree (numbers before aux) (numbers (take n before) aux) (is_below n case.aux) agree case.rows f.rows_are h.rows;
          posts = sym (posts-agree (numbers before aux) (numbers (take n before) aux) (is_below n case.aux) agree case.post f.posts_are) ∙ h.posts;
        },
      )
  some-narrower to (case ∷ cases) after fit (inr h) = inr (some-narrower to cases after (both (fits n to case) (list_all (fits n to) cases) fit).1 h)

-- the formula over more columns holds of a state exactly where the formula holds of its first
-- columns
pub raised-says : (from : ℕ) (f : Transition) → f.from ≤ from → IsTransition f.from f.to f.cases → (before after : List ℤ)
    → Holds (raised_formula from f) before after ↔ (Holds f (take f.from before) after × (length before ≡ from))
raised-says from f le fit before after = (
  λ h.
      let long = h.enters in (
        record { enters = omega (arith, length-take f.from before, long, le); some = some-narrower f.from before f.to f.cases after fit h.some },
        long,
      ),
  λ h. record { enters = h.1; some = some-wider f.from before f.to f.cases after fit h.0.some },
)

pub raised-holds : (from : ℕ) (f : Transition) → IsTransition f.from f.to f.cases → (before more after : List ℤ) → length before + length more ≡ from → Holds f before after → Holds (raised_formula from f) (before ++ more) after
raised-holds from f fit before more after wide h =
    let enters = h.enters in
    let first : take f.from (before ++ more) ≡ before = (λ i. take (sym enters i) (before ++ more)) ∙ take-append_seam before more in
    (raised-says from f (omega (arith, enters, wide)) fit (before ++ more) after).1 (subst (λ b. Holds f b after) (sym first) h, length-append before more ∙ wide)

-- ---- numbers that stand from a place on

abbrev pub StandFrom : List ℤ → ℕ → List ℤ → Type 0
StandFrom before first [] = Unit {0}
StandFrom before first (v ∷ vs) = (unwrap_or (slice_get before first) (pos 0) ≡ v) × StandFrom before (first + 1) vs

pub stand-behind : (front back : List ℤ) → StandFrom (front ++ back) (length front) back
stand-behind front [] = tt
stand-behind front (v ∷ vs) =
    let next = stand-behind (front ++ v ∷ []) vs in
    let long : length (front ++ v ∷ []) ≡ length front + 1 = length-append front (v ∷ []) in (
      unwrap_or-slice_get (front ++ v ∷ vs) (length front) (pos 0) ∙ get_or-append_seam front v vs (pos 0),
      subst (λ n. StandFrom (front ++ v ∷ vs) n vs) long (subst (λ l. StandFrom l (length (front ++ v ∷ [])) vs) (append_assoc front (v ∷ []) vs) next),
    )

stand-there : (before : List ℤ) (first : ℕ) (vs : List ℤ) → first + length vs ≤ length before → take (length vs) (drop first before) ≡ vs → StandFrom before first vs
stand-there before first [] le e = tt
stand-there before first (v ∷ vs) le e =
    let x : ℤ = get_or before first (pos 0) in
    let rest : List ℤ = take (length vs) (drop (first + 1) before) in
    let all : x ∷ rest ≡ v ∷ vs = sym (ap (take (suc (length vs))) (drop_more before first (pos 0) (omega (arith, le)))) ∙ e in
    let here : x ≡ v = cc in
    let later : rest ≡ vs = cc in
    (unwrap_or-slice_get before first (pos 0) ∙ here, stand-there before (first + 1) vs (omega (arith, le)) later)

there-stand : (before : List ℤ) (first : ℕ) (vs : List ℤ) → first + length vs ≤ length before → StandFrom before first vs → take (length vs) (drop first before) ≡ vs
there-stand before first [] le h = refl
there-stand before first (v ∷ vs) le h =
    ap (take (suc (length vs))) (drop_more before first (pos 0) (omega (arith, le)))
    ∙ (λ i. (sym (unwrap_or-slice_get before first (pos 0)) ∙ h.0) i ∷ there-stand before (first + 1) vs (omega (arith, le)) h.1 i)

-- ---- entry columns that are posts

minus-same : (x : ℤ) → x -ℤ x ≡ pos 0
minus-same x = omega (arith, ints)

same-minus : (x y : ℤ) → x -ℤ y ≡ pos 0 → x ≡ y
same-minus x y e = omega (arith, ints)

module _ (before : List ℤ) (aux : ℕ → ℤ) where
  abbrev at : Valuation
  at = numbers before aux

  difference-value : (first : ℕ) (post p : Polynomial) → column (At first) ⊟ Ok post ≡ Ok p → value_of at p ≡ unwrap_or (slice_get before first) (pos 0) -ℤ value_of at post
  difference-value first post p e = (IsWorth-difference (IsWorth-column at (At first)) (IsWorth-Ok at post)).as_made p e

  differences-true : (first : ℕ) (posts : List Polynomial) → StandFrom before first (map (value_of at) posts) → RowsHold at (filter_map (row_of Equal) (differences first posts))
  differences-true first [] h = tt
  differences-true first (post ∷ posts) h = go (column (At first) ⊟ Ok post) refl (differences-true (first + 1) posts h.1)
    where
      go : (r : Result Polynomial TermError) → column (At first) ⊟ Ok post ≡ r → RowsHold at (filter_map (row_of Equal) (differences (first + 1) posts))
          → RowsHold at (cons_option (row_of Equal r) (filter_map (row_of Equal) (differences (first + 1) posts)))
      go (Ok p) e later = (difference-value first post p e ∙ (λ i. h.0 i -ℤ value_of at post) ∙ minus-same (value_of at post), later)
      go (Err x) e later = later

  differences-told : (first : ℕ) (posts : List Polynomial) → flat_map losses_of (differences first posts) ≡ [] → RowsHold at (filter_map (row_of Equal) (differences first posts))
      → StandFrom before first (map (value_of at) posts)
  differences-told first [] none h = tt
  differences-told first (post ∷ posts) none h =
      let parts = none-of (losses_of (column (At first) ⊟ Ok post)) (flat_map losses_of (differences (first + 1) posts)) none in
      go (column (At first) ⊟ Ok post) refl (difference_of_polys-tells (column_of (At first)) post) parts.0 h (λ k. differences-told (first + 1) posts parts.1 k)
    where
      go : (r : Result Polynomial TermError) → column (At first) ⊟ Ok post ≡ r → Tells r → losses_of r ≡ [] → RowsHold at (cons_option (row_of Equal r) (filter_map (row_of Equal) (differences (first + 1) posts)))
          → (RowsHold at (filter_map (row_of Equal) (differences (first + 1) posts)) → StandFrom before (first + 1) (map (value_of at) posts))
          → StandFrom before first (map (value_of at) (post ∷ posts))
      go (Ok p) e tells l k ih = (same-minus (unwrap_or (slice_get before first) (pos 0)) (value_of at post) (sym (difference-value first post p e) ∙ k.0), ih k.1)
      go (Err x) e tells l k ih = absurd (lost-some (Err x) x tells refl l)

pub equated-holds : (first : ℕ) (places : List ℕ) (f : Transition) (before after : List ℤ) → StandFrom before first (numbers_at places after) → Holds f before after → Holds (equated_formula first places f) before after
equated-holds first places f before after stand h = record { enters = h.enters; some = go f.cases h.some }
  where
    go : (cases : List Case) → HoldsSome cases before after → HoldsSome (map (equated_case first places) cases) before after
    go [] k = absurd k
    go (case ∷ cases) (inl (aux, k)) =
        inl (
          aux,
          record {
            rows = each-append (RowHolds (numbers before aux)) case.rows (filter_map (row_of Equal) (differences first (posts_at places case.post))) k.rows
                (differences-true before aux first (posts_at places case.post)
                (subst (StandFrom before first) (sym (values_there (numbers before aux) places case.post ∙ ap (numbers_at places) k.posts)) stand));
            posts = k.posts;
          },
        )
    go (case ∷ cases) (inr k) = inr (go cases k)

equated-held : (first : ℕ) (places : List ℕ) (f : Transition) (before after : List ℤ) → losses_in_equating first places f ≡ [] → Holds (equated_formula first places f) before after
    → Holds f before after × StandFrom before first (numbers_at places after)
equated-held first places f before after none h = let held = go f.cases none h.some in (record { enters = h.enters; some = held.0 }, held.1)
  where
    go : (cases : List Case) → flat_map (losses_in_equating_case first places) cases ≡ [] → HoldsSome (map (equated_case first places) cases) before after
        → HoldsSome cases before after × StandFrom before first (numbers_at places after)
    go [] none k = absurd k
    go (case ∷ cases) none (inl (aux, k)) =
        let parts = none-of (losses_in_equating_case first places case) (flat_map (losses_in_equating_case first places) cases) none in
        let at = numbers before aux in
        let rows = filter_map (row_of Equal) (differences first (posts_at places case.post)) in (
          inl (aux, record { rows = each-front (RowHolds at) case.rows rows k.rows; posts = k.posts }),
          subst (StandFrom before first) (values_there at places case.post ∙ ap (numbers_at places) k.posts)
              (differences-told before aux first (posts_at places case.post) parts.0 (each-back (RowHolds at) case.rows rows k.rows)),
        )
    go (case ∷ cases) none (inr k) =
        let parts = none-of (losses_in_equating_case first places case) (flat_map (losses_in_equating_case first places) cases) none in
        let held = go cases parts.1 k in
        (inr held.0, held.1)

-- ---- for the code

module _ (first : ℕ) (places : List ℕ) (f g : Transition) (columns : first + length places ≤ f.from) (same : g ≡ equated_formula first places f) (before after : List ℤ) where
  many-told : length (numbers_at places after) ≡ length places
  many-told = length-map places (λ place. unwrap_or (slice_get after place) (pos 0))

  within : length before ≡ f.from → first + length (numbers_at places after) ≤ length before
  within enters = let many = many-told in omega (arith, many, enters, columns)

  pub equated-least : take (length places) (drop first before) ≡ numbers_at places after → Holds f before after → Holds g before after
  equated-least told h =
      subst (λ (t : Transition). Holds t before after) (sym same)
      (equated-holds first places f before after
      (stand-there before first (numbers_at places after) (within h.enters) (subst (λ n. take n (drop first before) ≡ numbers_at places after) (sym many-told) told)) h)

  pub equated-most : losses_in_equating first places f ≡ [] → Holds g before after → Holds f before after × (take (length places) (drop first before) ≡ numbers_at places after)
  equated-most none h =
      let held = equated-held first places f before after none (subst (λ (t : Transition). Holds t before after) same h) in
      (held.0, subst (λ n. take n (drop first before) ≡ numbers_at places after) many-told (there-stand before first (numbers_at places after) (within held.0.enters) held.1))

-- ---- it fits

difference-covered : (t : Col → Bool) (a b p : Polynomial) → difference_of_polys a b ≡ Ok p → IsTrue (every_column t a) → IsTrue (every_column t b) → IsTrue (every_column t p)
difference-covered t a b p e h k =
    on_ok (multiple_of b (negsuc 0)) (λ n. sum_of_polys a n) p e
    (λ n f g. test_from_columns t p
    (sum_of_polys-each (λ c. IsTrue (t c)) a n p g (columns_from_test t a h)
    (multiple_of-each (λ c. IsTrue (t c)) b (negsuc 0) n f (columns_from_test t b k))))

front-covered : (test : Polynomial → Bool) (r : Result Polynomial TermError) (rest : List Row) → ((p : Polynomial) → r ≡ Ok p → IsTrue (test p)) → IsTrue (list_all (λ (row : Row). test row.poly) rest)
    → IsTrue (list_all (λ (row : Row). test row.poly) (cons_option (row_of Equal r) rest))
front-covered test (Ok p) rest h k = both_true (test p) (list_all (λ (row : Row). test row.poly) rest) (h p refl) k
front-covered test (Err e) rest h k = k

differences-covered : (from aux first : ℕ) (posts : List Polynomial) → first + length posts ≤ from → IsTrue (list_all (every_column (is_below from aux)) posts)
    → IsTrue (list_all (λ row. every_column (is_below from aux) row.poly) (filter_map (row_of Equal) (differences first posts)))
differences-covered from aux first [] le h = refl
differences-covered from aux first (post ∷ posts) le h =
    let parts = both (every_column (is_below from aux) post) (list_all (every_column (is_below from aux)) posts) h in
    front-covered (every_column (is_below from aux)) (difference_of_polys (column_of (At first)) post) (filter_map (row_of Equal) (differences (first + 1) posts))
    (λ p e. difference-covered (is_below from aux) (column_of (At first)) post p e
    (test_from_columns (is_below from aux) (column_of (At first)) ((below-true first from (omega (arith, le)), tt), tt)) parts.0)
    (differences-covered from aux (first + 1) posts (omega (arith, le)) parts.1)

case-fits : (first : ℕ) (places : List ℕ) (from to : ℕ) (case : Case) → All (λ place. place < to) places → first + length places ≤ from → IsTrue (fits from to case) → IsTrue (fits from to (equated_case first places case))
case-fits first places from to case there le h =
    let f = fitting from to case h in
    let one : Transition = record { from = from; to = to; cases = case ∷ [] } in
    let told = with_posts-fits places one there (both_true (fits from to case) true h refl) in
    let posts = (fitting from (length places) (case_with_posts places case) (both (fits from (length places) (case_with_posts places case)) true told).0).posts_are in
    let rows = filter_map (row_of Equal) (differences first (posts_at places case.post)) in
    let test : Row → Bool = λ row. every_column (is_below from case.aux) row.poly in
    from_fitting from to (equated_case first places case) record {
      length_is = f.length_is;
      rows_are =
          list_all-append test case.rows rows
          ∙ both_true (list_all test case.rows) (list_all test rows) f.rows_are
          (differences-covered from case.aux first (posts_at places case.post)
          (let same = length-map places (λ place. unwrap_or (slice_get case.post place) (constant_of (pos 0))) in omega (arith, same, le)) posts);
      posts_are = f.posts_are;
    }

equated-each : (first : ℕ) (places : List ℕ) (from to : ℕ) (cases : List Case) → All (λ place. place < to) places → first + length places ≤ from → IsTransition from to cases → IsTransition from to (map (equated_case first places) cases)
equated-each first places from to [] there le h = refl
equated-each first places from to (case ∷ cases) there le h =
    let parts = both (fits from to case) (list_all (fits from to) cases) h in
    both_true (fits from to (equated_case first places case)) (list_all (fits from to) (map (equated_case first places) cases))
    (case-fits first places from to case there le parts.0) (equated-each first places from to cases there le parts.1)

pub equated-fits : (first : ℕ) (places : List ℕ) (f : Transition) → All (λ place. place < f.to) places → first + length places ≤ f.from → IsTransition f.from f.to f.cases → IsTransition f.from f.to (equated_formula first places f).cases
equated-fits first places f there le h = equated-each first places f.from f.to f.cases there le h
