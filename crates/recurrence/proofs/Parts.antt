-- The computations of star part by part, as the calls do them.
use Rattle.std.proofs.Common.{◌≡◌, ◌≢◌, ℕ, ◌+◌, ◌<◌, ◌≤◌, List, [], ◌∷◌, ◌++◌, Bool, true, false, Result, Ok, map, refl, sym, ap, subst, ◌∙◌, append_assoc, append-nil, arith, pos, negsuc}
use Rattle.std.specs.Prelude.{Option, None, Some, All, option_to_list, if◌then◌else◌, nat_lt, ◌==◌}
use Rattle.std.specs.List.{AllByRecursion, cons_option, filter_map, flat_map, range_with_len}
use Rattle.std.proofs.lemmas.List.Elements.{All-from_recursion}
use Rattle.items.proofs.Each as both
use Rattle.items.proofs.Each.{each-more}
use Rattle.std.proofs.lemmas.List.{map-append}
use Rattle.linear_terms.specs.declared.col.Col.TheVariants.{At, Aux}
use Rattle.linear_terms.specs.declared.error.TermError.{TermError}
use Rattle.linear_terms.specs.declared.row.Row.{Row}
use Rattle.linear_terms.specs.declared.row.Case.{Case}
use Rattle.linear_terms.specs.Expressions.{◌⊟◌, column, or_zero}
use Rattle.linear_terms.specs.Polynomial.{Polynomial, column_of}
use Rattle.transition_formula.specs.declared.loss.Loss.{Loss}
use Rattle.transition_formula.specs.Loss.{answer_of, losses_of}
use Rattle.transition_formula.specs.Transition.{Transition}
use Rattle.farkas_check.specs.Asking.{Asking}
use Rattle.posing.specs.Follows.{Follows}
use Rattle.posing.specs.Logs.{with_notes, HasNoted, loss_notes}
use Rattle.posing.specs.Posing.{Posing, Done, ◌>>=◌, each}
use Rattle.posing.specs.declared.log.Log.{Log}
use Rattle.posing.specs.declared.note.Note.TheVariants as note
use Rattle.posing.proofs.Paths.{bind-assoc}
use Rattle.posing.proofs.Steps.{at_end, notes_first}
use Rattle.polyhedra.specs.Bounds.{IsCovered, with_row, rows_with_entry_bound, rows_with_exit_bound, bounded_change}
use Rattle.polyhedra.specs.Changes.{modified_variables}
use Rattle.polyhedra.specs.Directions.{directions}
use Rattle.polyhedra.specs.Squash as squash
use Rattle.polyhedra.specs.Vocabulary.{Vocabulary, IsDirectionOver}
use Rattle.polyhedra.proofs.Coverage.{over-covered}
use Rattle.polyhedra.proofs.DirectionShapes.{directions-over}
use Rattle.recurrence.specs.Law.{IsStarred}
use Rattle.recurrence.specs.declared.progressions.Turns.{Turns}
use Rattle.recurrence.specs.declared.terms.StratumTerm.{StratumTerm}
use Rattle.recurrence.specs.declared.terms.Strata.{Strata}
use Rattle.recurrence.specs.Products.{products}
use Rattle.recurrence.specs.Progressions.{signs, open_variables, progressions_of, progressions, bounded_progression}
use Rattle.transition_formula.specs.Composition.{identity_of, union_of}
use Rattle.polyhedra.specs.Finish.{finish_of_case}
use Rattle.recurrence.specs.Star.{after_from, count, change_over_turns, posts, moves, term_row, terms_with_row, some_turn, rows_of, turns, star_by, star_of}
use Rattle.recurrence.specs.Words.{rows_with_progression_bound, by_term, by_variable, bound_rows}

-- ---- steps for lists that are put together

each-append : {A B : Type 0} (step : B → A → Posing B) (made : B) (xs ys : List A) → each step made (xs ++ ys) ≡ each step made xs >>= (λ next. each step next ys)
unfolding ◌>>=◌
each-append step made [] ys = refl
each-append step made (x ∷ xs) ys =
    (λ i. step made x >>= (λ next. each-append step next xs ys i)) ∙ sym (bind-assoc (step made x) (λ next. each step next xs) (λ next. each step next ys))

each-flat : {A B X : Type 0} (step : B → A → Posing B) (f : X → List A) (made : B) (xs : List X) → each step made (flat_map f xs) ≡ each (λ m x. each step m (f x)) made xs
each-flat step f made [] = refl
each-flat step f made (x ∷ xs) = each-append step made (f x) (flat_map f xs) ∙ (λ i. each step made (f x) >>= (λ next. each-flat step f next xs i))

-- ---- progressions

-- of one variable, with both signs
pub variable-parts : (turns : Turns) (rows : List Row) (v : ℕ)
    → each (by_term turns record { variable = v; up = pos 1 }) rows turns.terms.now >>= (λ upward. each (by_term turns record { variable = v; up = negsuc 0 }) upward turns.terms.now >>= (λ both. Done both)) ≡ by_variable turns rows v
variable-parts turns rows v =
    sym (each-flat (rows_with_progression_bound turns) (λ up. flat_map (λ (t : StratumTerm). map (λ by. record { variable = v; up = up; term = t; by = by }) signs) turns.terms.now) rows signs
    ∙ (λ i. each (λ m up. each-flat (rows_with_progression_bound turns) (λ (t : StratumTerm). map (λ by. record { variable = v; up = up; term = t; by = by }) signs) m turns.terms.now i) rows signs))

not_more : (r : ℕ) → r ≤ 1 → nat_lt 1 r ≡ false
not_more r h = grind arith

is_more : (r : ℕ) → 1 < r → nat_lt 1 r ≡ true
is_more r h = grind arith

pub no-progressions : (body : Transition) (voc : Vocabulary) (s : Strata) (rows : List Row) → voc.rule ≤ 1
    → Done rows ≡ each (bounded_progression body.cases (change_over_turns body) (count body)) rows (progressions body voc s)
no-progressions body voc s rows e =
    ap (λ b. each (bounded_progression body.cases (change_over_turns body) (count body)) rows (if b then flat_map (progressions_of s.first) (open_variables body voc s) else [])) (sym (not_more voc.rule e))

pub all-progressions : (body : Transition) (voc : Vocabulary) (s : Strata) (rows : List Row) → 1 < voc.rule
    → each (λ made v. each (bounded_progression body.cases (change_over_turns body) (count body)) made (progressions_of s.first v)) rows (open_variables body voc s) ≡ each (bounded_progression body.cases (change_over_turns body) (count body)) rows (progressions body voc s)
all-progressions body voc s rows e =
    sym (each-flat (bounded_progression body.cases (change_over_turns body) (count body)) (progressions_of s.first) rows (open_variables body voc s))
    ∙ ap (λ b. each (bounded_progression body.cases (change_over_turns body) (count body)) rows (if b then flat_map (progressions_of s.first) (open_variables body voc s) else [])) (sym (is_more voc.rule e))

-- ---- rows

-- bounds stand between the rows of terms and those of progressions
pub rows-parts : (body : Transition) (voc : Vocabulary) (s : Strata)
    → each (λ rows t. with_row rows (term_row (products body voc) body t)) [] (terms_with_row (products body voc) s) >>= (λ equations. bound_rows body voc (equations ++ some_turn body ∷ [])
    >>= (λ changes. each (bounded_progression body.cases (change_over_turns body) (count body)) changes (progressions body voc s))) ≡ rows_of body voc s
unfolding rows_of bound_rows
rows-parts body voc s =
    λ i. each (λ rows t. with_row rows (term_row (products body voc) body t)) [] (terms_with_row (products body voc) s) >>= (λ equations. (
    bind-assoc (each (rows_with_entry_bound body.cases) (equations ++ some_turn body ∷ []) (directions voc)) (λ before. each (rows_with_exit_bound body.cases (posts body)) before (directions voc)
    >>= (λ both. each (bounded_change body.cases (moves body) (Some (count body))) both (directions voc ++ voc.extra))) (λ changes. each (bounded_progression body.cases (change_over_turns body) (count body)) changes (progressions body voc s))
    ∙ (λ j. each (rows_with_entry_bound body.cases) (equations ++ some_turn body ∷ []) (directions voc) >>= (λ before.
    bind-assoc (each (rows_with_exit_bound body.cases (posts body)) before (directions voc)) (λ both. each (bounded_change body.cases (moves body) (Some (count body))) both (directions voc ++ voc.extra))
    (λ changes. each (bounded_progression body.cases (change_over_turns body) (count body)) changes (progressions body voc s)) j))) i)

-- ---- rows whose losses are noted all at once

module _ {X : Type 0} (f : X → Result Row TermError) where
  abbrev made_of : List X → List Row
  made_of xs = filter_map (λ x. answer_of (f x)) xs

  abbrev lost_of : List X → List Loss
  lost_of xs = flat_map (λ x. losses_of (f x)) xs

  onto : (rows : List Row) (o : Option Row) (rest : List Row) → rows ++ cons_option o rest ≡ (rows ++ option_to_list o) ++ rest
  onto rows None rest = ap (λ rs. rs ++ rest) (sym (append-nil rows))
  onto rows (Some row) rest = sym (append_assoc rows (row ∷ []) rest)

  split : (before : Log) (first rest : List Loss) → with_notes before (loss_notes (first ++ rest)) ≡ with_notes (with_notes before (loss_notes first)) (loss_notes rest)
  split before first rest =
      ap (λ ns. record { notes = ns; answers = before.answers })
      (ap (λ ns. before.notes ++ ns) (map-append (λ loss. note.Loss loss) first rest) ∙ sym (append_assoc before.notes (loss_notes first) (loss_notes rest)))

  noted_from : {S : Type 0} (O : Asking S) (state : S) (rows : List Row) (xs : List X) (before : Log)
      → Follows O state state before (with_notes before (loss_notes (lost_of xs))) (Ok (rows ++ made_of xs)) (each (λ rs x. with_row rs (f x)) rows xs)
  unfolding with_row ◌>>=◌
  noted_from O state rows [] before =
      subst (λ log. Follows O state state before log (Ok (rows ++ [])) (Done rows)) (ap (λ ns. record { notes = ns; answers = before.answers }) (sym (append-nil before.notes))) (at_end (append-nil rows))
  noted_from O state rows (x ∷ xs) before =
      let between = with_notes before (loss_notes (losses_of (f x))) in
      subst (λ log. Follows O state state before log (Ok (rows ++ made_of (x ∷ xs))) (each (λ rs y. with_row rs (f y)) rows (x ∷ xs)))
      (sym (split before (losses_of (f x)) (lost_of xs)))
      (subst (λ rs. Follows O state state before (with_notes between (loss_notes (lost_of xs))) (Ok rs) (each (λ us y. with_row us (f y)) rows (x ∷ xs)))
      (sym (onto rows (answer_of (f x)) (made_of xs)))
      (notes_first (record { is = refl }) refl (noted_from O state (rows ++ option_to_list (answer_of (f x))) xs between)))

  pub noted_rows : {S : Type 0} (O : Asking S) (state : S) (xs : List X) (before after : Log) (made : List Row) → HasNoted before after (loss_notes (flat_map (λ x. losses_of (f x)) xs)) → made ≡ filter_map (λ x. answer_of (f x)) xs
      → Follows O state state before after (Ok made) (each (λ rs x. with_row rs (f x)) [] xs)
  noted_rows O state xs before after made noted is =
      subst (λ log. Follows O state state before log (Ok made) (each (λ rs x. with_row rs (f x)) [] xs)) (sym noted.is)
      (subst (λ rs. Follows O state state before (with_notes before (loss_notes (lost_of xs))) (Ok rs) (each (λ us x. with_row us (f x)) [] xs)) (sym is) (noted_from O state [] xs before))

-- ---- what stands for variables after the turns

post-same : (n : ℕ) (us : List ℕ) (v : ℕ) → squash.after_from true n us v ≡ column_of (after_from n us v)
post-same n [] v = refl
post-same n (u ∷ us) v = go (u == v) (post-same (n + 1) us v)
  where
    go : (b : Bool) → squash.after_from true (n + 1) us v ≡ column_of (after_from (n + 1) us v)
        → (if b then column_of (Aux n) else squash.after_from true (n + 1) us v) ≡ column_of (if b then Aux n else after_from (n + 1) us v)
    go true rest = refl
    go false rest = rest

pub posts-same : (body : Transition) → squash.posts_after true body ≡ posts body
posts-same body = λ i. map (λ v. post-same 0 (modified_variables true body) v i) (range_with_len 0 body.to)

pub moves-same : (body : Transition) → squash.changes_after true body ≡ moves body
moves-same body = λ i. map (λ v. or_zero (Ok (post-same 0 (modified_variables true body) v i) ⊟ column (At v))) (range_with_len 0 body.to)

-- ---- star

pub no-turns : (body : Transition) (voc : Vocabulary) → body.cases ≡ [] → Done (identity_of body.from) ≡ star_of body voc
unfolding star_of
no-turns body voc e = ap (star_by body voc) (sym e)

pub some-turns : (body : Transition) (voc : Vocabulary) → body.cases ≢ []
    → turns body voc >>= (λ case. finish_of_case case >>= (λ left. Done (union_of (identity_of body.from) record { from = body.from; to = body.to; cases = option_to_list left }))) ≡ star_of body voc
unfolding star_of
some-turns body voc some = go body.cases some
  where
    go : (cases : List Case) → cases ≢ []
        → turns body voc >>= (λ case. finish_of_case case >>= (λ left. Done (union_of (identity_of body.from) record { from = body.from; to = body.to; cases = option_to_list left }))) ≡ star_by body voc cases
    go [] ne = absurd (ne refl)
    go (case ∷ cases) ne = sym (bind-assoc (turns body voc) finish_of_case (λ left. Done (union_of (identity_of body.from) record { from = body.from; to = body.to; cases = option_to_list left })))

-- ---- what bounds ask

pub all-covered : (body : Transition) (voc : Vocabulary) → IsStarred body voc → (m : ℕ) → m ≡ body.to → All (IsCovered m) (directions voc ++ voc.extra)
all-covered body voc starred m e =
    subst (λ k. All (IsCovered k) (directions voc ++ voc.extra)) (starred.same_columns ∙ sym e)
    (All-from_recursion (IsCovered voc.columns) (directions voc ++ voc.extra)
    (each-append-of (directions voc) voc.extra (each-more (IsDirectionOver voc.columns) (IsCovered voc.columns) (over-covered voc.columns) (directions voc) (directions-over voc starred.vocabulary))
    (each-more (IsDirectionOver voc.columns) (IsCovered voc.columns) (over-covered voc.columns) voc.extra starred.vocabulary.extra)))
  where
    each-append-of : (xs ys : List Polynomial) → AllByRecursion (IsCovered voc.columns) xs → AllByRecursion (IsCovered voc.columns) ys → AllByRecursion (IsCovered voc.columns) (xs ++ ys)
    each-append-of xs ys h k = both.each-append (IsCovered voc.columns) xs ys h k
