use Rattle.std.proofs.Common.{◌≡◌, List, ◌++◌, true, All, Some, map, length, refl, sym, ap, subst, ◌∙◌}
use Rattle.std.specs.List.{range_with_len}
use Rattle.std.proofs.lemmas.List.FromFn.{length-map-range_with_len}
use Rattle.linear_terms.specs.declared.col.Col.TheVariants.{Aux}
use Rattle.linear_terms.specs.declared.row.Row.{Row}
use Rattle.transition_formula.specs.Transition.{Transition}
use Rattle.posing.specs.Posing.{◌>>=◌, each}
use Rattle.posing.proofs.Paths.{bind-assoc}
use Rattle.posing.proofs.Following.{stops}
use Rattle.posing.proofs.Steps.{value_first, error_first, in_other_words}
use Rattle.polyhedra.specs.Bounds.{IsCovered, IsCoveredByPosts, rows_with_entry_bound, rows_with_exit_bound, bounded_change}
use Rattle.polyhedra.specs.Directions.{directions}
use Rattle.polyhedra.specs.Squash.{after_from, change_after}
use Rattle.polyhedra.proofs.Coverage.{directions-covered, directions-covered_by_posts}
use Rattle.polyhedra.specs.Vocabulary.{Vocabulary}
use Rattle.recurrence.specs.Star.{count, posts, moves}
use Rattle.recurrence.specs.Words.{bound_rows, bounds_at_ends}
use Rattle.recurrence.proofs.Parts.{posts-same, moves-same, all-covered}
use Rattle.recurrence.proofs.turning.bound_rows.Goals as goal

pub posts_after-requires : goal.posts_after-requires
posts_after-requires g c = c.requires.modified.few

pub changes_after-requires : goal.changes_after-requires
changes_after-requires g c = c.requires.modified.few

pub returns-in_err-directions : goal.returns-in_err-directions
returns-in_err-directions g c = stops _ _ _ _ _ _ refl c.from_residual.ensures.1

pub returns-in_err-posts : goal.returns-in_err-posts
returns-in_err-posts g c = stops _ _ _ _ _ _ refl c.from_residual-in_err-posts.ensures.1

pub returns-in_err-moves : goal.returns-in_err-moves
returns-in_err-moves g c = stops _ _ _ _ _ _ refl c.from_residual-in_err-moves.ensures.1

ends-first : (body : Transition) (voc : Vocabulary) (rows : List Row)
    → bounds_at_ends body.cases (posts body) (directions voc) rows >>= (λ both. each (bounded_change body.cases (moves body) (Some (count body))) both (directions voc ++ voc.extra)) ≡ bound_rows body voc rows
unfolding bound_rows bounds_at_ends
ends-first body voc rows =
    bind-assoc (each (rows_with_entry_bound body.cases) rows (directions voc)) (λ before. each (rows_with_exit_bound body.cases (posts body)) before (directions voc))
    (λ both. each (bounded_change body.cases (moves body) (Some (count body))) both (directions voc ++ voc.extra))

pub returns-in_err-both : goal.returns-in_err-both
returns-in_err-both g c =
    let body = c.args.body.now in
    let along : c.as_slice-along.result.now ≡ directions c.args.voc.now = c.as_slice-along.ensures ∙ c.in_ok-directions.ensures in
    let after : c.as_slice.result.now ≡ posts body =
    c.as_slice.ensures ∙ c.in_ok-posts.ensures ∙ (λ i. map (after_from true 0 (c.requires.modified.are i)) (range_with_len 0 (c.to.ensures i))) ∙ posts-same body in
    in_other_words (ends-first body c.args.voc.now c.args.rows)
    (error_first _ c.in_err-both.ensures (λ i. bounds_at_ends (c.cases-cases.ensures.cases i) (after i) (along i) c.args.rows) c.from_residual-in_err-both.ensures.1)

pub returns-in_err-add_extra : goal.returns-in_err-add_extra
returns-in_err-add_extra g c =
    let body = c.args.body.now in
    let along : c.as_slice-along.result.now ≡ directions c.args.voc.now = c.as_slice-along.ensures ∙ c.in_ok-directions.ensures in
    let after : c.as_slice.result.now ≡ posts body =
    c.as_slice.ensures ∙ c.in_ok-posts.ensures ∙ (λ i. map (after_from true 0 (c.requires.modified.are i)) (range_with_len 0 (c.to.ensures i))) ∙ posts-same body in
    in_other_words (ends-first body c.args.voc.now c.args.rows)
    (value_first _ c.in_ok-both.ensures (λ i. bounds_at_ends (c.cases-cases.ensures.cases i) (after i) (along i) c.args.rows)
    (stops _ _ _ _ _ _ refl c.from_residual-in_err-add_extra.ensures.1))

pub returns : goal.returns
returns g c =
    let body = c.args.body.now in
    let along : c.as_slice-along.result.now ≡ directions c.args.voc.now = c.as_slice-along.ensures ∙ c.in_ok-directions.ensures in
    let more = c.as_slice-3.ensures ∙ c.in_ok-add_extra.ensures ∙ ap (λ ds. ds ++ c.args.voc.now.extra) c.in_ok-directions.ensures in
    let after : c.as_slice.result.now ≡ posts body =
    c.as_slice.ensures ∙ c.in_ok-posts.ensures ∙ (λ i. map (after_from true 0 (c.requires.modified.are i)) (range_with_len 0 (c.to.ensures i))) ∙ posts-same body in
    let changed : c.as_slice-2.result.now ≡ moves body =
    c.as_slice-2.ensures ∙ c.in_ok-moves.ensures ∙ (λ i. map (change_after true (c.requires.modified.are i)) (range_with_len 0 (c.to-2.ensures i))) ∙ moves-same body in
    let turns = c.turn_count-count.ensures ∙ ap (λ us. Aux (length us)) c.requires.modified.are in
    in_other_words (ends-first body c.args.voc.now c.args.rows)
    (value_first _ c.in_ok-both.ensures (λ i. bounds_at_ends (c.cases-cases.ensures.cases i) (after i) (along i) c.args.rows)
    (in_other_words (λ i. each (bounded_change body.cases (changed i) (Some (turns i))) c.in_ok-both.both (more i)) c.bounds_on_changes.ensures))

pub bounds_at_ends-requires-clause-posts : goal.bounds_at_ends-requires-clause-posts
bounds_at_ends-requires-clause-posts g c =
    let body = c.args.body.now in
    let s = c.requires.starred in
    subst (All (IsCoveredByPosts c.cases-cases.result.now)) (sym (c.as_slice-along.ensures ∙ c.in_ok-directions.ensures))
    (subst (λ cs. All (IsCoveredByPosts cs) (directions c.args.voc.now)) (sym c.cases-cases.ensures.cases)
    (directions-covered_by_posts c.args.voc.now s.vocabulary body.to s.same_columns body.from body.cases s.body_fits))

pub bounds_at_ends-requires-clause-rows : goal.bounds_at_ends-requires-clause-rows
bounds_at_ends-requires-clause-rows g c =
    let body = c.args.body.now in
    let s = c.requires.starred in
    let long : length c.as_slice.result.now ≡ c.to.result = ap length (c.as_slice.ensures ∙ c.in_ok-posts.ensures) ∙ length-map-range_with_len (after_from true 0 c.args.modified.now) 0 c.to.result in
    subst (All (IsCovered (length c.as_slice.result.now))) (sym (c.as_slice-along.ensures ∙ c.in_ok-directions.ensures))
    (directions-covered c.args.voc.now s.vocabulary body.to s.same_columns (length c.as_slice.result.now) (long ∙ c.to.ensures))

pub bounds_on_changes-requires-clause-columns : goal.bounds_on_changes-requires-clause-columns
bounds_on_changes-requires-clause-columns g c =
    let more = c.as_slice-3.ensures ∙ c.in_ok-add_extra.ensures ∙ ap (λ ds. ds ++ c.args.voc.now.extra) c.in_ok-directions.ensures in
    subst (All (IsCovered c.args.body.now.to)) (sym more) (all-covered c.args.body.now c.args.voc.now c.requires.starred c.args.body.now.to refl)

pub bounds_on_changes-requires-clause-rows : goal.bounds_on_changes-requires-clause-rows
bounds_on_changes-requires-clause-rows g c =
    let long : length c.as_slice-2.result.now ≡ c.to-2.result = ap length (c.as_slice-2.ensures ∙ c.in_ok-moves.ensures) ∙ length-map-range_with_len (change_after true c.args.modified.now) 0 c.to-2.result in
    let more = c.as_slice-3.ensures ∙ c.in_ok-add_extra.ensures ∙ ap (λ ds. ds ++ c.args.voc.now.extra) c.in_ok-directions.ensures in
    subst (All (IsCovered (length c.as_slice-2.result.now))) (sym more) (all-covered c.args.body.now c.args.voc.now c.requires.starred (length c.as_slice-2.result.now) (long ∙ c.to-2.ensures))
