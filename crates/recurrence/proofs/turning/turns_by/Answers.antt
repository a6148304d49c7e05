use Rattle.std.proofs.Common.{◌≡◌, true, length, refl, ap, ◌∙◌, ◌+◌, arith}
use Rattle.linear_terms.specs.declared.row.Case.{Case}
use Rattle.transition_formula.specs.Transition.{Transition}
use Rattle.posing.specs.Posing.{Posing, Done, Noted, ◌>>=◌}
use Rattle.posing.proofs.Following.{stops}
use Rattle.posing.proofs.Paths.{bind-assoc}
use Rattle.posing.proofs.Steps.{value_first, error_first, notes_first, at_end, in_other_words}
use Rattle.polyhedra.specs.Changes.{lost_changes, modified_variables}
use Rattle.polyhedra.specs.Vocabulary.{Vocabulary}
use Rattle.polyhedra.proofs.Coverage.{modified-few}
use Rattle.recurrence.specs.Products.{products}
use Rattle.recurrence.specs.Star.{posts, rows_of, turns}
use Rattle.recurrence.specs.Strata.{strata}
use Rattle.recurrence.specs.Words.{rows_by_strata}
use Rattle.recurrence.proofs.turning.turns_by.Goals as goal

rows-first : (body : Transition) (voc : Vocabulary)
    → Noted (lost_changes true body) (rows_by_strata body voc >>= λ rows. Done record { aux = length (modified_variables true body) + 1; rows = rows; post = posts body }) ≡ turns body voc
unfolding turns rows_by_strata ◌>>=◌
rows-first body voc =
    ap (λ (p : Posing Case). Noted (lost_changes true body) p)
    (bind-assoc (strata body (products body voc)) (rows_of body voc) (λ rows. Done record { aux = length (modified_variables true body) + 1; rows = rows; post = posts body }))

pub overflow_cast-aux : goal.overflow_cast-aux
overflow_cast-aux g c =
    let few = modified-few true c.args.body.formula.now in let long = c.len.ensures ∙ ap length c.requires.movement.modified in let most = c.requires.starred.few in omega arith

pub overflow_add-aux : goal.overflow_add-aux
overflow_add-aux g c =
    let few = modified-few true c.args.body.formula.now in let long = c.len.ensures ∙ ap length c.requires.movement.modified in let most = c.requires.starred.few in omega arith

pub noted_posts-requires : goal.noted_posts-requires
noted_posts-requires g c =
    let few = modified-few true c.args.body.formula.now in
    let long = ap length c.requires.movement.modified in
    let most = c.requires.starred.few in
    record { few = omega arith; modified = c.requires.movement.modified; lost = c.requires.lost }

pub rows_by_strata-requires : goal.rows_by_strata-requires
rows_by_strata-requires g c = record { starred = c.requires.starred; movement = c.requires.movement }

pub returns-in_err-post : goal.returns-in_err-post
returns-in_err-post g c = stops _ _ _ _ _ _ c.in_err-post.ensures.noted c.from_residual.ensures.1

pub returns-in_err-rows : goal.returns-in_err-rows
returns-in_err-rows g c =
    in_other_words (rows-first c.args.body.formula.now c.args.voc.now)
    (notes_first c.in_ok-post.ensures.noted refl (error_first _ c.in_err-rows.ensures refl c.from_residual-in_err-rows.ensures.1))

pub returns : goal.returns
returns g c =
    let long = c.len.ensures ∙ ap length c.requires.movement.modified in
    in_other_words (rows-first c.args.body.formula.now c.args.voc.now)
    (notes_first c.in_ok-post.ensures.noted refl
    (value_first _ c.in_ok-rows.ensures refl (at_end (λ i. record { aux = long i + 1; rows = c.in_ok-rows.rows; post = c.in_ok-post.ensures.exact i }))))
