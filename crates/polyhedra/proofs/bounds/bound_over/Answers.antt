use Rattle.std.proofs.Common.{Ok, refl, ap, sym, ◌∙◌}
use Rattle.items.specs.Gives.{◌>>=◌}
use Rattle.items.proofs.Gives.{Gives-Ok, Gives-Err}
use Rattle.linear_terms.specs.TermError.{cause}
use Rattle.polyhedra.specs.Bounds.{bound_by}
use Rattle.polyhedra.specs.Kept.{with_objectives, objectives_of}
use Rattle.posing.proofs.Following.{stops}
use Rattle.posing.proofs.Steps.{notes_first, at_end, in_other_words}
use Rattle.polyhedra.proofs.GoalObjectives.{AreOver-next, goals_of-kept}
use Rattle.polyhedra.proofs.bounds.bound_over.Goals as goal

pub returns-in-Ok-clause-follows : goal.returns-in-Ok-clause-follows
returns-in-Ok-clause-follows g c = λ cases objective over gives.
    let told = Gives-Ok cause (λ x. x) c.args.objectives (objectives_of objective cases) c.in-Ok.objectives c.in-Ok.is gives in
    in_other_words (ap bound_by (ap (λ r. r >>= λ ps. Ok (with_objectives c.args.goals.now ps)) (sym told) ∙ goals_of-kept objective cases c.args.goals.now over)) c.bound_with.ensures.follows

pub returns-in-Ok-clause-goals : goal.returns-in-Ok-clause-goals
returns-in-Ok-clause-goals g c = λ cases over. rw c.bound_with.ensures.goals (AreOver-next cases c.args.goals.now c.in-Ok.objectives over)

pub returns-in_err-note-in-Err-clause-follows : goal.returns-in_err-note-in-Err-clause-follows
returns-in_err-note-in-Err-clause-follows g c = λ cases objective over gives. stops _ _ _ _ _ _ c.in_err-note-in-Err.ensures.noted c.from_residual.ensures.1

pub returns-in_ok-note-in-Err-clause-follows : goal.returns-in_ok-note-in-Err-clause-follows
unfolding bound_by
returns-in_ok-note-in-Err-clause-follows g c = λ cases objective over gives.
    let told = Gives-Err cause (λ x. x) c.args.objectives (objectives_of objective cases) c.in-Err.error c.in-Err.error c.in-Err.is c.in_ok-note-in-Err.ensures.told gives in
    in_other_words (ap bound_by (ap (λ r. r >>= λ ps. Ok (with_objectives c.args.goals.now ps)) (sym told) ∙ goals_of-kept objective cases c.args.goals.now over))
    (notes_first c.in_ok-note-in-Err.ensures.noted refl (at_end refl))
