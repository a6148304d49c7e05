use Rattle.std.proofs.Common.{refl, ap, sym}
use Rattle.items.proofs.Gives.{Gives-Ok, Gives-Err}
use Rattle.linear_terms.specs.TermError.{cause}
use Rattle.polyhedra.specs.Bounds.{bound_by}
use Rattle.posing.proofs.Following.{stops}
use Rattle.posing.proofs.Steps.{notes_first, at_end, in_other_words}
use Rattle.polyhedra.proofs.bounds.bound_by.Goals as goal

pub returns-in-Ok : goal.returns-in-Ok
returns-in-Ok g c = λ stated gives.
    in_other_words (ap bound_by (sym (Gives-Ok cause (λ x. x) c.args.goals stated c.in-Ok.goals c.in-Ok.is gives))) (c.ask_bound.ensures c.in-Ok.goals refl)

pub returns-in_err-note-in-Err : goal.returns-in_err-note-in-Err
returns-in_err-note-in-Err g c = λ stated gives. stops _ _ _ _ _ _ c.in_err-note-in-Err.ensures.noted c.from_residual.ensures.1

pub returns-in_ok-note-in-Err : goal.returns-in_ok-note-in-Err
unfolding bound_by
returns-in_ok-note-in-Err g c = λ stated gives.
    in_other_words (ap bound_by (sym (Gives-Err cause (λ x. x) c.args.goals stated c.in-Err.error c.in-Err.error c.in-Err.is c.in_ok-note-in-Err.ensures.told gives)))
    (notes_first c.in_ok-note-in-Err.ensures.noted refl (at_end refl))
