use Rattle.std.proofs.Common.{refl, sym, ap}
use Rattle.items.proofs.Gives.{Gives-Ok, Gives-Err}
use Rattle.linear_terms.specs.TermError.{cause}
use Rattle.polyhedra.specs.Thin.{thinning_by}
use Rattle.posing.proofs.Following.{stops}
use Rattle.posing.proofs.Steps.{notes_first, at_end, in_other_words}
use Rattle.polyhedra.proofs.thinning.thin_by.Goals as goal

pub returns-in-Ok : goal.returns-in-Ok
unfolding thinning_by
returns-in-Ok g c = λ stated gives.
    let same = Gives-Ok cause (λ r. r) c.args.negation stated c.in-Ok.row c.in-Ok.is gives in
    in_other_words (ap (λ m. thinning_by m c.args.place c.args.rows) (sym same)) c.thin_with.ensures

pub returns-in_ok-note-in-Err : goal.returns-in_ok-note-in-Err
unfolding thinning_by
returns-in_ok-note-in-Err g c = λ stated gives.
    let same = Gives-Err cause (λ r. r) c.args.negation stated c.in-Err.error c.in-Err.error c.in-Err.is c.in_ok-note-in-Err.ensures.told gives in
    in_other_words (ap (λ m. thinning_by m c.args.place c.args.rows) (sym same)) (notes_first c.in_ok-note-in-Err.ensures.noted refl (at_end refl))

pub returns-in_err-note-in-Err : goal.returns-in_err-note-in-Err
returns-in_err-note-in-Err g c = λ stated gives. stops _ _ _ _ _ _ c.in_err-note-in-Err.ensures.noted c.from_residual.ensures.1
