use Rattle.std.proofs.Common.{refl, sym, ap}
use Rattle.items.proofs.Gives.{Gives-Ok, Gives-Err}
use Rattle.linear_terms.specs.TermError.{cause}
use Rattle.posing.proofs.Following.{stops}
use Rattle.posing.proofs.Steps.{notes_first, at_end, in_other_words}
use Rattle.phases.specs.Phases.{case_excludes_by}
use Rattle.phases.proofs.halving.excludes_by.Goals as goal

pub returns-in-Ok : goal.returns-in-Ok
returns-in-Ok g c = λ stated gives.
    let same = Gives-Ok cause (λ p. p) c.args.after stated c.in-Ok.poly c.in-Ok.is gives in
    in_other_words (ap (case_excludes_by c.args.case.now) (sym same)) c.order_excludes.ensures

pub returns-in_ok-note_lost-in-Err : goal.returns-in_ok-note_lost-in-Err
returns-in_ok-note_lost-in-Err g c = λ stated gives.
    let same = Gives-Err cause (λ p. p) c.args.after stated c.in-Err.error c.in-Err.error c.in-Err.is c.in_ok-note_lost-in-Err.ensures.told gives in
    in_other_words (ap (case_excludes_by c.args.case.now) (sym same)) (notes_first c.in_ok-note_lost-in-Err.ensures.noted refl (at_end refl))

pub returns-in_err-note_lost-in-Err : goal.returns-in_err-note_lost-in-Err
returns-in_err-note_lost-in-Err g c = λ stated gives. stops _ _ _ _ _ _ c.in_err-note_lost-in-Err.ensures.noted c.from_residual.ensures.1
