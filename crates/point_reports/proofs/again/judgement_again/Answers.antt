use Rattle.std.proofs.Common.{◌≡◌, ◌∙◌, sym, ap, subst, refl}
use Rattle.std.specs.Prelude.{IfOk, Option, None, Some, if◌then◌else◌}
use Rattle.posing.specs.Posing.{Done}
use Rattle.posing.proofs.Following.{stops}
use Rattle.posing.proofs.Steps.{at_end, in_other_words}
use Rattle.analysis.specs.declared.standing.CheckAt.{CheckAt}
use Rattle.analysis.specs.Judging.{check_with, checks_of}
use Rattle.analysis.proofs.ChecksStand.{check-is}
use Rattle.point_reports.specs.Again.{judgement_again, judgement_at}
use Rattle.point_reports.specs.Parts.{IsAgain}
use Rattle.point_reports.proofs.JudgedAgain.{again-same}
use Rattle.point_reports.proofs.again.judgement_again.Goals as goal

pub returns-in_err-same-clause-follows : goal.returns-in_err-same-clause-follows
returns-in_err-same-clause-follows g c = stops _ _ _ _ _ _ refl c.from_residual.ensures.1

pub returns-then-is_proved-clause-follows : goal.returns-then-is_proved-clause-follows
unfolding judgement_again
returns-then-is_proved-clause-follows g c =
    let program = c.args.left.program.now in
    let left = c.args.left.round.now in
    let one = c.args.one.now in
    in_other_words (ap (λ proved. if proved then Done one else judgement_at program left one (check_with c.args.number (checks_of 0 program.procs))) (sym c.if-is_proved.true ∙ c.is_proved.ensures)) (at_end c.in_ok-same.ensures)

pub returns-then-is_proved-clause-again : goal.returns-then-is_proved-clause-again
returns-then-is_proved-clause-again g c = again-same c.args.left.program.now c.args.left.round.now c.args.number c.args.one.now c.in_ok-same.same c.in_ok-same.ensures

pub judgement_by-requires-clause-at : goal.judgement_by-requires-clause-at
judgement_by-requires-clause-at g c =
    let program = c.args.left.program.now in
    let is : Some c.in-Some.at ≡ check_with c.args.number (checks_of 0 program.procs) = c.in-Some.ensures ∙ ap (check_with c.args.number) (c.as_slice.ensures ∙ c.requires.standing.checks) in
    (check-is program c.args.number c.in-Some.at (sym is)).0

pub returns-in-Some-clause-follows : goal.returns-in-Some-clause-follows
unfolding judgement_again
returns-in-Some-clause-follows g c =
    let program = c.args.left.program.now in
    let left = c.args.left.round.now in
    let one = c.args.one.now in
    let is : Some c.in-Some.at ≡ check_with c.args.number (checks_of 0 program.procs) = c.in-Some.ensures ∙ ap (check_with c.args.number) (c.as_slice.ensures ∙ c.requires.standing.checks) in
    in_other_words
    (ap (judgement_at program left one) is
    ∙ ap (λ proved. if proved then Done one else judgement_at program left one (check_with c.args.number (checks_of 0 program.procs))) (sym c.if-is_proved.false ∙ c.is_proved.ensures))
    c.judgement_by.ensures.follows

pub returns-in-Some-clause-again : goal.returns-in-Some-clause-again
returns-in-Some-clause-again g c =
    let program = c.args.left.program.now in
    let is : Some c.in-Some.at ≡ check_with c.args.number (checks_of 0 program.procs) = c.in-Some.ensures ∙ ap (check_with c.args.number) (c.as_slice.ensures ∙ c.requires.standing.checks) in
    subst (λ n. IfOk c.judgement_by.result (IsAgain program c.args.left.round.now n c.args.one.now)) (check-is program c.args.number c.in-Some.at (sym is)).1 c.judgement_by.ensures.again

abbrev none : Option CheckAt
none = None

pub returns-in_err-copy_of-in-None-clause-follows : goal.returns-in_err-copy_of-in-None-clause-follows
returns-in_err-copy_of-in-None-clause-follows g c = stops _ _ _ _ _ _ refl c.from_residual-in_err-copy_of-in-None.ensures.1

pub returns-in_ok-copy_of-in-None-clause-follows : goal.returns-in_ok-copy_of-in-None-clause-follows
unfolding judgement_again
returns-in_ok-copy_of-in-None-clause-follows g c =
    let program = c.args.left.program.now in
    let left = c.args.left.round.now in
    let one = c.args.one.now in
    let is : none ≡ check_with c.args.number (checks_of 0 program.procs) = c.in-None.ensures ∙ ap (check_with c.args.number) (c.as_slice.ensures ∙ c.requires.standing.checks) in
    in_other_words
    (ap (judgement_at program left one) is
    ∙ ap (λ proved. if proved then Done one else judgement_at program left one (check_with c.args.number (checks_of 0 program.procs))) (sym c.if-is_proved.false ∙ c.is_proved.ensures))
    (at_end c.in_ok-copy_of-in-None.ensures)

pub returns-in_ok-copy_of-in-None-clause-again : goal.returns-in_ok-copy_of-in-None-clause-again
returns-in_ok-copy_of-in-None-clause-again g c = again-same c.args.left.program.now c.args.left.round.now c.args.number c.args.one.now c.in_ok-copy_of-in-None.field-0 c.in_ok-copy_of-in-None.ensures
