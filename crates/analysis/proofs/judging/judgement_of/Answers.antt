use Rattle.std.proofs.Common.{◌≡◌, ◌∙◌, sym, ap, subst}
use Rattle.std.specs.Prelude.{IfOk, Option, None, Some}
use Rattle.posing.proofs.Steps.{at_end, in_other_words}
use Rattle.analysis.specs.declared.standing.CheckAt.{CheckAt}
use Rattle.analysis.specs.Claims.{IsJudged}
use Rattle.analysis.specs.Judging.{assertion_of, check_with, checks_of, judgement_of, place_in, unreached_judgement}
use Rattle.analysis.proofs.ChecksStand.{check-is, check-none}
use Rattle.analysis.proofs.judging.judgement_of.Goals as goal

pub judgement_at-requires-clause-check : goal.judgement_at-requires-clause-check
judgement_at-requires-clause-check g c =
    let is : Some c.in-Some.check ≡ check_with c.args.number (checks_of 0 c.args.text.program.now.procs) = c.in-Some.ensures ∙ ap (check_with c.args.number) (c.as_slice.ensures ∙ c.requires.text.standing.checks) in
    (check-is c.args.text.program.now c.args.number c.in-Some.check (sym is)).0

pub returns-in-Some-clause-sound : goal.returns-in-Some-clause-sound
returns-in-Some-clause-sound g c = λ enter hold.
    let is : Some c.in-Some.check ≡ check_with c.args.number (checks_of 0 c.args.text.program.now.procs) = c.in-Some.ensures ∙ ap (check_with c.args.number) (c.as_slice.ensures ∙ c.requires.text.standing.checks) in
    subst (λ n. IfOk c.judgement_at.result (IsJudged c.args.text.program.now n)) (check-is c.args.text.program.now c.args.number c.in-Some.check (sym is)).1 (c.judgement_at.ensures.sound enter hold)

abbrev none : Option CheckAt
none = None

pub returns-in-None-clause-follows : goal.returns-in-None-clause-follows
unfolding judgement_of
returns-in-None-clause-follows g c =
    let is : none ≡ check_with c.args.number (checks_of 0 c.args.text.program.now.procs) = c.in-None.ensures ∙ ap (check_with c.args.number) (c.as_slice.ensures ∙ c.requires.text.standing.checks) in
    in_other_words (ap (λ o. judgement_of (place_in c.args.text.places.now c.args.number) (assertion_of c.args.text.program.now c.args.text.entries.now c.args.text.flows.now o)) is)
    (at_end (c.unreached_judgement.ensures ∙ ap unreached_judgement c.place_in-at.ensures))

pub returns-in-None-clause-sound : goal.returns-in-None-clause-sound
returns-in-None-clause-sound g c = λ enter hold proved fails.
    let is : none ≡ check_with c.args.number (checks_of 0 c.args.text.program.now.procs) = c.in-None.ensures ∙ ap (check_with c.args.number) (c.as_slice.ensures ∙ c.requires.text.standing.checks) in
    check-none c.args.text.program.now c.args.number (sym is) fails
