use Rattle.std.proofs.Common.{◌≡◌, ℕ, Ok, arith, refl, sym, ap, subst, ◌∙◌}
use Rattle.items.specs.Gives.{FailsBy}
use Rattle.execution.specs.Chosen.{cause, chosen_step}
use Rattle.execution.specs.Interpreter.{machine_config}
use Rattle.replay.specs.Chosen.{chosen}
use Rattle.replay.specs.Follow.{reached_state}
use Rattle.replay.proofs.ChosenExecutions.{chosen-can, choices_take_values}
use Rattle.replay.proofs.Traces.{last-end, spent-trace, stopped-end}
use Rattle.replay.proofs.turns.Run.finish.Goals as goal

pub advance-requires-clause-can_run : goal.advance-requires-clause-can_run
advance-requires-clause-can_run c =
    chosen-can c.args.program.now c.args.values.now c.loop-steps.steps (reached_state c.loop-steps.self) c.requires.well_formed c.loop-steps.invariant

pub advance-requires-clause-few : goal.advance-requires-clause-few
advance-requires-clause-few c =
    let few = (choices_take_values c.args.program.now c.args.values.now c.loop-steps.steps (reached_state c.loop-steps.self) c.loop-steps.invariant).2 in
    omega (arith, few, c.loop-steps.auto.steps-end, c.ranges.turns.fits)

pub returns-in-Err : goal.returns-in-Err
returns-in-Err c =
    stopped-end c.args.program.now c.args.values.now c.args.turns c.loop-steps.steps (reached_state c.loop-steps.self)
    c.requires.well_formed c.loop-steps.auto.steps-end c.loop-steps.invariant
    c.end_of.result c.in-Err.cause c.advance.new.self.events c.in-Err.ensures.kept c.end_of.ensures c.in-Err.ensures.stopped

pub step-requires-clause-fits : goal.step-requires-clause-fits
step-requires-clause-fits c =
    chosen-can c.args.program.now c.args.values.now c.loop-steps.steps (reached_state c.loop-steps.self) c.requires.well_formed c.loop-steps.invariant

pub returns-in-Err-step : goal.returns-in-Err-step
returns-in-Err-step c =
    let same : c.loop-steps.steps ≡ c.args.turns = omega (arith, c.loop-steps.auto.steps-end, c.loop-steps-test.false) in
    let is = subst (λ (n : ℕ). chosen c.args.program.now c.args.values.now n ≡ Ok (reached_state c.loop-steps.self)) same c.loop-steps.invariant in
    let fails = subst (λ number. FailsBy (cause c.in-Err-step.cause) (chosen_step c.args.program.now number (machine_config c.loop-steps.self.machine)))
    c.number_at-number.ensures c.in-Err-step.ensures in
    last-end c.args.program.now c.args.values.now c.args.turns c.args.turns (reached_state c.loop-steps.self)
    c.requires.well_formed (omega arith) is
    c.end_of-in-Err-step.result c.in-Err-step.cause c.loop-steps.self.events refl c.end_of-in-Err-step.ensures fails

pub returns : goal.returns
returns c =
    let same : c.loop-steps.steps ≡ c.args.turns = omega (arith, c.loop-steps.auto.steps-end, c.loop-steps-test.false) in
    let is = subst (λ (n : ℕ). chosen c.args.program.now c.args.values.now n ≡ Ok (reached_state c.loop-steps.self)) same c.loop-steps.invariant in
    let number = ap (λ number. chosen_step c.args.program.now number (machine_config c.loop-steps.self.machine)) (sym c.number_at-number.ensures) in
    spent-trace c.args.program.now c.args.values.now c.args.turns c.args.turns (reached_state c.loop-steps.self)
    c.requires.well_formed (omega arith) is _ c.loop-steps.self.events refl refl (number ∙ c.in_default-step.ensures)
