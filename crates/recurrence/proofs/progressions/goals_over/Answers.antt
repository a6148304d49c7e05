use Rattle.std.proofs.Common.{◌<◌, length, sym, subst}
use Rattle.linear_terms.specs.declared.row.Case.{Case}
use Rattle.polyhedra.specs.Bounds.{goals_of}
use Rattle.polyhedra.proofs.Objectives.{goals_of-next}
use Rattle.recurrence.specs.Progressions.{excess}
use Rattle.recurrence.specs.Words.{plain_progression}
use Rattle.recurrence.proofs.progressions.goals_over.Goals as goal

pub excess-requires : goal.excess-requires
excess-requires c =
    let long = c.requires.turns.posts c.loop-case.case-index c.case-item.result c.loop-case-test.true in
    subst (λ (case : Case). c.args.progression.change.variable < length case.post) (sym c.case-item.is) (subst (λ n. c.args.progression.change.variable < n) (sym long) c.requires.low)

pub loop-case-preserved : goal.loop-case-preserved
loop-case-preserved c =
    let p = plain_progression c.args.progression in
    let next = goals_of-next (excess p) c.args.turns.cases.now c.loop-case.case-index c.case-item.result c.loop-case.goals (goals_of (excess p) c.args.turns.cases.now)
    c.loop-case-test.true c.case-item.is c.loop-case.invariant c.in_ok-objective.objective c.in_ok-objective.ensures in
    rw (c.in_ok-push.ensures.ok, c.in_ok-goal_of.ensures) next
