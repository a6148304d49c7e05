use Rattle.std.proofs.Common.{refl, sym, subst}
use Rattle.posing.proofs.Following.{leads_none, loop_ends, stops}
use Rattle.posing.proofs.Steps.{each_next, each_fails}
use Rattle.polyhedra.specs.Bounds.{rows_with_entry_bound}
use Rattle.polyhedra.specs.Kept.{AreOver}
use Rattle.polyhedra.proofs.GoalObjectives.{AreOver-first}
use Rattle.polyhedra.proofs.bounds.bounds_before.Goals as goal

pub loop-d-init : goal.loop-d-init
loop-d-init g c = (leads_none _ _ _ _, subst (AreOver c.args.cases.now) (sym c.in_ok-goals.ensures) (AreOver-first c.args.cases.now))

pub returns-in_err-made : goal.returns-in_err-made
returns-in_err-made g c = each_fails (rows_with_entry_bound c.args.cases.now) _ _ c.loop-d.invariant.0 c.loop-d-test.true c.d-item.is c.in_err-made.ensures.follows c.from_residual-in_err-made.ensures.1

pub loop-d-preserved : goal.loop-d-preserved
loop-d-preserved g c = (each_next (rows_with_entry_bound c.args.cases.now) _ _ c.loop-d.invariant.0 c.loop-d-test.true c.d-item.is c.in_ok-made.ensures.follows, c.in_ok-made.ensures.goals)

pub returns-in_err-goals : goal.returns-in_err-goals
returns-in_err-goals g c = stops _ _ _ _ _ _ refl c.from_residual.ensures.1

pub returns : goal.returns
returns g c = loop_ends _ _ _ _ _ _ _ _ _ _ c.loop-d.invariant.0 c.loop-d-test.false
