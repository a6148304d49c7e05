use Rattle.std.proofs.Common.{◌≡◌, length, All, refl, sym, ap, subst, ◌∙◌}
use Rattle.linear_terms.specs.declared.row.Case.{Case}
use Rattle.posing.specs.Posing.{each}
use Rattle.posing.proofs.Following.{leads_none, loop_ends, stops}
use Rattle.posing.proofs.Steps.{each_next, each_fails, in_other_words}
use Rattle.polyhedra.specs.Bounds.{IsCovered, bounded_change}
use Rattle.polyhedra.specs.Kept.{AreOver}
use Rattle.polyhedra.proofs.Coverage.{posts-long}
use Rattle.polyhedra.proofs.GoalObjectives.{AreOver-first}
use Rattle.polyhedra.proofs.bounds.bounds_on_changes.Goals as goal

pub tables_of-requires : goal.tables_of-requires
tables_of-requires g c =
    let f = c.args.by.f.now in
    subst (λ n. All (λ (case : Case). length case.post ≡ n) c.cases-cases.result.now) (sym c.to.ensures) (posts-long f.from f.to c.cases-cases.result.now c.cases-cases.ensures.fit)

pub loop-d-init : goal.loop-d-init
loop-d-init g c = (leads_none _ _ _ _, subst (AreOver c.cases-cases.result.now) (sym c.in_ok-goals.ensures) (AreOver-first c.cases-cases.result.now))

pub returns-in_err-made : goal.returns-in_err-made
returns-in_err-made g c =
    in_other_words (ap (λ cs. each (bounded_change cs c.args.by.moved.now c.args.by.turns) c.args.rows c.args.directions.now) c.cases-cases.ensures.cases)
    (each_fails (bounded_change c.cases-cases.result.now c.args.by.moved.now c.args.by.turns) _ _ c.loop-d.invariant.0 c.loop-d-test.true c.d-item.is c.in_err-made.ensures.follows c.from_residual-in_err-made.ensures.1)

pub loop-d-preserved : goal.loop-d-preserved
loop-d-preserved g c = (each_next (bounded_change c.cases-cases.result.now c.args.by.moved.now c.args.by.turns) _ _ c.loop-d.invariant.0 c.loop-d-test.true c.d-item.is c.in_ok-made.ensures.follows, c.in_ok-made.ensures.goals)

pub bound_on_changes-requires-clause-tables : goal.bound_on_changes-requires-clause-tables
bound_on_changes-requires-clause-tables g c = record {
  count = c.to.result;
  same = c.as_slice.ensures ∙ c.in_ok-tables.ensures;
  covered = subst (λ n. IsCovered n c.d-item.result) (sym c.to.ensures) (subst (IsCovered c.args.by.f.now.to) (sym c.d-item.is) (c.requires.columns c.loop-d.d-index c.d-item.result c.loop-d-test.true));
}

pub returns-in_err-tables : goal.returns-in_err-tables
returns-in_err-tables g c = stops _ _ _ _ _ _ refl c.from_residual.ensures.1

pub returns-in_err-goals : goal.returns-in_err-goals
returns-in_err-goals g c = stops _ _ _ _ _ _ refl c.from_residual-in_err-goals.ensures.1

pub returns : goal.returns
returns g c =
    in_other_words (ap (λ cs. each (bounded_change cs c.args.by.moved.now c.args.by.turns) c.args.rows c.args.directions.now) c.cases-cases.ensures.cases)
    (loop_ends _ _ _ _ _ _ _ _ _ _ c.loop-d.invariant.0 c.loop-d-test.false)
