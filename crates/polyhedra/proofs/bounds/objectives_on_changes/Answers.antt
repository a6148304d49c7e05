use Rattle.std.proofs.Common.{true, length, sym, subst, ◌∙◌}
use Rattle.linear_terms.specs.Expressions.{put_into}
use Rattle.polyhedra.specs.Changes.{change}
use Rattle.polyhedra.specs.declared.changes.Moves.{Moves}
use Rattle.polyhedra.specs.Bounds.{IsCovered, for_entries}
use Rattle.polyhedra.specs.Kept.{objectives_of}
use Rattle.polyhedra.proofs.Objectives.{objectives_of-next}
use Rattle.polyhedra.proofs.ChangeTables.{table-at, table-covers}
use Rattle.polyhedra.proofs.bounds.objectives_on_changes.Goals as goal

pub objective-requires : goal.objective-requires
objective-requires c =
    subst (λ (moves : Moves). IsCovered (length moves.polys) c.args.d.now) c.index-changes-place.is
    (table-covers c.args.changes.cases.now c.args.changes.tables.now c.args.d.now c.requires c.loop-place.place c._case-item.result c.index-changes-place.result c.loop-place-test.true c._case-item.is c.index-changes-place.is)

pub loop-place-preserved : goal.loop-place-preserved
loop-place-preserved c =
    let table = sym c.index-changes-place.is ∙ table-at c.args.changes.cases.now c.args.changes.tables.now c.args.d.now c.requires c.loop-place.place c._case-item.result c.index-changes-place.result c.loop-place-test.true c._case-item.is c.index-changes-place.is in
    let next = objectives_of-next (λ case. put_into (for_entries (change true case)) c.args.d.now) c.args.changes.cases.now c.loop-place.place c._case-item.result c.loop-place.objectives
    (objectives_of (λ case. put_into (for_entries (change true case)) c.args.d.now) c.args.changes.cases.now)
    c.loop-place-test.true c._case-item.is c.loop-place.invariant c.in_ok-objective.field-0 (c.in_ok-objective.ensures true c.requires.count c._case-item.result table) in
    rw c.in_ok-push.ensures.ok next
