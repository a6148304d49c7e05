use Rattle.polyhedra.specs.Changes.{change}
use Rattle.polyhedra.proofs.ChangeTables.{table_of-none, table_of-more}
use Rattle.polyhedra.proofs.changes.moves_of.Goals as goal

pub loop-v-init : goal.loop-v-init
loop-v-init c = table_of-none c.args.one c.args.case.now _ c.new.ensures c.new-2.ensures

pub loop-v-preserved : goal.loop-v-preserved
loop-v-preserved c = table_of-more c.args.one c.args.case.now c.loop-v.v c.loop-v.moves _ c.loop-v.invariant (c.in_ok-moves.ensures (change c.args.one c.args.case.now c.loop-v.v) c.change-made.ensures)
