use Rattle.point_search.proofs.PlacedRows.{unless-more, unless-none}
use Rattle.point_search.proofs.tables.placed_rows.Goals as goal
use Rattle.point_search.proofs.tables.placed_rows.Goals.{then-may_stand+in_ok-add_copy, else-may_stand}

pub loop-row-init : goal.loop-row-init
loop-row-init c = unless-none c.args.none c.args.columns _ c.new-placed.ensures

pub loop-row-preserved : goal.loop-row-preserved
loop-row-preserved c =
    elim c.if-may_stand.branch [
      | then-may_stand+in_ok-add_copy w ↦
          rw w.placed-is (unless-more c.args.none c.args.columns c.loop-row.placed _ _ _ _ c.loop-row.invariant c.as_slice.ensures c.may_stand.ensures w.if-may_stand.true w.in_ok-add_copy.ensures)
      | else-may_stand w ↦ rw w.placed-is c.loop-row.invariant
    ]
