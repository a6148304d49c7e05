use Rattle.std.proofs.Common.{◌≡◌, ◌+◌, ◌++◌, ◌∙◌, ap, drop, get_or, refl, subst, sym}
use Rattle.report.specs.declared.points.RowsAt.TheVariants.{Loop}
use Rattle.point_reports.specs.Blocks.{rows_at_loops, rows_told}
use Rattle.point_reports.proofs.ToldLists.{loops-end, loops-next}
use Rattle.point_reports.proofs.blocks.add_loops.Goals as goal

pub loop-head-preserved : goal.loop-head-preserved
loop-head-preserved c =
    let at = c.args.at in
    let program = at.program.now in
    let table = c.args.table.now in
    let whole = c.args.told.now ++ rows_at_loops program table at.number at.proc.now 1 at.heads.now in
    let rows = c.rows_at-rows.ensures program c.requires.heads in
    subst (λ n. c.add_rows.new.told ++ rows_at_loops program table at.number at.proc.now n (drop (c.loop-head.head-index + 1) at.heads.now) ≡ whole) (sym c.in_ok-number.ensures)
    (loops-next program table at.number at.proc.now c.loop-head.number at.heads.now c.loop-head.head-index (get_or at.heads.now c.loop-head.head-index 0) 0 c.loop-head.told c.add_rows.new.told whole c.loop-head-test.true refl c.loop-head.invariant
    (c.in_ok-add_rows.ensures ∙ ap (λ rs. c.loop-head.told ++ rows_told program at.number at.proc.now (Loop c.loop-head.number) rs) rows))

pub returns : goal.returns
returns c =
    let at = c.args.at in
    let program = at.program.now in
    let table = c.args.table.now in
    loops-end program table at.number at.proc.now c.loop-head.number at.heads.now c.loop-head.head-index c.loop-head.told (c.args.told.now ++ rows_at_loops program table at.number at.proc.now 1 at.heads.now) c.loop-head-test.false c.loop-head.invariant
