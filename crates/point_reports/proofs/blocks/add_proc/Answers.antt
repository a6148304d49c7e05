use Rattle.std.proofs.Common.{◌++◌, ◌∙◌, ap}
use Rattle.flow_graph.specs.FlowGraph.{graph_of}
use Rattle.point_induction.specs.Points.{heads_of}
use Rattle.report.specs.declared.points.RowsAt.TheVariants.{Entry, Return}
use Rattle.point_rounds.specs.Table.{rows_at, rows_at_exit}
use Rattle.point_reports.specs.Blocks.{rows_at_loops, rows_told}
use Rattle.point_reports.proofs.ToldLists.{on_ok-more, parts-told}
use Rattle.point_reports.proofs.blocks.add_proc.Goals as goal

pub returns : goal.returns
returns c =
    let at = c.args.at in
    let program = at.program.now in
    let table = c.args.table.now in
    let p = at.proc.now in
    let told = rows_told program at.number p in
    let loops = rows_at_loops program table at.number p 1 in
    let old = c.args.told.now in
    on_ok-more c.add_rows-2.result
    (λ last. parts-told program table old (told Entry (rows_at program table at.number 0)) (loops (heads_of (graph_of program at.number))) (told Return (rows_at_exit table at.number)) c.add_rows.new.told c.add_loops.new.told c.add_rows-2.new.told
    (c.in_ok-add_rows.ensures ∙ ap (λ rs. old ++ told Entry rs) (c.rows_at-entry.ensures program c.requires.heads))
    (c.in_ok-add_loops.ensures ∙ ap (λ hs. c.add_rows.new.told ++ loops hs) c.requires.heads)
    (last ∙ ap (λ rs. c.add_loops.new.told ++ told Return rs) c.rows_at_exit-exit.ensures))
    c.add_rows-2.ensures
