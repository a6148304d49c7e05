use Rattle.std.proofs.Common.{◌<◌, sym, subst}
use Rattle.proc_summary.proofs.CratesBelow.{some_at}
use Rattle.proc_summary.proofs.Graphs.{nodes-are}
use Rattle.proc_summary.proofs.nodes.cells.Goals as goal

pub cells_of-requires-clause-own : goal.cells_of-requires-clause-own
cells_of-requires-clause-own g c = record { formed = c.requires.formed; procedure = c.requires.procedure; graph = c.in_ok-graph.ensures; known = c.requires.known }

pub cells_of-requires-clause-source : goal.cells_of-requires-clause-source
cells_of-requires-clause-source g c =
    let there = some_at c.args.program.now.procs c.args.proc c.requires.procedure in
    subst (λ n. c.args.source < n) (sym (nodes-are c.args.program.now c.args.proc there.0 c.args.known.now there.1 c.in_ok-graph.graph c.in_ok-graph.ensures)) (c.requires.source there.0 there.1)
