use Rattle.std.proofs.Common.{◌<◌, sym, subst}
use Rattle.proc_summary.proofs.CratesBelow.{some_at}
use Rattle.proc_summary.proofs.Graphs.{nodes-are}
use Rattle.proc_summary.proofs.nodes.trees.Goals as goal

pub trees_in-requires-clause-own : goal.trees_in-requires-clause-own
trees_in-requires-clause-own g c = record { formed = c.requires.formed; procedure = c.requires.procedure; graph = c.in_ok-graph.ensures; known = c.requires.known }

pub trees_in-requires-clause-source : goal.trees_in-requires-clause-source
trees_in-requires-clause-source g c =
    let there = some_at c.args.program.now.procs c.args.proc c.requires.procedure in
    subst (λ n. c.args.source < n) (sym (nodes-are c.args.program.now c.args.proc there.0 c.args.known.now there.1 c.in_ok-graph.graph c.in_ok-graph.ensures)) (c.requires.source there.0 there.1)
