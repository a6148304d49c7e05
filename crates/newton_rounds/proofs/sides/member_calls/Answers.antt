use Rattle.std.proofs.Common.{◌∙◌, get_or}
use Rattle.newton_rounds.proofs.GroupCalls.{call-nodes, calls-made}
use Rattle.newton_rounds.proofs.ReadyGroups.{procs-few}
use Rattle.newton_rounds.proofs.Widths.{exit-node}
use Rattle.newton_rounds.proofs.sides.member_calls.Goals as goal

pub calls_of-requires : goal.calls_of-requires
calls_of-requires c = procs-few c.args.group c.requires.group

pub returns-clause-nodes : goal.returns-clause-nodes
returns-clause-nodes c = λ p is.
    let program = c.args.group.program.now in
    let procs = c.args.group.procs.now in
    let proc = get_or procs c.args.place 0 in
    record {
      exit_is = exit-node program proc p c.requires.group.formed is c.in_ok-graph.graph c.in_ok-graph.ensures.exact;
      ends =
          call-nodes program proc p is c.in_ok-graph.graph c.in_ok-graph.ensures.exact procs c.args.place c.as_slice.result.now c.in_ok-calls.calls c.as_slice.ensures c.in_ok-graph.ensures.edges
          c.in_ok-calls.ensures;
    }

pub returns-clause-made : goal.returns-clause-made
returns-clause-made c = λ p is.
    c.in_ok-calls.ensures
    ∙ calls-made c.args.group.program.now (get_or c.args.group.procs.now c.args.place 0) p is c.in_ok-graph.graph c.in_ok-graph.ensures.exact c.args.group.procs.now c.args.place c.as_slice.result.now c.as_slice.ensures
