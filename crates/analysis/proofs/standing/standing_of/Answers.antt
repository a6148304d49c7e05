use Rattle.std.proofs.Common.{◌<◌, ◌++◌, length, map, ap, arith}
use Rattle.flow_graph.specs.Plain.{plain}
use Rattle.proc_summary.specs.Subject.{own_graph}
use Rattle.proc_summary.proofs.CratesBelow.{some_at}
use Rattle.analysis.specs.Judging.{checks_of}
use Rattle.analysis.proofs.ChecksStand.{graph-next, proc-next, procs-end}
use Rattle.analysis.proofs.standing.standing_of.Goals as goal

pub loop-proc-init : goal.loop-proc-init
loop-proc-init c =
    let procs = c.args.program.now.procs in
    record {
      graphs = ap (λ l. map plain l ++ map own_graph procs) c.new-graphs.ensures;
      checks = ap (λ l. l ++ checks_of 0 procs) c.new-checks.ensures;
    }

pub loop-proc-preserved : goal.loop-proc-preserved
loop-proc-preserved c =
    let program = c.args.program.now in
    let i = c.loop-proc.proc in
    let lt : i < length program.procs = omega arith in
    let there = some_at program.procs i lt in
    record {
      graphs = graph-next program i there.0 c.loop-proc.graphs c.add_proc.new.graphs _ lt there.1 c.loop-proc.invariant.graphs c.in_ok-add_proc.ensures.graphs;
      checks = proc-next program i there.0 c.loop-proc.checks c.add_proc.new.checks _ lt there.1 c.loop-proc.invariant.checks c.in_ok-add_proc.ensures.checks;
    }

pub returns : goal.returns
returns c = procs-end c.args.program.now c.loop-proc.proc _ (omega arith) c.loop-proc.invariant.graphs c.loop-proc.invariant.checks
