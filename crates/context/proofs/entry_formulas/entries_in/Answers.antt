use Rattle.std.proofs.Common.{ap, ◌∙◌}
use Rattle.proc_summary.specs.Flow.{formula_at}
use Rattle.context.specs.Entries.{node_of}
use Rattle.context.proofs.Loops.{counted-next}
use Rattle.context.proofs.entry_formulas.entries_in.Goals as goal

pub loop-number-preserved : goal.loop-number-preserved
loop-number-preserved c =
    counted-next (λ proc. formula_at 0 c.args.cells.now (node_of c.args.program.now.main proc)) c.loop-number.number c.loop-number.made c.push.new.self c.in_ok-entry_at.field-0
    c.loop-number.invariant (c.in_ok-entry_at.ensures ∙ ap (λ node. formula_at 0 c.args.cells.now node) c.node_of-node.ensures) c.in_ok-push.ensures.ok
