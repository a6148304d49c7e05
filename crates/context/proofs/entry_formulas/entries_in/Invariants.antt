use Rattle.std.proofs.Common.{◌≡◌, map}
use Rattle.std.specs.List.{range_with_len}
use Rattle.proc_summary.specs.Flow.{formula_at}
use Rattle.context.specs.Entries.{node_of}
use Rattle.context.proofs.entry_formulas.entries_in.Given as goal

abbrev pub invariant-loop-number : goal.invariant-loop-number
invariant-loop-number l = l.made ≡ map (λ proc. formula_at 0 l.cells (node_of l.program.main proc)) (range_with_len 0 l.number)
