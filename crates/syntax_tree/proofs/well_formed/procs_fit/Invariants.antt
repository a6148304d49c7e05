use Rattle.std.proofs.Common.{ℕ, ◌<◌, get_or}
use Rattle.syntax_tree.specs.declared.program.Proc.{Proc}
use Rattle.syntax_tree.specs.WellFormed.{IsProcFit}
use Rattle.syntax_tree.proofs.well_formed.procs_fit.Given as goal

abbrev pub invariant-loop-proc : goal.invariant-loop-proc
invariant-loop-proc l = (k : ℕ) (d : Proc) → k < l.proc-index → IsProcFit l.program (get_or l.procs k d)
