use Rattle.std.proofs.Common.{◌≡◌, take}
use Rattle.syntax_tree.proofs.program.Program.copy.Given as goal

abbrev pub invariant-loop-proc : goal.invariant-loop-proc
invariant-loop-proc l = l.procs ≡ take l.proc-index l.proc-items
