use Rattle.std.proofs.Common.{◌≡◌, ◌++◌, drop}
use Rattle.newton_rounds.specs.Closure.{ends_of_members}
use Rattle.newton_rounds.proofs.ends.ends_of_members.Given as goal

abbrev pub invariant-loop-proc : goal.invariant-loop-proc
invariant-loop-proc l = l.all ++ ends_of_members l.program (drop l.proc-index l.procs) ≡ ends_of_members l.program l.procs
