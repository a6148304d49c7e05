use Rattle.std.proofs.Common.{◌≡◌, drop}
use Rattle.std.specs.Option.{is_some}
use Rattle.newton_rounds.specs.Members.{place_of}
use Rattle.newton_rounds.proofs.linear.has.Given as goal

abbrev pub invariant-loop-other : goal.invariant-loop-other
invariant-loop-other l =
    record { left : is_some (place_of l.proc (drop l.other-index l.procs)) ≡ is_some (place_of l.proc l.procs) }
