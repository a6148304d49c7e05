use Rattle.std.proofs.Common.{◌≡◌, ◌+◌, drop}
use Rattle.std.specs.Option.{option_map}
use Rattle.newton_rounds.specs.Members.{place_of}
use Rattle.newton_rounds.proofs.calls.place_of.Given as goal

abbrev pub invariant-loop-place : goal.invariant-loop-place
invariant-loop-place l = place_of l.proc l.procs ≡ option_map (λ n. n + l.place) (place_of l.proc (drop l.place l.procs))
