use Rattle.std.proofs.Common.{◌≡◌, ◌+◌, drop}
use Rattle.std.specs.Option.{option_map}
use Rattle.newton_rounds.specs.Members.{place_of}
use Rattle.alike_groups.proofs.callees.place_of.Given as goal

abbrev pub invariant-loop-place : goal.invariant-loop-place
invariant-loop-place l =
    place_of l.number l.numbers
    ≡ option_map (λ place. place + l.place) (place_of l.number (drop l.place l.numbers))
