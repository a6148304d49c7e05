use Rattle.std.proofs.Common.{◌≡◌, map, take}
use Rattle.newton_rounds.proofs.closure.pairs_of.Given as goal

abbrev pub invariant-loop-member : goal.invariant-loop-member
invariant-loop-member l = l.pairs ≡ map (λ member. member.pair) (take l.member-index l.members)
