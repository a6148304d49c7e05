use Rattle.wire.specs.Sharing.{IsShared}
use Rattle.wire.proofs.sharing.share.Given as goal

abbrev pub invariant-loop-answer : goal.invariant-loop-answer
invariant-loop-answer l = IsShared l.yielded l.distinct.keys l.order
