use Rattle.std.proofs.Common.{◌-◌, length}
use Rattle.c_lexer.proofs.Scanning.{Kept}
use Rattle.c_lexer.proofs.scan.scan.Given as goal

-- the text is cut up to here
abbrev pub invariant-loop-at : goal.invariant-loop-at
invariant-loop-at l = Kept l.bytes l.at l.fresh l.tokens

abbrev pub decreases-loop-at : goal.decreases-loop-at
decreases-loop-at l = length l.bytes - l.at
