use Rattle.std.proofs.Common.{All, take}
use Rattle.linear_terms.specs.Replacement.{IsBelow}
use Rattle.linear_terms.proofs.poly.Poly.is_covered.Given as goal

abbrev pub invariant-loop-mono : goal.invariant-loop-mono
invariant-loop-mono l = All (λ t. All (IsBelow l.at l.aux) t.0) (take l.mono-index l.mono-items)
