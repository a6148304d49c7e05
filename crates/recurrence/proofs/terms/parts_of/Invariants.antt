use Rattle.std.proofs.Common.{◌≡◌, ◌++◌, Ok, map, drop}
use Rattle.items.specs.Gives.{◌>>=◌}
use Rattle.linear_terms.specs.Expressions.{all_of}
use Rattle.recurrence.specs.Strata.{part}
use Rattle.recurrence.proofs.terms.parts_of.Given as goal

-- what is made so far, and then the rest
abbrev pub invariant-loop-recurrence : goal.invariant-loop-recurrence
invariant-loop-recurrence l = all_of (map (part l.which) (drop l.recurrence-index l.lower)) >>= (λ ps. Ok (l.parts ++ ps)) ≡ all_of (map (part l.which) l.lower)
