use Rattle.std.proofs.Common.{◌≡◌, ◌++◌, take}
use Rattle.newton_rounds.proofs.chains.add_cases.Given as goal

abbrev pub invariant-loop-case : goal.invariant-loop-case
invariant-loop-case l = l.made ≡ l.initial.made ++ take l.case-index l.cases
