use Rattle.std.proofs.Common.{◌≡◌, ◌++◌, drop}
use Rattle.test_formulas.proofs.columns.copies.Given as goal

abbrev pub invariant-loop-case : goal.invariant-loop-case
invariant-loop-case l = l.copies ++ drop l.case-index l.cases ≡ l.cases
