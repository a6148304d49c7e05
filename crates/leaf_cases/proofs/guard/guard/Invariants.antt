use Rattle.std.proofs.Common.{◌≡◌, ◌++◌, map, drop}
use Rattle.leaf_cases.specs.Guard.{columns_of, with_posts}
use Rattle.leaf_cases.proofs.guard.guard.Given as goal

abbrev pub invariant-loop-case : goal.invariant-loop-case
invariant-loop-case l = l.made ++ map (with_posts (columns_of l.columns)) (drop l.case-index l.cases) ≡ map (with_posts (columns_of l.columns)) l.cases
