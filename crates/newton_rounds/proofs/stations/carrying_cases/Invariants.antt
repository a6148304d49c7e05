use Rattle.std.proofs.Common.{◌≡◌, ◌++◌, map, drop}
use Rattle.leaf_cases.specs.Guard.{with_posts}
use Rattle.newton_rounds.proofs.stations.carrying_cases.Given as goal

abbrev pub invariant-loop-case : goal.invariant-loop-case
invariant-loop-case l = l.made ++ map (λ case. with_posts (case.post ++ l.back) case) (drop l.case-index l.cases) ≡ map (λ case. with_posts (case.post ++ l.back) case) l.cases
