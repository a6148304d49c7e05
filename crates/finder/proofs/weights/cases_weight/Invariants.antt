use Rattle.std.proofs.Common.{◌≡◌, ◌-◌, ◌^◌, ◌+◌, ◌≤◌, ◌*◌, length, drop, min}
use Rattle.std.specs.List.{sum_by}
use Rattle.finder.proofs.weights.cases_weight.Given as goal

abbrev pub invariant-loop-case : goal.invariant-loop-case
invariant-loop-case l = (l.weight ≤ 2 ^ 64 - 1) × (min (2 ^ 64 - 1) (l.weight + sum_by (λ case. length case.rows * length case.terms) (drop l.case-index l.cases)) ≡ min (2 ^ 64 - 1) (sum_by (λ case. length case.rows * length case.terms) l.cases))
