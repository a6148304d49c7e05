use Rattle.std.proofs.Common.{◌≡◌, ◌-◌, ◌^◌, ◌+◌, ◌*◌, length, drop, min, List, [], subst, arith}
use Rattle.std.specs.List.{sum_by}
use Rattle.std.proofs.lemmas.List.{drop_all}
use Rattle.farkas_check.specs.declared.stratum.Change.{Change}
use Rattle.finder.proofs.weights.cases_weight.Goals as goal

pub returns : goal.returns
returns c =
    let rest : drop c.loop-case.case-index c.args.cases.now ≡ [] = drop_all c.loop-case.case-index c.args.cases.now (omega arith) in
    let ended : min (2 ^ 64 - 1) (c.loop-case.weight + 0) ≡ min (2 ^ 64 - 1) (sum_by (λ (case : Change). length case.rows * length case.terms) c.args.cases.now) = subst (λ (left : List Change). min (2 ^ 64 - 1) (c.loop-case.weight + sum_by (λ (case : Change). length case.rows * length case.terms) left) ≡ min (2 ^ 64 - 1) (sum_by (λ (case : Change). length case.rows * length case.terms) c.args.cases.now)) rest c.loop-case.invariant.1 in
    omega (arith, ended, c.loop-case.invariant.0)
