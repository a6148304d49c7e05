-- Cases of which each has few auxiliaries.
use Rattle.std.proofs.Common.{ℕ, ◌+◌, ◌<◌, ◌^◌, List, arith, refl}
use Rattle.std.specs.Prelude.{All, IsTrue, nat_lt}
use Rattle.std.specs.List.{list_all}
use Rattle.linear_terms.specs.declared.row.Case.{Case}
use Rattle.transition_formula.proofs.Fitting.{true-below}
use Rattle.transition_formula.proofs.Loops.{test_at}

pub all_few : (first second : List Case) (to : ℕ) → to < 1000 → IsTrue (list_all (λ (case : Case). nat_lt case.aux 1000) first) → IsTrue (list_all (λ (case : Case). nat_lt case.aux 1000) second)
    → All (λ (x : Case). All (λ (y : Case). x.aux + y.aux + to < 2 ^ 32) second) first
all_few first second to small h k i d lt j e below =
    let one = true-below _ 1000 (test_at (λ (case : Case). nat_lt case.aux 1000) first i d _ h lt refl) in
    let other = true-below _ 1000 (test_at (λ (case : Case). nat_lt case.aux 1000) second j e _ k below refl) in
    omega arith
