use Rattle.std.proofs.Common.{◌≡◌, ◌++◌, map, drop}
use Rattle.std.specs.List.{flat_map}
use Rattle.transition_formula.specs.Composition.{losses_by}
use Rattle.transition_formula.specs.Hiding.{hiding, hidden_case, losses_in_hiding}
use Rattle.transition_formula.proofs.hiding.hidden_cases.Given as goal

-- those so far, and then the rest
abbrev pub invariant-loop-case : goal.invariant-loop-case
invariant-loop-case l =
    record {
      made : l.cases ++ map (hidden_case l.n l.f.from) (drop l.case-index l.case-items) ≡ map (hidden_case l.n l.f.from) l.f.cases;
      noted : l.losses ++ flat_map (λ case. losses_by (hiding l.n l.f.from case) case) (drop l.case-index l.case-items) ≡ l.initial.losses ++ losses_in_hiding l.n l.f;
    }
