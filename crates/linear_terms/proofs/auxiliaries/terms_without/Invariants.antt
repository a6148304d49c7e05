use Rattle.std.proofs.Common.{◌≡◌, ◌++◌, drop}
use Rattle.std.specs.Prelude.{not}
use Rattle.std.specs.List.{filter}
use Rattle.linear_terms.specs.Auxiliaries.{has_auxiliary}
use Rattle.linear_terms.proofs.auxiliaries.terms_without.Given as goal

abbrev pub invariant-loop-mono : goal.invariant-loop-mono
invariant-loop-mono l =
    l.made ++ filter (λ t. not (has_auxiliary l.aux t.0)) (drop l.mono-index l.terms) ≡ filter (λ t. not (has_auxiliary l.aux t.0)) l.terms
