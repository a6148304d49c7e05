use Rattle.std.proofs.Common.{◌≡◌, ◌++◌, map, drop}
use Rattle.std.specs.Prelude.{slice_index}
use Rattle.linear_terms.specs.Auxiliaries.{renumbered_column}
use Rattle.linear_terms.proofs.auxiliaries.terms_renumbered.Given as goal

abbrev pub invariant-loop-mono : goal.invariant-loop-mono
invariant-loop-mono l =
    l.made ++ map (λ t. (map (renumbered_column (slice_index l.numbers)) t.0, t.1)) (drop l.mono-index l.terms) ≡ map (λ t. (map (renumbered_column (slice_index l.numbers)) t.0, t.1)) l.terms
