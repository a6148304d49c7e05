use Rattle.std.proofs.Common.{◌≡◌, drop}
use Rattle.std.specs.List.{flat_map}
use Rattle.std.specs.Prelude.{option_to_list}
use Rattle.phases.specs.Splits.{normal_polynomial}
use Rattle.phases.specs.Words.{with_splits}
use Rattle.phases.proofs.splitting.add_normal.Given as goal

abbrev pub invariant-loop-poly : goal.invariant-loop-poly
invariant-loop-poly l = with_splits l.made (flat_map (λ p. option_to_list (normal_polynomial p)) (drop l.poly-index l.polys)) ≡ with_splits l.initial.made (flat_map (λ p. option_to_list (normal_polynomial p)) l.polys)
