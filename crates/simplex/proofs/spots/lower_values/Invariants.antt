use Rattle.std.proofs.Common.{◌≡◌, drop}
use Rattle.farkas_check.specs.Points.{ratio_at, ratio_value}
use Rattle.farkas_check.specs.Stratum.{minus_value}
use Rattle.simplex.specs.Exchange.{behind}
use Rattle.simplex.specs.Spots.{values_of}
use Rattle.simplex.proofs.spots.lower_values.Given as goal

abbrev pub invariant-loop-term : goal.invariant-loop-term
invariant-loop-term l = behind l.made (values_of (minus_value (ratio_value (ratio_at l.columns l.point))) (drop l.term-index l.lower)) ≡ values_of (minus_value (ratio_value (ratio_at l.columns l.point))) l.lower
