use Rattle.std.proofs.Common.{◌≡◌, drop, pos}
use Rattle.farkas_check.specs.Points.{ratio_at, value_from}
use Rattle.farkas_check.specs.Ratios.{whole}
use Rattle.simplex.proofs.values.terms_value.Given as goal

abbrev pub invariant-loop-mono : goal.invariant-loop-mono
invariant-loop-mono l = value_from (ratio_at l.columns l.point) l.total (drop l.mono-index l.of) ≡ value_from (ratio_at l.columns l.point) (whole (pos 0)) l.of
