use Rattle.std.proofs.Common.{◌≡◌, length}
use Rattle.farkas_check.specs.Points.{ratio_at}
use Rattle.elimination.proofs.points.ratio_at.Given as goal

abbrev pub invariant-loop-own : goal.invariant-loop-own
invariant-loop-own l = ratio_at l.columns l.point l.column ≡ ratio_at l.fn.columns l.fn.point l.column

abbrev pub decreases-loop-own : goal.decreases-loop-own
decreases-loop-own l = length l.columns
