use Rattle.std.proofs.Common.{◌≡◌, drop}
use Rattle.farkas_check.proofs.Spreads.{is_among}
use Rattle.simplex.proofs.widening.is_own.Given as goal

abbrev pub invariant-loop-column : goal.invariant-loop-column
invariant-loop-column l = is_among l.mono (drop l.column-index l.own) ≡ is_among l.mono l.own
