use Rattle.std.proofs.Common.{◌≡◌, ◌++◌, drop}
use Rattle.std.specs.List.{filter_map}
use Rattle.newton_rounds.specs.Candidates.{kept_row}
use Rattle.newton_rounds.proofs.dropping.unrefuted_rows.Given as goal

abbrev pub invariant-loop-one : goal.invariant-loop-one
invariant-loop-one l = l.rows ++ filter_map kept_row (drop l.one-index l.judged) ≡ filter_map kept_row l.judged
