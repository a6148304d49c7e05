use Rattle.std.proofs.Common.{◌≡◌, ◌++◌, map, drop}
use Rattle.std.specs.List.{filter_map}
use Rattle.newton_rounds.specs.Candidates.{kept_row}
use Rattle.newton_rounds.proofs.dropping.kept_rows.Given as goal

abbrev pub invariant-loop-rows : goal.invariant-loop-rows
invariant-loop-rows l = l.kept ++ map (filter_map kept_row) (drop l.rows-index l.judged) ≡ map (filter_map kept_row) l.judged
