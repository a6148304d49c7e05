use Rattle.std.proofs.Common.{◌≡◌, drop}
use Rattle.std.specs.List.{flat_map}
use Rattle.phases.specs.Splits.{splits_of}
use Rattle.phases.specs.Words.{with_splits}
use Rattle.phases.proofs.splitting.add_splits.Given as goal

abbrev pub invariant-loop-row : goal.invariant-loop-row
invariant-loop-row l = with_splits l.made (flat_map (splits_of l.from) (drop l.row-index l.rows)) ≡ with_splits l.initial.made (flat_map (splits_of l.from) l.rows)
