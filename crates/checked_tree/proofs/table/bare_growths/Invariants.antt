use Rattle.std.proofs.Common.{◌≡◌, replicate}
use Rattle.checked_tree.specs.Growing.{bare_growth}
use Rattle.checked_tree.proofs.table.bare_growths.Given as goal

abbrev pub invariant-loop-place : goal.invariant-loop-place
invariant-loop-place l = l.growths ≡ replicate l._place bare_growth
