use Rattle.std.proofs.Common.{◌≡◌, drop}
use Rattle.analysis.specs.Found.{put_at}
use Rattle.kept_groups.proofs.alike.with_formulas.Given as goal

abbrev pub invariant-loop-index : goal.invariant-loop-index
invariant-loop-index l = put_at (drop l.index l.places) (drop l.index l.formulas) l.made.items ≡ put_at l.places l.formulas l.fn.known
