use Rattle.std.proofs.Common.{◌≡◌, drop}
use Rattle.kept_groups.specs.OneGroup.{summaries_with}
use Rattle.kept_groups.proofs.alike.summaries_with.Given as goal

abbrev pub invariant-loop-place : goal.invariant-loop-place
invariant-loop-place l = summaries_with l.made (drop l.place l.plan) (drop l.place l.parts) ≡ summaries_with l.fn.known l.plan l.parts
