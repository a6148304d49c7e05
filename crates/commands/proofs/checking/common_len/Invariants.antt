use Rattle.std.proofs.Common.{◌≡◌, ◌+◌, ◌-◌, ◌≤◌, drop, length}
use Rattle.std.specs.Prelude.{nat_eq}
use Rattle.std.specs.List.{common_prefix_len}
use Rattle.commands.proofs.checking.common_len.Given as goal

abbrev pub invariant-loop-len : goal.invariant-loop-len
invariant-loop-len l = record {
  within : l.len ≤ length l.one;
  common : l.len + common_prefix_len nat_eq (drop l.len l.one) (drop l.len l.other) ≡ common_prefix_len nat_eq l.one l.other;
}

abbrev pub decreases-loop-len : goal.decreases-loop-len
decreases-loop-len l = length l.one - l.len
