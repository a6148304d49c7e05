use Rattle.std.proofs.Common.{◌≡◌, drop}
use Rattle.std.specs.Cmp.Lexicographic.{pointwise}
use Rattle.alike_groups.specs.Groups.{test_of}
use Rattle.alike_groups.specs.Tests.{is_alike_member}
use Rattle.alike_groups.proofs.groups.are_alike_members.Given as goal

abbrev pub invariant-loop-place : goal.invariant-loop-place
invariant-loop-place l =
    pointwise (is_alike_member (test_of l.group l.other) l.group.program.now l.other.program.now) l.procs l.others
    ≡ pointwise (is_alike_member (test_of l.group l.other) l.group.program.now l.other.program.now) (drop l.place l.procs) (drop l.place l.others)
