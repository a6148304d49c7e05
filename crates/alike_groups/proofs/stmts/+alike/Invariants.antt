use Rattle.std.proofs.Common.{◌≡◌, drop}
use Rattle.syntax_tree.specs.Code.{code_of}
use Rattle.alike_groups.specs.Groups.{test_of}
use Rattle.alike_groups.specs.Tests.{is_alike_code}
use Rattle.alike_groups.proofs.stmts.+alike.Given as goal

abbrev pub invariant-are_alike_stmts-loop-place : goal.invariant-are_alike_stmts-loop-place
invariant-are_alike_stmts-loop-place l =
    is_alike_code (test_of l.group l.other) (code_of l.stmts) (code_of l.others)
    ≡ is_alike_code (test_of l.group l.other) (code_of (drop l.place l.stmts)) (code_of (drop l.place l.others))
