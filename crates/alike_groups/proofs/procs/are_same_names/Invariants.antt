use mathlib.Core.Bool.{beq}
use Rattle.std.proofs.Common.{◌≡◌, drop}
use Rattle.std.specs.Cmp.Lexicographic.{pointwise}
use Rattle.syntax_tree.specs.WellFormed.{has_name}
use Rattle.alike_groups.proofs.procs.are_same_names.Given as goal

abbrev pub invariant-loop-place : goal.invariant-loop-place
invariant-loop-place l =
    pointwise (λ a b. beq (has_name a) (has_name b)) l.columns l.others
    ≡ pointwise (λ a b. beq (has_name a) (has_name b)) (drop l.place l.columns) (drop l.place l.others)
