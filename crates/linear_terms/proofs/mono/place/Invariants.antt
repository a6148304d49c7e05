use Rattle.std.proofs.Common.{◌≡◌, ℕ, ◌+◌, List, length, take, drop}
use Rattle.linear_terms.specs.declared.col.Col.{Col}
use Rattle.linear_terms.specs.Mono.{with_column}
use Rattle.linear_terms.proofs.Placements.{so_far}
use Rattle.linear_terms.proofs.mono.place.Given as goal

pub record SoFar (before cells : List Col) (i len : ℕ) (col carried : Col) : Type 0 where
  pub same : so_far cells i len carried ≡ with_column (take len before) col
  pub after : drop (len + 1) cells ≡ drop (len + 1) before
  pub size : length cells ≡ 4

abbrev pub invariant-loop-i : goal.invariant-loop-i
invariant-loop-i l = SoFar l.fn.cells l.cells l.i l.len l.fn.col l.carried
