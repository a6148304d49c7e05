use Rattle.std.proofs.Common.{◌≡◌, ℕ, ◌+◌, List, length, take, drop, fold}
use Rattle.linear_terms.specs.declared.col.Col.{Col}
use Rattle.linear_terms.specs.Mono.{with_column}
use Rattle.linear_terms.proofs.mono.place_each.Given as goal

pub record SoFar (before cells columns : List Col) (len i : ℕ) : Type 0 where
  pub same : take (len + i) cells ≡ fold with_column (take len before) (take i columns)
  pub after : drop (len + length columns) cells ≡ drop (len + length columns) before

abbrev pub invariant-loop-i : goal.invariant-loop-i
invariant-loop-i l = SoFar l.fn.cells l.cells l.columns l.len l.i
