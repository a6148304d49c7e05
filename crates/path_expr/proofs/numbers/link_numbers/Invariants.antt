use Rattle.std.proofs.Common.{◌≡◌, ℕ, take}
use Rattle.path_expr.specs.Elimination.{links_between}
use Rattle.path_expr.specs.Table.{row_count}
use Rattle.path_expr.specs.Numbers.{numbers_at}
use Rattle.path_expr.proofs.numbers.link_numbers.Given as goal

abbrev pub invariant-loop-number : goal.invariant-loop-number
invariant-loop-number l = record {
  rows : row_count l.numbers ≡ l.nodes;
  so_far : (i j : ℕ) → numbers_at l.numbers i j ≡ links_between l.source 0 (take l.number l.links) i j;
}
