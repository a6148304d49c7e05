-- The numbers of links, sorted by the places that the links lead from and to.
use Rattle.std.specs.Prelude.{◌≡◌, ℕ, List, [], Some, slice_get}
use Rattle.std.specs.Option.{unwrap_or}
use Rattle.path_expr.specs.PathExpr.{PathExpr, Zero, Edge}
use Rattle.path_expr.specs.Elimination.{Table, path_through}
use Rattle.path_expr.specs.Operations.{join_operations}
use Rattle.path_expr.specs.Holds.{IsItem, node_at}
use Rattle.path_expr.specs.declared.rows.Rows.{Rows}
use Rattle.path_expr.specs.Table.{entry}

-- the numbers that stand for places i and j
abbrev pub numbers_at : Rows (List ℕ) → ℕ → ℕ → List ℕ
numbers_at numbers i j = unwrap_or (entry numbers i j) []

-- the joins of these links, for each two places
abbrev pub path_through_at : Rows (List ℕ) → Table
path_through_at numbers i j = path_through Zero (numbers_at numbers i j)

-- the operations of these joins
abbrev pub joins_at : Rows (List ℕ) → ℕ → ℕ → List PathExpr
joins_at numbers i j = join_operations Zero (numbers_at numbers i j)

-- each of these links has its item, from the one node to the other
pub record HaveItems {A T : Type 0} (fits : A → PathExpr → T → Type 0) (spans : A → T → ℕ → ℕ
    → Type 0)
    (algebra : A) (items : List T) (numbers : List ℕ) (from to : ℕ) : Type 0 where
  pub at : (k number : ℕ) → slice_get numbers k ≡ Some number →
      (item : T) × (slice_get items number ≡ Some item) × IsItem fits spans algebra (Edge number)
      item from to

-- so have all links
pub record AllHaveItems {A T : Type 0} (fits : A → PathExpr → T → Type 0) (spans : A → T → ℕ → ℕ
    → Type 0) (source : ℕ)
    (algebra : A) (items : List T) (numbers : Rows (List ℕ)) : Type 0 where
  pub at : (i j : ℕ)
      → HaveItems fits spans algebra items (numbers_at numbers i j) (node_at source i)
      (node_at source j)
