-- What is known of an item, of what may be an item, and of a table of items.
use Rattle.std.specs.Prelude.{◌≡◌, ℕ, true, List, Option, None, Some, slice_get, ◌==◌, ◌-◌, nat_le, if◌then◌else◌}
use Rattle.path_expr.specs.PathExpr.{PathExpr, Zero, One, Edge}
use Rattle.path_expr.specs.declared.link.Link.{Link}
use Rattle.path_expr.specs.Operations.{is_item}
use Rattle.path_expr.specs.Table.{cell}
use Rattle.path_expr.specs.declared.table.Table.{Table}
use Rattle.path_expr.specs.declared.cell.Cell.{Cell}
use Rattle.path_expr.specs.declared.cell.Cell.TheVariants as known

-- the node at a place: the source is at 0, the others follow in their order
abbrev pub node_at : ℕ → ℕ → ℕ
node_at source place = if place == 0 then source
    else (if nat_le place source then place - 1 else place)

-- the item is one of this path expression, from the one node to the other
pub record IsItem {A T : Type 0} (fits : A → PathExpr → T → Type 0) (spans : A → T → ℕ → ℕ → Type 0)
    (algebra : A) (path : PathExpr) (item : T) (from to : ℕ) : Type 0 where
  pub shape : is_item path ≡ true
  pub fitting : fits algebra path item
  pub spanning : spans algebra item from to

-- an item, or none where the path expression is Zero
abbrev pub IsItemOrZero : {A T : Type 0} → (A → PathExpr → T → Type 0) → (A → T → ℕ → ℕ → Type 0)
    → A → PathExpr → Option T → ℕ → ℕ → Type 0
IsItemOrZero fits spans algebra path None from to = path ≡ Zero
IsItemOrZero fits spans algebra path (Some item) from to =
    IsItem fits spans algebra path item from to

-- an item, or none where the path expression is One
abbrev pub IsItemOrOne : {A T : Type 0} → (A → PathExpr → T → Type 0) → (A → T → ℕ → ℕ → Type 0) → A
    → PathExpr → Option T → ℕ → Type 0
IsItemOrOne fits spans algebra path None node = path ≡ One
IsItemOrOne fits spans algebra path (Some item) node = IsItem fits spans algebra path item node node

-- an item, Zero, or One at the source
abbrev pub IsWay : {A T : Type 0} → (A → PathExpr → T → Type 0) → (A → T → ℕ → ℕ → Type 0) → A
    → PathExpr → Cell T → ℕ → ℕ → Type 0
IsWay fits spans algebra path known.Zero from to = path ≡ Zero
IsWay fits spans algebra path known.One from to = (path ≡ One) × (from ≡ to)
IsWay fits spans algebra path (known.Item item) from to =
    IsItem fits spans algebra path item from to

-- each cell of the table holds an item of its path expression
pub record HoldsAll {A T : Type 0} (fits : A → PathExpr → T → Type 0) (spans : A → T → ℕ → ℕ
    → Type 0) (source : ℕ)
    (algebra : A) (cells : ℕ → ℕ → PathExpr) (table : Table T) : Type 0 where
  pub at : (i j : ℕ)
      → IsItemOrZero fits spans algebra (cells i j) (cell table i j) (node_at source i)
      (node_at source j)

-- each cell is the way to its place
pub record AreWays {A T : Type 0} (fits : A → PathExpr → T → Type 0) (spans : A → T → ℕ → ℕ
    → Type 0) (source : ℕ)
    (algebra : A) (way_at : ℕ → PathExpr) (found : List (Cell T)) : Type 0 where
  pub at : (k : ℕ) (way : Cell T) → slice_get found k ≡ Some way
      → IsWay fits spans algebra (way_at k) way (node_at source 0) (node_at source k)

-- the items are those of the links, in their order
pub record AreEdges {A T : Type 0} (fits : A → PathExpr → T → Type 0) (spans : A → T → ℕ → ℕ
    → Type 0)
    (algebra : A) (links : List Link) (items : List T) : Type 0 where
  pub at : (k : ℕ) (link : Link) (item : T) → slice_get links k ≡ Some link
      → slice_get items k ≡ Some item →
      IsItem fits spans algebra (Edge k) item link.from link.to

-- each node's cell is of its path expression: Zero, One at the source, or an item from the source
-- to the node
pub record AreCells {A T : Type 0} (fits : A → PathExpr → T → Type 0) (spans : A → T → ℕ → ℕ
    → Type 0) (source : ℕ)
    (algebra : A) (path_at : ℕ → PathExpr) (cells : List (Cell T)) : Type 0 where
  pub at : (node : ℕ) (cell : Cell T) → slice_get cells node ≡ Some cell
      → IsWay fits spans algebra (path_at node) cell source node
