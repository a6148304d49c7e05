-- Operations by numbers: each path has one number, and a plan lists the numbers of the paths that
-- are made, in their order.
use Rattle.std.specs.Prelude.{◌≡◌, ℕ, List, [], ◌∷◌, ◌++◌, length, Some}
use Rattle.std.specs.List.{slice_get}
use Rattle.path_expr.specs.declared.cell.Cell.{Cell}
use Rattle.path_expr.specs.declared.cell.Cell.TheVariants as known
use Rattle.path_expr.specs.declared.link.Link.{Link}
use Rattle.path_expr.specs.Elimination.{path_at}
use Rattle.path_expr.specs.Operations.{operations}
use Rattle.path_expr.specs.PathExpr.{PathExpr, Zero, One, Edge, Seq, Join, Star}
use Rattle.checked_tree.specs.declared.key.Key.{Key}
use Rattle.checked_tree.specs.declared.key.Key.TheVariants as key

-- the path of a number, whose key has the numbers of its operands
abbrev pub IsPathOf : List Key → PathExpr → ℕ → Type 0
IsPathOf keys Zero n = ⊥
IsPathOf keys One n = ⊥
IsPathOf keys (Edge number) n = slice_get keys n ≡ Some (key.Edge number)
IsPathOf keys (Seq a b) n =
    (i : ℕ) × (j : ℕ) × (slice_get keys n ≡ Some (key.Seq i j)) × IsPathOf keys a i
    × IsPathOf keys b j
IsPathOf keys (Join a b) n =
    (i : ℕ) × (j : ℕ) × (slice_get keys n ≡ Some (key.Join i j)) × IsPathOf keys a i
    × IsPathOf keys b j
IsPathOf keys (Star a) n = (i : ℕ) × (slice_get keys n ≡ Some (key.Star i)) × IsPathOf keys a i

-- no key stands in two places, so that a path has one number
abbrev pub AreDistinct : List Key → Type 0
AreDistinct keys = (m n : ℕ) (k : Key) → slice_get keys m ≡ Some k → slice_get keys n ≡ Some k
    → m ≡ n

-- the paths of these numbers, one for each
abbrev pub ArePathsOf : List Key → List PathExpr → List ℕ → Type 0
ArePathsOf keys [] [] = Unit {0}
ArePathsOf keys (path ∷ paths) (n ∷ numbers) = IsPathOf keys path n × ArePathsOf keys paths numbers
ArePathsOf keys [] (n ∷ numbers) = ⊥
ArePathsOf keys (path ∷ paths) [] = ⊥

-- the key has a number among keys that only gained some, and the number is the last of the order
pub record HasNoted (old new : List Key) (before after : List ℕ) (key : Key) (n : ℕ) : Type 0 where
  pub more : List Key
  pub keys : new ≡ old ++ more
  pub is : slice_get new n ≡ Some key
  pub order : after ≡ before ++ n ∷ []

-- what stands at a node whose path expression this is: Zero, One, or the number of the path
abbrev pub IsCellOf : List Key → PathExpr → Cell ℕ → Type 0
IsCellOf keys path known.Zero = path ≡ Zero
IsCellOf keys path known.One = path ≡ One
IsCellOf keys path (known.Item n) = IsPathOf keys path n

-- the operations of the stated elimination, and a cell for each node
pub record IsPlanned (nodes : ℕ) (links : List Link) (source : ℕ) (keys : List Key) (order : List ℕ)
    (cells : List (Cell ℕ)) : Type 0 where
  pub order_is : ArePathsOf keys (operations nodes links source) order
  pub one_each : length cells ≡ nodes
  pub cells_are : (node : ℕ) (cell : Cell ℕ) → slice_get cells node ≡ Some cell →
      IsCellOf keys (path_at nodes links source node) cell
