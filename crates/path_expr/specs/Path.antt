-- The path expression that a tree in memory is.
use Rattle.path_expr.specs.declared.path.Path.{Path, fold-Path}
use Rattle.path_expr.specs.declared.path.Path.TheOpen.{Path-F}
use Rattle.path_expr.specs.PathExpr.{PathExpr}
use Rattle.path_expr.specs.PathExpr as expr

-- the path expression of a node in memory, from those of its parts
abbrev pub path_layer : Path-F PathExpr → PathExpr
path_layer Path-F.Zero = expr.Zero
path_layer Path-F.One = expr.One
path_layer (Path-F.Edge number) = expr.Edge number
path_layer (Path-F.Seq first second) = expr.Seq first second
path_layer (Path-F.Join left right) = expr.Join left right
path_layer (Path-F.Star turn) = expr.Star turn

-- the path expression of a tree in memory
abbrev pub path_of : Path → PathExpr
path_of = fold-Path PathExpr path_layer
