-- The operators of the expressions of a text.
use Rattle.std.specs.Prelude.{ℕ, ◌+◌, Bool, true, ◌&&◌, nat_lt, Option, None, Some, List, [], ◌∷◌}
use Rattle.syntax_tree.specs.declared.tree.Item.{Item}
use Rattle.syntax_tree.specs.declared.tree.Item.TheVariants.{Global, Proto, Body}
use Rattle.syntax_tree.specs.SourceExpr.{SourceExpr, Lit, Var, Call, Unary, Binary, SourceExprs}
use Rattle.syntax_tree.specs.SourceExpr as expr
use Rattle.syntax_tree.specs.SourceLine.{SourceLine, Block, Local, Assign, Act, If, Loop, Break, Continue, Return, SourceLines, End, Then, source_lines_of}

-- the operators of an expression, those of its arguments among them, and of several together
abbrev mutual
  pub source_operators : SourceExpr → ℕ
  source_operators (Lit at value) = 0
  source_operators (Var at name) = 0
  source_operators (Call at name args) = all_source_operators args
  source_operators (Unary at sign inner) = 1 + source_operators inner
  source_operators (Binary at op left right) = 1 + source_operators left + source_operators right

  pub all_source_operators : SourceExprs → ℕ
  all_source_operators expr.End = 0
  all_source_operators (expr.Then e rest) = source_operators e + all_source_operators rest

-- fewer operators than a number
abbrev pub has_fewer : ℕ → SourceExpr → Bool
has_fewer n e = nat_lt (source_operators e) n

-- whether an expression that may be missing has fewer operators than a number: true where it is
abbrev pub if_fewer : ℕ → Option SourceExpr → Bool
if_fewer n None = true
if_fewer n (Some e) = has_fewer n e

-- each whole expression of a line, and of several, has fewer operators than a number
abbrev mutual
  pub line_has_fewer : ℕ → SourceLine → Bool
  line_has_fewer n (Block lines) = lines_have_fewer n lines
  line_has_fewer n (Local name at init) = if_fewer n init
  line_has_fewer n (Assign name at value) = has_fewer n value
  line_has_fewer n (Act call) = has_fewer n call
  line_has_fewer n (If cond on_true on_false) = has_fewer n cond
      && (lines_have_fewer n on_true && lines_have_fewer n on_false)
  line_has_fewer n (Loop init cond step body first) =
      has_fewer n cond
      && (lines_have_fewer n init && (lines_have_fewer n step && lines_have_fewer n body))
  line_has_fewer n (Break at) = true
  line_has_fewer n (Continue at) = true
  line_has_fewer n (Return at value) = if_fewer n value

  pub lines_have_fewer : ℕ → SourceLines → Bool
  lines_have_fewer n End = true
  lines_have_fewer n (Then line rest) = line_has_fewer n line && lines_have_fewer n rest

-- each whole expression of a text has fewer operators than a number
abbrev pub items_have_fewer : ℕ → List Item → Bool
items_have_fewer n [] = true
items_have_fewer n (Global name at init ∷ rest) = items_have_fewer n rest
items_have_fewer n (Proto name at returns params ∷ rest) = items_have_fewer n rest
items_have_fewer n (Body name at returns params lines end ∷ rest) =
    lines_have_fewer n (source_lines_of lines) && items_have_fewer n rest
