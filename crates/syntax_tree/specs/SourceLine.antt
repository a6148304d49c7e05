-- Lines of a text as plain data, by whose cases the grammar and elaboration are defined. The cases
-- are those of `Line`, and a list of lines is a `SourceLines`.
use Rattle.std.specs.Prelude.{ℕ, Bool, Option, List, [], ◌∷◌}
use Rattle.std.specs.Option.{option_map}
use Rattle.syntax_tree.specs.declared.line.Line.{Line, fold-Line}
use Rattle.syntax_tree.specs.declared.line.Line.TheOpen.{Line-F}
use Rattle.syntax_tree.specs.SourceExpr.{SourceExpr, source_expr_of}

mutual
  -- a line of a body: a block, the declaration of a local, or a statement; a place is a byte offset
  pub data SourceLine : Type 0 where
    Block : (lines : SourceLines) → SourceLine
    Local : (name : List ℕ) (at : ℕ) (init : Option SourceExpr) → SourceLine
    Assign : (name : List ℕ) (at : ℕ) (value : SourceExpr) → SourceLine
    Act : (call : SourceExpr) → SourceLine
    If : (cond : SourceExpr) (on_true on_false : SourceLines) → SourceLine
    Loop : (init : SourceLines) (cond : SourceExpr) (step body : SourceLines) (first : Bool)
        → SourceLine
    Break : (at : ℕ) → SourceLine
    Continue : (at : ℕ) → SourceLine
    Return : (at : ℕ) (value : Option SourceExpr) → SourceLine

  -- a list of lines, in the order of the text
  pub data SourceLines : Type 0 where
    End : SourceLines
    Then : (line : SourceLine) (rest : SourceLines) → SourceLines

-- the `SourceLines` of these lines, in their order
abbrev pub lines_from : List SourceLine → SourceLines
lines_from [] = End
lines_from (line ∷ rest) = Then line (lines_from rest)

-- the plain form of a line whose inner lines are in plain form already
abbrev pub source_line_layer : Line-F SourceLine → SourceLine
source_line_layer (Line-F.Block lines) = Block (lines_from lines)
source_line_layer (Line-F.Local name at init) = Local name at (option_map source_expr_of init)
source_line_layer (Line-F.Assign name at value) = Assign name at (source_expr_of value)
source_line_layer (Line-F.Act call) = Act (source_expr_of call)
source_line_layer (Line-F.If cond on_true on_false) = If (source_expr_of cond) (lines_from on_true)
    (lines_from on_false)
source_line_layer (Line-F.Loop init cond step body first) =
    Loop (lines_from init) (source_expr_of cond) (lines_from step) (lines_from body) first
source_line_layer (Line-F.Break at) = Break at
source_line_layer (Line-F.Continue at) = Continue at
source_line_layer (Line-F.Return at value) = Return at (option_map source_expr_of value)

-- the plain form of a line
abbrev pub source_line_of : Line → SourceLine
source_line_of = fold-Line SourceLine source_line_layer

-- the plain form of a list of lines
abbrev pub source_lines_of : List Line → SourceLines
source_lines_of [] = End
source_lines_of (line ∷ rest) = Then (source_line_of line) (source_lines_of rest)
