-- The grammar of statements and of declarations in a block (C11 6.7 and 6.8), as derivations that
-- hold the place of each of their tokens.
use Rattle.std.specs.Prelude.{ℕ, pos, suc, max, Bool, true, false, not, ◌&&◌, Option, None, Some, List, [], ◌∷◌, ◌++◌}
use Rattle.c_lexer.specs.declared.keyword.Keyword.TheVariants as keywords
use Rattle.c_lexer.specs.declared.mark.Mark.TheVariants.{OpenRound, CloseRound, OpenBrace, CloseBrace, Comma, Semi, Assign}
use Rattle.syntax_tree.specs.SourceExpr as source
use Rattle.syntax_tree.specs.SourceExpr.{SourceExpr}
use Rattle.syntax_tree.specs.SourceLine as line
use Rattle.syntax_tree.specs.SourceLine.{SourceLine, SourceLines, lines_from}
use Rattle.c_parser.specs.Expressions.{Expression, Call, expression_spots, call_spots, binds, call_binds, tree, call_tree, levels, call_levels, operators, call_operators}
use Rattle.c_parser.specs.Operators.{Compound, compound_mark, compound_op, Count, count_mark, count_op}
use Rattle.c_parser.specs.Spots.{Spot, mark, keyword, word}

-- a local, with its value or without (C11 6.7.9)
pub data Variable : Type 0 where
  Bare : (at : ℕ) (name : List ℕ) → Variable
  Initialised : (at : ℕ) (name : List ℕ) (assign : ℕ) (value : Expression) → Variable

-- one local or more, with commas between them, in the order of the text (C11 6.7)
pub data Variables : Type 0 where
  Last : (variable : Variable) → Variables
  Also : (variable : Variable) (comma : ℕ) (rest : Variables) → Variables

-- `int` and one local or more (C11 6.7)
pub data Local : Type 0 where
  Declared : (at : ℕ) (variables : Variables) (semi : ℕ) → Local

-- an assignment, a count up or down by one, or a call (C11 6.5.16, 6.5.2.4, 6.5.3.1 and 6.5.2.2)
pub data Simple : Type 0 where
  Assigned : (at : ℕ) (name : List ℕ) (assign : ℕ) (value : Expression) → Simple
  Changed : (at : ℕ) (name : List ℕ) (assign : ℕ) (compound : Compound) (value : Expression)
      → Simple
  CountedAfter : (at : ℕ) (name : List ℕ) (sign : ℕ) (count : Count) → Simple
  CountedBefore : (sign : ℕ) (count : Count) (at : ℕ) (name : List ℕ) → Simple
  Acted : (call : Call) → Simple

-- what stands first in the brackets of `for` (C11 6.8.5.3)
pub data Init : Type 0 where
  InitLocal : (local : Local) → Init
  InitSimple : (simple : Option Simple) (semi : ℕ) → Init

mutual
  -- a statement (C11 6.8)
  pub data Line : Type 0 where
    Block : (opened : ℕ) (lines : Lines) (closed : ℕ) → Line
    Empty : (semi : ℕ) → Line
    Plain : (simple : Simple) (semi : ℕ) → Line
    If : (at opened : ℕ) (cond : Expression) (closed : ℕ) (on_true : Line) → Line
    IfElse : (at opened : ℕ) (cond : Expression) (closed : ℕ) (on_true : Line) (otherwise : ℕ)
        (on_false : Line) → Line
    While : (at opened : ℕ) (cond : Expression) (closed : ℕ) (body : Line) → Line
    DoWhile : (at : ℕ) (body : Line) (tested opened : ℕ) (cond : Expression) (closed semi : ℕ)
        → Line
    For : (at opened : ℕ) (init : Init) (cond : Option Expression) (semi : ℕ) (step : Option Simple)
        (closed : ℕ) (body : Line) → Line
    Break : (at semi : ℕ) → Line
    Continue : (at semi : ℕ) → Line
    Return : (at : ℕ) (value : Option Expression) (semi : ℕ) → Line

  -- what a block holds (C11 6.8.2)
  pub data Lines : Type 0 where
    NoLines : Lines
    ThenLocal : (local : Local) (rest : Lines) → Lines
    ThenLine : (line : Line) (rest : Lines) → Lines

-- ---- the tokens that are spelled

-- the tokens of a local: its name, and where it has a value `=` and that
abbrev pub variable_spots : Variable → List Spot
variable_spots (Bare at name) = word at name ∷ []
variable_spots (Initialised at name assign value) = word at name ∷ mark assign Assign
    ∷ expression_spots value

-- the tokens of locals, with the commas between them
abbrev pub variables_spots : Variables → List Spot
variables_spots (Last variable) = variable_spots variable
variables_spots (Also variable comma rest) = variable_spots variable ++ mark comma Comma
    ∷ variables_spots rest

-- the tokens of a declaration of locals, from `int` up to the semicolon
abbrev pub local_spots : Local → List Spot
local_spots (Declared at variables semi) =
    keyword at keywords.Int ∷ (variables_spots variables ++ mark semi Semi ∷ [])

-- the tokens of an assignment, a count or a call, without a semicolon
abbrev pub simple_spots : Simple → List Spot
simple_spots (Assigned at name assign value) = word at name ∷ mark assign Assign ∷ expression_spots
    value
simple_spots (Changed at name assign compound value) =
    word at name ∷ mark assign (compound_mark compound) ∷ expression_spots value
simple_spots (CountedAfter at name sign count) = word at name ∷ mark sign (count_mark count) ∷ []
simple_spots (CountedBefore sign count at name) = mark sign (count_mark count) ∷ word at name ∷ []
simple_spots (Acted call) = call_spots call

-- the tokens of an assignment, a count or a call that may be missing: [] where it is
abbrev pub if_simple : Option Simple → List Spot
if_simple None = []
if_simple (Some simple) = simple_spots simple

-- the tokens of an expression that may be missing: [] where it is
abbrev pub if_expression : Option Expression → List Spot
if_expression None = []
if_expression (Some e) = expression_spots e

-- the tokens of what stands first in the brackets of `for`, with its semicolon
abbrev pub init_spots : Init → List Spot
init_spots (InitLocal local) = local_spots local
init_spots (InitSimple simple semi) = if_simple simple ++ mark semi Semi ∷ []

-- the tokens of a condition, with its brackets
abbrev pub bracketed_spots : ℕ → Expression → ℕ → List Spot
bracketed_spots opened cond closed =
    mark opened OpenRound ∷ (expression_spots cond ++ mark closed CloseRound ∷ [])

abbrev mutual
  pub line_spots : Line → List Spot
  line_spots (Block opened lines closed) =
      mark opened OpenBrace ∷ (lines_spots lines ++ mark closed CloseBrace ∷ [])
  line_spots (Empty semi) = mark semi Semi ∷ []
  line_spots (Plain simple semi) = simple_spots simple ++ mark semi Semi ∷ []
  line_spots (If at opened cond closed on_true) =
      keyword at keywords.If ∷ (bracketed_spots opened cond closed ++ line_spots on_true)
  line_spots (IfElse at opened cond closed on_true otherwise on_false) =
      keyword at keywords.If
      ∷ (bracketed_spots opened cond closed ++ line_spots on_true ++ keyword otherwise
      keywords.Else ∷ line_spots on_false)
  line_spots (While at opened cond closed body) = keyword at keywords.While
      ∷ (bracketed_spots opened cond closed ++ line_spots body)
  line_spots (DoWhile at body tested opened cond closed semi) =
      keyword at keywords.Do
      ∷ (line_spots body ++ keyword tested keywords.While
      ∷ (bracketed_spots opened cond closed ++ mark semi Semi ∷ []))
  line_spots (For at opened init cond semi step closed body) =
      keyword at keywords.For ∷ mark opened OpenRound
      ∷ (init_spots init ++ if_expression cond ++ mark semi Semi
      ∷ (if_simple step ++ mark closed CloseRound ∷ line_spots body))
  line_spots (Break at semi) = keyword at keywords.Break ∷ mark semi Semi ∷ []
  line_spots (Continue at semi) = keyword at keywords.Continue ∷ mark semi Semi ∷ []
  line_spots (Return at value semi) = keyword at keywords.Return
      ∷ (if_expression value ++ mark semi Semi ∷ [])

  pub lines_spots : Lines → List Spot
  lines_spots NoLines = []
  lines_spots (ThenLocal local rest) = local_spots local ++ lines_spots rest
  lines_spots (ThenLine line rest) = line_spots line ++ lines_spots rest

-- ---- what the grammar asks beside the tokens

-- the line could go on with an `else`
abbrev pub ends_open : Line → Bool
ends_open (If at opened cond closed on_true) = true
ends_open (IfElse at opened cond closed on_true otherwise on_false) = ends_open on_false
ends_open (While at opened cond closed body) = ends_open body
ends_open (For at opened init cond semi step closed body) = ends_open body
ends_open _ = false

-- whether each operator of a local's value takes the right operands: true without a value
abbrev pub variable_binds : Variable → Bool
variable_binds (Bare at name) = true
variable_binds (Initialised at name assign value) = binds 6 value

-- whether each operator of the locals' values takes the right operands
abbrev pub variables_bind : Variables → Bool
variables_bind (Last variable) = variable_binds variable
variables_bind (Also variable comma rest) = variable_binds variable && variables_bind rest

-- whether each operator in a declaration of locals takes the right operands
abbrev pub local_binds : Local → Bool
local_binds (Declared at variables semi) = variables_bind variables

-- whether each operator of an assignment, a count or a call takes the right operands
abbrev pub simple_binds : Simple → Bool
simple_binds (Assigned at name assign value) = binds 6 value
simple_binds (Changed at name assign compound value) = binds 6 value
simple_binds (Acted call) = call_binds call
simple_binds _ = true

-- whether each operator of an assignment, a count or a call that may be missing takes the right
-- operands: true where it is
abbrev pub if_simple_binds : Option Simple → Bool
if_simple_binds None = true
if_simple_binds (Some simple) = simple_binds simple

-- whether each operator of an expression that may be missing takes the right operands: true where
-- it is
abbrev pub if_binds : Option Expression → Bool
if_binds None = true
if_binds (Some e) = binds 6 e

-- whether each operator of what stands first in the brackets of `for` takes the right operands
abbrev pub init_binds : Init → Bool
init_binds (InitLocal local) = local_binds local
init_binds (InitSimple simple semi) = if_simple_binds simple

-- The operators of each expression take the right operands, and an `else` belongs to the nearest
-- `if` (C11 6.8.4.1): the line before it could not take it.
abbrev mutual
  pub line_is_made : Line → Bool
  line_is_made (Block opened lines closed) = lines_are_made lines
  line_is_made (Plain simple semi) = simple_binds simple
  line_is_made (If at opened cond closed on_true) = binds 6 cond && line_is_made on_true
  line_is_made (IfElse at opened cond closed on_true otherwise on_false) =
      binds 6 cond && line_is_made on_true && line_is_made on_false && not (ends_open on_true)
  line_is_made (While at opened cond closed body) = binds 6 cond && line_is_made body
  line_is_made (DoWhile at body tested opened cond closed semi) = binds 6 cond && line_is_made body
  line_is_made (For at opened init cond semi step closed body) =
      init_binds init && if_binds cond && if_simple_binds step && line_is_made body
  line_is_made (Return at value semi) = if_binds value
  line_is_made _ = true

  pub lines_are_made : Lines → Bool
  lines_are_made NoLines = true
  lines_are_made (ThenLocal local rest) = local_binds local && lines_are_made rest
  lines_are_made (ThenLine line rest) = line_is_made line && lines_are_made rest

-- ---- the tree

-- the line of a local, at the place of its name, with None for a value that is missing
abbrev pub variable_line : Variable → SourceLine
variable_line (Bare at name) = line.Local name at None
variable_line (Initialised at name assign value) = line.Local name at (Some (tree value))

-- the lines of locals, one for each, in the order of the text
abbrev pub variables_lines : Variables → List SourceLine
variables_lines (Last variable) = variable_line variable ∷ []
variables_lines (Also variable comma rest) = variable_line variable ∷ variables_lines rest

-- the lines of a declaration of locals, one for each, in the order of the text
abbrev pub local_lines : Local → List SourceLine
local_lines (Declared at variables semi) = variables_lines variables

-- `x op= e` is `x = x op (e)`, and a count is `x = x + 1` or `x = x - 1`; what is added has the
-- place of the name
abbrev pub simple_line : Simple → SourceLine
simple_line (Assigned at name assign value) = line.Assign name at (tree value)
simple_line (Changed at name assign compound value) =
    line.Assign name at (source.Binary at (compound_op compound) (source.Var at name) (tree value))
simple_line (CountedAfter at name sign count) =
    line.Assign name at
    (source.Binary at (count_op count) (source.Var at name) (source.Lit at (pos 1)))
simple_line (CountedBefore sign count at name) =
    line.Assign name at
    (source.Binary at (count_op count) (source.Var at name) (source.Lit at (pos 1)))
simple_line (Acted call) = line.Act (call_tree call)

-- the line of an assignment, a count or a call that may be missing: [] where it is
abbrev pub if_simple_lines : Option Simple → List SourceLine
if_simple_lines None = []
if_simple_lines (Some simple) = simple_line simple ∷ []

-- the lines of what stands first in the brackets of `for`: [] where nothing does
abbrev pub init_lines : Init → List SourceLine
init_lines (InitLocal local) = local_lines local
init_lines (InitSimple simple semi) = if_simple_lines simple

-- a condition that is missing is 1, at the semicolon behind it
abbrev pub cond_or_one : Option Expression → ℕ → SourceExpr
cond_or_one None semi = source.Lit semi (pos 1)
cond_or_one (Some cond) semi = tree cond

-- the tree of an expression that may be missing: None where it is
abbrev pub if_tree : Option Expression → Option SourceExpr
if_tree None = None
if_tree (Some e) = Some (tree e)

-- the lines that a statement gives: one, or none for a lone semicolon
abbrev mutual
  pub line_lines : Line → List SourceLine
  line_lines (Block opened lines closed) = line.Block (lines_from (lines_lines lines)) ∷ []
  line_lines (Empty semi) = []
  line_lines (Plain simple semi) = simple_line simple ∷ []
  line_lines (If at opened cond closed on_true) =
      line.If (tree cond) (lines_from (line_lines on_true)) line.End ∷ []
  line_lines (IfElse at opened cond closed on_true otherwise on_false) =
      line.If (tree cond) (lines_from (line_lines on_true)) (lines_from (line_lines on_false)) ∷ []
  line_lines (While at opened cond closed body) =
      line.Loop line.End (tree cond) line.End (lines_from (line_lines body)) false ∷ []
  line_lines (DoWhile at body tested opened cond closed semi) =
      line.Loop line.End (tree cond) line.End (lines_from (line_lines body)) true ∷ []
  line_lines (For at opened init cond semi step closed body) =
      line.Loop (lines_from (init_lines init)) (cond_or_one cond semi)
      (lines_from (if_simple_lines step)) (lines_from (line_lines body)) false ∷ []
  line_lines (Break at semi) = line.Break at ∷ []
  line_lines (Continue at semi) = line.Continue at ∷ []
  line_lines (Return at value semi) = line.Return at (if_tree value) ∷ []

  pub lines_lines : Lines → List SourceLine
  lines_lines NoLines = []
  lines_lines (ThenLocal local rest) = local_lines local ++ lines_lines rest
  lines_lines (ThenLine line rest) = line_lines line ++ lines_lines rest

-- ---- limits

-- how deep a local's value is nested: 0 where it has none
abbrev pub variable_levels : Variable → ℕ
variable_levels (Bare at name) = 0
variable_levels (Initialised at name assign value) = levels value

-- how deep the most nested value of these locals is nested
abbrev pub variables_levels : Variables → ℕ
variables_levels (Last variable) = variable_levels variable
variables_levels (Also variable comma rest) = max (variable_levels variable) (variables_levels rest)

-- how deep the most nested value in a declaration of locals is nested
abbrev pub local_levels : Local → ℕ
local_levels (Declared at variables semi) = variables_levels variables

-- how deep an assignment's value or a call is nested: 0 for a count
abbrev pub simple_levels : Simple → ℕ
simple_levels (Assigned at name assign value) = levels value
simple_levels (Changed at name assign compound value) = levels value
simple_levels (Acted call) = call_levels call
simple_levels _ = 0

-- how deep an assignment, a count or a call that may be missing is nested: 0 where it is
abbrev pub if_simple_levels : Option Simple → ℕ
if_simple_levels None = 0
if_simple_levels (Some simple) = simple_levels simple

-- how deep an expression that may be missing is nested: 0 where it is
abbrev pub if_levels : Option Expression → ℕ
if_levels None = 0
if_levels (Some e) = levels e

-- how deep what stands first in the brackets of `for` is nested: 0 where nothing does
abbrev pub init_levels : Init → ℕ
init_levels (InitLocal local) = local_levels local
init_levels (InitSimple simple semi) = if_simple_levels simple

-- a block, an `if` and a loop are a level each
abbrev mutual
  pub line_levels : Line → ℕ
  line_levels (Block opened lines closed) = suc (lines_levels lines)
  line_levels (Empty semi) = 0
  line_levels (Plain simple semi) = simple_levels simple
  line_levels (If at opened cond closed on_true) = suc (max (levels cond) (line_levels on_true))
  line_levels (IfElse at opened cond closed on_true otherwise on_false) =
      suc (max (levels cond) (max (line_levels on_true) (line_levels on_false)))
  line_levels (While at opened cond closed body) = suc (max (levels cond) (line_levels body))
  line_levels (DoWhile at body tested opened cond closed semi) =
      suc (max (levels cond) (line_levels body))
  line_levels (For at opened init cond semi step closed body) =
      suc (max (max (init_levels init) (if_levels cond))
      (max (if_simple_levels step) (line_levels body)))
  line_levels (Break at semi) = 0
  line_levels (Continue at semi) = 0
  line_levels (Return at value semi) = if_levels value

  pub lines_levels : Lines → ℕ
  lines_levels NoLines = 0
  lines_levels (ThenLocal local rest) = max (local_levels local) (lines_levels rest)
  lines_levels (ThenLine line rest) = max (line_levels line) (lines_levels rest)

-- how many operators with two operands a local's value has: 0 where it has none
abbrev pub variable_operators : Variable → ℕ
variable_operators (Bare at name) = 0
variable_operators (Initialised at name assign value) = operators value

-- the most operators with two operands that one value of these locals has
abbrev pub variables_operators : Variables → ℕ
variables_operators (Last variable) = variable_operators variable
variables_operators (Also variable comma rest) =
    max (variable_operators variable) (variables_operators rest)

-- the most operators with two operands that one value in a declaration of locals has
abbrev pub local_operators : Local → ℕ
local_operators (Declared at variables semi) = variables_operators variables

-- how many operators with two operands an assignment's value or a call has: 0 for a count
abbrev pub simple_operators : Simple → ℕ
simple_operators (Assigned at name assign value) = operators value
simple_operators (Changed at name assign compound value) = operators value
simple_operators (Acted call) = call_operators call
simple_operators _ = 0

-- how many operators with two operands an assignment's value or a call has, where there is one:
-- else 0
abbrev pub if_simple_operators : Option Simple → ℕ
if_simple_operators None = 0
if_simple_operators (Some simple) = simple_operators simple

-- how many operators with two operands an expression that may be missing has: 0 where it is
abbrev pub if_operators : Option Expression → ℕ
if_operators None = 0
if_operators (Some e) = operators e

-- the most operators with two operands of one expression that stands first in the brackets of
-- `for`: 0 where none does
abbrev pub init_operators : Init → ℕ
init_operators (InitLocal local) = local_operators local
init_operators (InitSimple simple semi) = if_simple_operators simple

-- the most operators with two operands of one whole expression of a line, and of several lines
abbrev mutual
  pub line_operators : Line → ℕ
  line_operators (Block opened lines closed) = lines_operators lines
  line_operators (Empty semi) = 0
  line_operators (Plain simple semi) = simple_operators simple
  line_operators (If at opened cond closed on_true) = max (operators cond) (line_operators on_true)
  line_operators (IfElse at opened cond closed on_true otherwise on_false) =
      max (operators cond) (max (line_operators on_true) (line_operators on_false))
  line_operators (While at opened cond closed body) = max (operators cond) (line_operators body)
  line_operators (DoWhile at body tested opened cond closed semi) =
      max (operators cond) (line_operators body)
  line_operators (For at opened init cond semi step closed body) =
      max (max (init_operators init) (if_operators cond))
      (max (if_simple_operators step) (line_operators body))
  line_operators (Break at semi) = 0
  line_operators (Continue at semi) = 0
  line_operators (Return at value semi) = if_operators value

  pub lines_operators : Lines → ℕ
  lines_operators NoLines = 0
  lines_operators (ThenLocal local rest) = max (local_operators local) (lines_operators rest)
  lines_operators (ThenLine line rest) = max (line_operators line) (lines_operators rest)
