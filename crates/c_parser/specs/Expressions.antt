-- The grammar of expressions (C11 6.5): how an expression is derived, the tokens that a derivation
-- spells, and the tree that it stands for. A derivation holds the place of each of its tokens.
use Rattle.std.specs.Prelude.{ℕ, ℤ, suc, ◌+◌, max, nat_lt, Bool, true, ◌&&◌, List, [], ◌∷◌, ◌++◌}
use Rattle.c_lexer.specs.declared.mark.Mark.TheVariants.{OpenRound, CloseRound, Comma}
use Rattle.syntax_tree.specs.declared.op.Op.{Op}
use Rattle.syntax_tree.specs.declared.op.Sign.{Sign}
use Rattle.syntax_tree.specs.SourceExpr as source
use Rattle.syntax_tree.specs.SourceExpr.{SourceExpr, SourceExprs}
use Rattle.c_parser.specs.Operators.{op_mark, sign_mark, rank}
use Rattle.c_parser.specs.Spots.{Spot, mark, word, number}

mutual
  -- A number, a name, a call, an expression in brackets, or a sign before one of these (C11 6.5.1
  -- to 6.5.3).
  pub data Operand : Type 0 where
    Number : (at : ℕ) (value : ℤ) → Operand
    Named : (at : ℕ) (name : List ℕ) → Operand
    Called : (call : Call) → Operand
    Bracketed : (opened : ℕ) (inner : Expression) (closed : ℕ) → Operand
    Signed : (at : ℕ) (sign : Sign) (inner : Operand) → Operand

  -- One operand, or two expressions with an operator between them (C11 6.5.5 to 6.5.14).
  pub data Expression : Type 0 where
    Single : (operand : Operand) → Expression
    Joined : (left : Expression) (at : ℕ) (op : Op) (right : Expression) → Expression

  -- A name with arguments in brackets (C11 6.5.2.2).
  pub data Call : Type 0 where
    Applied : (at : ℕ) (name : List ℕ) (opened : ℕ) (args : Arguments) (closed : ℕ) → Call

  -- What stands in the brackets of a call: nothing, or expressions with commas between them.
  pub data Arguments : Type 0 where
    NoArguments : Arguments
    Listed : (first : Expression) (more : MoreArguments) → Arguments

  -- The arguments behind the first, each with its comma in front, in the order of the text.
  pub data MoreArguments : Type 0 where
    NoMore : MoreArguments
    Another : (comma : ℕ) (next : Expression) (more : MoreArguments) → MoreArguments

-- ---- the tokens that are spelled

abbrev mutual
  pub operand_spots : Operand → List Spot
  operand_spots (Number at value) = number at value ∷ []
  operand_spots (Named at name) = word at name ∷ []
  operand_spots (Called call) = call_spots call
  operand_spots (Bracketed opened inner closed) =
      mark opened OpenRound ∷ (expression_spots inner ++ mark closed CloseRound ∷ [])
  operand_spots (Signed at sign inner) = mark at (sign_mark sign) ∷ operand_spots inner

  pub expression_spots : Expression → List Spot
  expression_spots (Single operand) = operand_spots operand
  expression_spots (Joined left at op right) = expression_spots left ++ mark at (op_mark op)
      ∷ expression_spots right

  pub call_spots : Call → List Spot
  call_spots (Applied at name opened args closed) =
      word at name ∷ mark opened OpenRound ∷ (argument_spots args ++ mark closed CloseRound ∷ [])

  pub argument_spots : Arguments → List Spot
  argument_spots NoArguments = []
  argument_spots (Listed first more) = expression_spots first ++ more_spots more

  pub more_spots : MoreArguments → List Spot
  more_spots NoMore = []
  more_spots (Another comma next more) =
      mark comma Comma ∷ (expression_spots next ++ more_spots more)

-- ---- which operator takes which operands

-- The operators of `binds n` outside brackets have ranks below `n`. On the left of an operator
-- stand operators of its own rank or below, on its right operators of ranks below: so operators of
-- one rank go from left to right. There are six ranks.
abbrev mutual
  pub operand_binds : Operand → Bool
  operand_binds (Number at value) = true
  operand_binds (Named at name) = true
  operand_binds (Called call) = call_binds call
  operand_binds (Bracketed opened inner closed) = binds 6 inner
  operand_binds (Signed at sign inner) = operand_binds inner

  pub binds : ℕ → Expression → Bool
  binds n (Single operand) = operand_binds operand
  binds n (Joined left at op right) = nat_lt (rank op) n && binds (suc (rank op)) left
      && binds (rank op) right

  pub call_binds : Call → Bool
  call_binds (Applied at name opened args closed) = arguments_bind args

  pub arguments_bind : Arguments → Bool
  arguments_bind NoArguments = true
  arguments_bind (Listed first more) = binds 6 first && more_bind more

  pub more_bind : MoreArguments → Bool
  more_bind NoMore = true
  more_bind (Another comma next more) = binds 6 next && more_bind more

-- ---- the tree

-- the place of a call's first token, which is its name
abbrev pub call_place : Call → ℕ
call_place (Applied at name opened args closed) = at

-- the place of an operand's first token: its number, its name, its bracket or its sign
abbrev pub operand_place : Operand → ℕ
operand_place (Number at value) = at
operand_place (Named at name) = at
operand_place (Called call) = call_place call
operand_place (Bracketed opened inner closed) = opened
operand_place (Signed at sign inner) = at

-- the place of an expression's first token, which is that of its leftmost operand
abbrev pub place : Expression → ℕ
place (Single operand) = operand_place operand
place (Joined left at op right) = place left

-- an expression with operators has the place of the bracket round it; a name, a call or a number
-- keeps its own
abbrev pub with_place : ℕ → SourceExpr → SourceExpr
with_place at (source.Unary _ sign inner) = source.Unary at sign inner
with_place at (source.Binary _ op left right) = source.Binary at op left right
with_place at e = e

abbrev mutual
  pub operand_tree : Operand → SourceExpr
  operand_tree (Number at value) = source.Lit at value
  operand_tree (Named at name) = source.Var at name
  operand_tree (Called call) = call_tree call
  operand_tree (Bracketed opened inner closed) = with_place opened (tree inner)
  operand_tree (Signed at sign inner) = source.Unary at sign (operand_tree inner)

  pub tree : Expression → SourceExpr
  tree (Single operand) = operand_tree operand
  tree (Joined left at op right) = source.Binary (place left) op (tree left) (tree right)

  pub call_tree : Call → SourceExpr
  call_tree (Applied at name opened args closed) = source.Call at name (argument_trees args)

  pub argument_trees : Arguments → SourceExprs
  argument_trees NoArguments = source.End
  argument_trees (Listed first more) = source.Then (tree first) (more_trees more)

  pub more_trees : MoreArguments → SourceExprs
  more_trees NoMore = source.End
  more_trees (Another comma next more) = source.Then (tree next) (more_trees more)

-- ---- limits

-- how deep brackets and signs are nested: each is a level
abbrev mutual
  pub operand_levels : Operand → ℕ
  operand_levels (Number at value) = 0
  operand_levels (Named at name) = 0
  operand_levels (Called call) = call_levels call
  operand_levels (Bracketed opened inner closed) = suc (levels inner)
  operand_levels (Signed at sign inner) = suc (operand_levels inner)

  pub levels : Expression → ℕ
  levels (Single operand) = operand_levels operand
  levels (Joined left at op right) = max (levels left) (levels right)

  pub call_levels : Call → ℕ
  call_levels (Applied at name opened args closed) = suc (argument_levels args)

  pub argument_levels : Arguments → ℕ
  argument_levels NoArguments = 0
  argument_levels (Listed first more) = max (levels first) (more_levels more)

  pub more_levels : MoreArguments → ℕ
  more_levels NoMore = 0
  more_levels (Another comma next more) = max (levels next) (more_levels more)

-- how many operators with two operands there are, those in brackets and arguments included
abbrev mutual
  pub operand_operators : Operand → ℕ
  operand_operators (Number at value) = 0
  operand_operators (Named at name) = 0
  operand_operators (Called call) = call_operators call
  operand_operators (Bracketed opened inner closed) = operators inner
  operand_operators (Signed at sign inner) = operand_operators inner

  pub operators : Expression → ℕ
  operators (Single operand) = operand_operators operand
  operators (Joined left at op right) = suc (operators left + operators right)

  pub call_operators : Call → ℕ
  call_operators (Applied at name opened args closed) = argument_operators args

  pub argument_operators : Arguments → ℕ
  argument_operators NoArguments = 0
  argument_operators (Listed first more) = operators first + more_operators more

  pub more_operators : MoreArguments → ℕ
  more_operators NoMore = 0
  more_operators (Another comma next more) = operators next + more_operators more
