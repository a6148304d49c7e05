-- How the parser goes through the tokens: for each of its functions, what it comes to.
use Rattle.std.specs.Prelude.{ℕ, zero, suc, nat_eq, Bool, false, Option, None, Some, is_some, Result, Ok, Err, List, [], ◌∷◌, ◌++◌, length, if◌then◌else◌}
use Rattle.items.specs.Gives.{◌>>=◌}
use Rattle.c_lexer.specs.declared.kind.TokenKind.{TokenKind}
use Rattle.c_lexer.specs.declared.kind.TokenKind.TheVariants as kind
use Rattle.c_lexer.specs.declared.mark.Mark.{Mark}
use Rattle.c_lexer.specs.declared.mark.Mark.TheVariants as marks
use Rattle.c_lexer.specs.contracts.mark.Mark.{the_type}
use denote.Enum.Bare.{sameb}
use Rattle.syntax_tree.specs.declared.op.Op.{Op}
use Rattle.syntax_tree.specs.declared.op.Op.TheVariants as op
use Rattle.syntax_tree.specs.declared.op.Sign.{Sign}
use Rattle.syntax_tree.specs.declared.op.Sign.TheVariants as sign
use Rattle.syntax_tree.specs.SourceExpr as source
use Rattle.syntax_tree.specs.SourceExpr.{SourceExpr, exprs_from}
use Rattle.c_parser.specs.declared.error.ParseError.{ParseError}
use Rattle.c_parser.specs.declared.error.ParseError.TheVariants as error
use Rattle.c_parser.specs.Expressions.{with_place}
use Rattle.c_parser.specs.Operators.{rank}
use Rattle.c_parser.specs.Profile.{is_outside}
use Rattle.c_parser.specs.Repeat.{repeat}
use Rattle.c_lexer.specs.declared.token.Token.{Token}
use Rattle.c_parser.specs.Spots.{Spot, spots_of}

-- an error is exact but for want of memory
abbrev pub exact_error : ParseError → Option ParseError
exact_error (error.Syntax at) = Some (error.Syntax at)
exact_error (error.Unsupported at) = Some (error.Unsupported at)
exact_error (error.Deep at) = Some (error.Deep at)
exact_error error.Memory = None

-- ---- single tokens

-- whether a token is this mark
abbrev pub is_mark : Mark → TokenKind → Bool
is_mark m (kind.Mark found) = sameb the_type found m
is_mark m _ = false

-- the mark stands first
abbrev pub begins_with : Mark → List Spot → Bool
begins_with m [] = false
begins_with m (spot ∷ _) = is_mark m spot.kind

-- the refusal of the first token
abbrev pub refusal_of : List Spot → ParseError
refusal_of [] = error.Syntax 0
refusal_of (spot ∷ _) = if is_outside spot.kind then error.Unsupported spot.at
    else error.Syntax spot.at

-- the place of the first token
abbrev pub place_at : List Spot → ℕ
place_at [] = 0
place_at (spot ∷ _) = spot.at

-- the tokens behind the first: [] where there is none
abbrev pub tail : List Spot → List Spot
tail [] = []
tail (_ ∷ spots) = spots

-- the tokens behind a mark that has to stand first
abbrev pub past : Mark → List Spot → Result (List Spot) ParseError
past m spots = if begins_with m spots then Ok (tail spots) else Err (refusal_of spots)

-- the operator with one operand that a mark spells: None where it spells none
abbrev pub sign_of : Mark → Option Sign
sign_of marks.Plus = Some sign.Plus
sign_of marks.Minus = Some sign.Minus
sign_of marks.Bang = Some sign.Not
sign_of _ = None

-- the operator with two operands that a mark spells: None where it spells none
abbrev pub op_of : Mark → Option Op
op_of marks.OrOr = Some op.Or
op_of marks.AndAnd = Some op.And
op_of marks.Same = Some op.Eq
op_of marks.Differ = Some op.Ne
op_of marks.Less = Some op.Lt
op_of marks.LessEqual = Some op.Le
op_of marks.More = Some op.Gt
op_of marks.MoreEqual = Some op.Ge
op_of marks.Plus = Some op.Add
op_of marks.Minus = Some op.Sub
op_of marks.Star = Some op.Mul
op_of marks.Slash = Some op.Div
op_of marks.Percent = Some op.Rem
op_of _ = None

-- the operator, where there is one and it has this rank: else None
abbrev pub of_rank : ℕ → Option Op → Option Op
of_rank r None = None
of_rank r (Some found) = if nat_eq (rank found) r then Some found else None

-- the operator of this rank that a token spells: None where it spells none
abbrev pub op_in : ℕ → TokenKind → Option Op
op_in r (kind.Mark m) = of_rank r (op_of m)
op_in r _ = None

-- the operator of this rank that stands first
abbrev pub op_at : ℕ → List Spot → Option Op
op_at r [] = None
op_at r (spot ∷ _) = op_in r spot.kind

-- ---- expressions

-- what is left to read: the tokens, and how many operators may still come in the expression
pub record Rest : Type 0 where
  pub spots : List Spot
  pub operators : ℕ

-- what reads a part of an expression: from what is left to its tree and what is left behind it, or
-- to a refusal
abbrev pub Reader : Type 0
Reader = Rest → Result (SourceExpr × Rest) ParseError

-- these tokens, with as many operators as the rest may still have
abbrev pub with_spots : Rest → List Spot → Rest
with_spots rest spots = record { spots = spots; operators = rest.operators }

-- behind a mark
abbrev pub behind : Mark → Rest → Result Rest ParseError
behind m rest = past m rest.spots >>= λ spots. Ok (with_spots rest spots)

-- one level less
abbrev pub deeper : ℕ → ℕ → Result ℕ ParseError
deeper zero at = Err (error.Deep at)
deeper (suc levels) at = Ok levels

-- one operator less, behind the operator that stands first
abbrev pub one_less : List Spot → ℕ → Result Rest ParseError
one_less spots zero = Err (error.Deep (place_at spots))
one_less spots (suc operators) = Ok (record { spots = tail spots; operators = operators })

-- the rest behind an operator that stands first, with one operator less: a refusal where none is
-- left
abbrev pub spend : Rest → Result Rest ParseError
spend rest = one_less rest.spots rest.operators

-- an operator that stands first, and its right operand
abbrev pub link : Reader → ℕ → Op → SourceExpr × Rest → Result (SourceExpr × Rest) ParseError
link operand at found left =
    spend left.1 >>= λ rest. operand rest
    >>= λ right. Ok (source.Binary at found left.0 right.0, right.1)

-- an operator and its right operand, joined with what is read, where one is found: else what is
-- read
abbrev pub link_if : Reader → ℕ → Option Op → SourceExpr × Rest
    → Result (SourceExpr × Rest) ParseError
link_if operand at None left = Ok left
link_if operand at (Some found) left = link operand at found left

-- how many tokens are left behind an expression
abbrev pub rest_length : SourceExpr × Rest → ℕ
rest_length left = length left.1.spots

-- whether an operator of this rank stands behind an expression
abbrev pub goes_on : ℕ → SourceExpr × Rest → Bool
goes_on r left = is_some (op_at r left.1.spots)

-- operators of this rank, from left to right
abbrev pub links : ℕ → Reader → ℕ → SourceExpr × Rest → Result (SourceExpr × Rest) ParseError
links r operand at left =
    repeat rest_length (goes_on r) (λ read. link_if operand at (op_at r read.1.spots) read) left

-- an expression with operators of ranks below this one
unfoldable pub expression_below : Reader → ℕ → Reader
expression_below operand zero rest = operand rest
expression_below operand (suc r) rest = expression_below operand r rest >>= links r (expression_below operand r)
    (place_at rest.spots)

-- one argument more, behind a comma
abbrev pub argument : Reader → List SourceExpr × Rest → Result (List SourceExpr × Rest) ParseError
argument reader read = reader (with_spots read.1 (tail read.1.spots))
    >>= λ next. Ok (read.0 ++ next.0 ∷ [], next.1)

-- how many tokens are left behind a list of expressions
abbrev pub rest_length_of_list : List SourceExpr × Rest → ℕ
rest_length_of_list read = length read.1.spots

-- whether a comma stands behind a list of expressions
abbrev pub has_comma : List SourceExpr × Rest → Bool
has_comma read = begins_with marks.Comma read.1.spots

-- the arguments that are read and those that go on behind them, each with its comma in front
abbrev pub more_arguments : Reader → List SourceExpr × Rest
    → Result (List SourceExpr × Rest) ParseError
more_arguments reader read = repeat rest_length_of_list has_comma (argument reader) read

-- the arguments in the brackets of a call, in the order of the text: [] where the closing one
-- stands first
abbrev pub arguments : Reader → Rest → Result (List SourceExpr × Rest) ParseError
arguments reader rest =
    if begins_with marks.CloseRound rest.spots
    then Ok ([], rest)
    else (reader rest >>= λ first. more_arguments reader (first.0 ∷ [], first.1))

-- the arguments of a name that stands at `at`; the rest begins with their bracket
abbrev pub call_by : (ℕ → Reader) → ℕ → ℕ → List ℕ → Rest → Result (SourceExpr × Rest) ParseError
call_by operand levels at name rest =
    deeper levels (place_at rest.spots) >>= λ level. behind marks.OpenRound rest >>= λ inside.
    arguments (expression_below (operand level) 6) inside >>= λ args. behind marks.CloseRound args.1
    >>= λ after.
    Ok (source.Call at name (exprs_from args.0), after)

-- what a name at `at` begins: a call where a bracket stands behind it, else a variable
abbrev pub reference_by : (ℕ → Reader) → ℕ → ℕ → List ℕ → Rest → Result (SourceExpr × Rest) ParseError
reference_by operand levels at name rest =
    if begins_with marks.OpenRound rest.spots then call_by operand levels at name rest
    else Ok (source.Var at name, rest)

-- an expression in brackets, whose bracket stands at `at` in front of the rest
abbrev pub bracketed_expression_by : (ℕ → Reader) → ℕ → ℕ → Rest → Result (SourceExpr × Rest) ParseError
bracketed_expression_by operand levels at rest =
    deeper levels at >>= λ level. expression_below (operand level) 6 rest >>= λ inner. behind marks.CloseRound
    inner.1 >>= λ after.
    Ok (with_place at inner.0, after)

-- what stands behind a sign at `at`
abbrev pub signed_operand_by : (ℕ → Reader) → ℕ → ℕ → Sign → Rest → Result (SourceExpr × Rest) ParseError
signed_operand_by operand levels at found rest =
    deeper levels at >>= λ level. operand level rest
    >>= λ inner. Ok (source.Unary at found inner.0, inner.1)

-- what stands behind a sign at `at`, where there is one: else this refusal
abbrev pub signed_if : (ℕ → Reader) → ℕ → ℕ → Option Sign → ParseError → Rest
    → Result (SourceExpr × Rest) ParseError
signed_if operand levels at None refusal rest = Err refusal
signed_if operand levels at (Some found) refusal rest = signed_operand_by operand levels at found rest

-- what begins with a mark at `at`, which has this refusal where nothing begins with it
abbrev pub mark_operand_by : (ℕ → Reader) → ℕ → ℕ → Mark → ParseError → Rest
    → Result (SourceExpr × Rest) ParseError
mark_operand_by operand levels at m refusal rest =
    if sameb the_type m marks.OpenRound
    then bracketed_expression_by operand levels at rest
    else signed_if operand levels at (sign_of m) refusal rest

-- the operand that a token at `at` begins: this refusal where nothing begins with it
abbrev pub operand_by : (ℕ → Reader) → ℕ → TokenKind → ℕ → ParseError → Rest
    → Result (SourceExpr × Rest) ParseError
operand_by operand levels (kind.Number value) at refusal rest = Ok (source.Lit at value, rest)
operand_by operand levels (kind.Word name) at refusal rest = reference_by operand levels at name rest
operand_by operand levels (kind.Mark m) at refusal rest = mark_operand_by operand levels at m refusal rest
operand_by operand levels (kind.Keyword k) at refusal rest = Err refusal
operand_by operand levels kind.End at refusal rest = Err refusal

-- an operand, whose parts are read with fewer levels
abbrev pub operand_in : (ℕ → Reader) → ℕ → List Spot → ℕ → Result (SourceExpr × Rest) ParseError
operand_in operand levels [] operators = Err (error.Syntax 0)
operand_in operand levels (spot ∷ spots) operators =
    operand_by operand levels spot.kind spot.at (refusal_of (spot ∷ spots)) (record {
      spots = spots;
      operators = operators;
    })

-- an operand, with so many levels left
unfoldable pub operand : ℕ → Reader
operand zero rest = operand_in (λ _ _. Err (error.Syntax 0)) zero rest.spots rest.operators
operand (suc levels) rest = operand_in (λ _. operand levels) (suc levels) rest.spots rest.operators

-- an expression, with so many levels left
abbrev pub expression : ℕ → Reader
expression levels = expression_below (operand levels) 6

-- a call of a name that stands at `at`, with so many levels left; the rest begins with its bracket
abbrev pub call : ℕ → ℕ → List ℕ → Rest → Result (SourceExpr × Rest) ParseError
call levels at name rest = call_by operand levels at name rest

-- a whole expression, with so many operators at most
abbrev pub whole : ℕ → ℕ → List Spot → Result (SourceExpr × List Spot) ParseError
whole most levels spots =
    expression levels (record {
      spots = spots;
      operators = most;
    }) >>= λ read. Ok (read.0, read.1.spots)

-- the rest that tokens are, with so many operators
abbrev pub rest_of : List Token → ℕ → Rest
rest_of tokens operators = record { spots = spots_of tokens; operators = operators }

-- the arguments of a call that is a statement are one whole expression
abbrev pub whole_call : ℕ → ℕ → ℕ → List ℕ → List Spot → Result (SourceExpr × List Spot) ParseError
whole_call most levels at name spots = call levels at name (record {
  spots = spots;
  operators = most;
}) >>= λ read. Ok (read.0, read.1.spots)
