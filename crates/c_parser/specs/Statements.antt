-- How the parser goes through statements: for each of its functions, what it comes to.
use Rattle.std.specs.Prelude.{ℕ, pos, zero, suc, Bool, true, false, not, Option, None, Some, Result, Ok, Err, List, [], ◌∷◌, ◌++◌, length, if◌then◌else◌}
use Rattle.items.specs.Gives.{◌>>=◌}
use denote.Enum.Bare.{sameb}
use Rattle.c_lexer.specs.contracts.keyword.Keyword.{the_type}
use Rattle.c_lexer.specs.declared.keyword.Keyword.{Keyword}
use Rattle.c_lexer.specs.declared.keyword.Keyword.TheVariants as keywords
use Rattle.c_lexer.specs.declared.kind.TokenKind.{TokenKind}
use Rattle.c_lexer.specs.declared.kind.TokenKind.TheVariants as kind
use Rattle.c_lexer.specs.declared.mark.Mark.{Mark}
use Rattle.c_lexer.specs.declared.mark.Mark.TheVariants as marks
use Rattle.syntax_tree.specs.declared.op.Op.{Op}
use Rattle.syntax_tree.specs.declared.op.Op.TheVariants as op
use Rattle.syntax_tree.specs.SourceExpr as source
use Rattle.syntax_tree.specs.SourceExpr.{SourceExpr}
use Rattle.syntax_tree.specs.SourceLine as line
use Rattle.syntax_tree.specs.SourceLine.{SourceLine, lines_from}
use Rattle.c_parser.specs.declared.error.ParseError.{ParseError}
use Rattle.c_parser.specs.declared.error.ParseError.TheVariants as error
use Rattle.c_parser.specs.Descent.{begins_with, deeper, past, place_at, refusal_of, tail, whole, whole_call}
use Rattle.c_parser.specs.Repeat.{repeat}
use Rattle.c_parser.specs.Spots.{Spot}

-- ---- single tokens

-- whether a token is this keyword
abbrev pub is_keyword : Keyword → TokenKind → Bool
is_keyword k (kind.Keyword found) = sameb the_type found k
is_keyword k _ = false

-- the keyword stands first
abbrev pub begins_with_keyword : Keyword → List Spot → Bool
begins_with_keyword k [] = false
begins_with_keyword k (spot ∷ _) = is_keyword k spot.kind

-- the keyword that a token is: None where it is none
abbrev pub keyword_in : TokenKind → Option Keyword
keyword_in (kind.Keyword k) = Some k
keyword_in _ = None

-- the keyword that stands first
abbrev pub keyword_at : List Spot → Option Keyword
keyword_at [] = None
keyword_at (spot ∷ _) = keyword_in spot.kind

-- the tokens behind a keyword that has to stand first
abbrev pub past_keyword : Keyword → List Spot → Result (List Spot) ParseError
past_keyword k spots = if begins_with_keyword k spots then Ok (tail spots) else Err (refusal_of spots)

-- a name, where it stands, and what is left behind it
pub record Word : Type 0 where
  pub at : ℕ
  pub name : List ℕ
  pub rest : List Spot

-- the name that a token at `at` is, and what is left behind it: this refusal where it is none
abbrev pub word_by : TokenKind → ℕ → List Spot → ParseError → Result Word ParseError
word_by (kind.Word name) at rest refusal = Ok (record { at = at; name = name; rest = rest })
word_by _ at rest refusal = Err refusal

-- the name that has to stand first, and what is left behind it
abbrev pub word_at : List Spot → Result Word ParseError
word_at [] = Err (error.Syntax 0)
word_at (spot ∷ rest) = word_by spot.kind spot.at rest (refusal_of (spot ∷ rest))

-- the operator that a mark spells together with `=`: None where it spells none
abbrev pub compound_of : Mark → Option Op
compound_of marks.PlusAssign = Some op.Add
compound_of marks.MinusAssign = Some op.Sub
compound_of marks.StarAssign = Some op.Mul
compound_of marks.SlashAssign = Some op.Div
compound_of marks.PercentAssign = Some op.Rem
compound_of _ = None

-- the operator by which a mark counts up or down by one: None where it does not count
abbrev pub count_of : Mark → Option Op
count_of marks.PlusPlus = Some op.Add
count_of marks.MinusMinus = Some op.Sub
count_of _ = None

-- the operator that a token spells together with `=`: None where it spells none
abbrev pub compound_in : TokenKind → Option Op
compound_in (kind.Mark m) = compound_of m
compound_in _ = None

-- the operator that the first token spells together with `=`: None where it spells none
abbrev pub compound_at : List Spot → Option Op
compound_at [] = None
compound_at (spot ∷ _) = compound_in spot.kind

-- the operator by which a token counts up or down by one: None where it does not count
abbrev pub count_in : TokenKind → Option Op
count_in (kind.Mark m) = count_of m
count_in _ = None

-- the operator by which the first token counts up or down by one: None where it does not count
abbrev pub count_at : List Spot → Option Op
count_at [] = None
count_at (spot ∷ _) = count_in spot.kind

-- ---- assignments, counts and calls

-- the line `name = name op value`, all that is added at the place of the name
abbrev pub compound_assignment : ℕ → List ℕ → Op → SourceExpr → SourceLine
compound_assignment at name found value =
    line.Assign name at (source.Binary at found (source.Var at name) value)

-- the line `name = name op 1`, all that is added at the place of the name
abbrev pub increment : ℕ → List ℕ → Op → SourceLine
increment at name found = compound_assignment at name found (source.Lit at (pos 1))

-- a line and the tokens that are left behind it, or a refusal
abbrev pub LineRead : Type 0
LineRead = Result (SourceLine × List Spot) ParseError

-- `= e`, behind a name
abbrev pub assignment_line : ℕ → ℕ → ℕ → List ℕ → List Spot → LineRead
assignment_line most levels at name spots = whole most levels (tail spots)
    >>= λ value. Ok (line.Assign name at value.0, value.1)

-- a call that is a statement, of a name at `at`, whose bracket stands first
abbrev pub call_statement : ℕ → ℕ → ℕ → List ℕ → List Spot → LineRead
call_statement most levels at name spots = whole_call most levels at name spots
    >>= λ read. Ok (line.Act read.0, read.1)

-- a count behind its name, where its mark is found: else a call, whose bracket has to stand first
abbrev pub counted_or : Option Op → ℕ → ℕ → ℕ → List ℕ → List Spot → LineRead
counted_or None most levels at name spots =
    if begins_with marks.OpenRound spots then call_statement most levels at name spots
    else Err (refusal_of spots)
counted_or (Some found) most levels at name spots = Ok (increment at name found, tail spots)

-- an operator with `=` and its value behind a name, where its mark is found: else a count or a call
abbrev pub compound_or : Option Op → ℕ → ℕ → ℕ → List ℕ → List Spot → LineRead
compound_or None most levels at name spots = counted_or (count_at spots) most levels at name spots
compound_or (Some found) most levels at name spots = whole most levels (tail spots)
    >>= λ value. Ok (compound_assignment at name found value.0, value.1)

-- what goes on behind a name
abbrev pub behind_name : ℕ → ℕ → ℕ → List ℕ → List Spot → LineRead
behind_name most levels at name spots =
    if begins_with marks.Assign spots then assignment_line most levels at name spots
    else compound_or (compound_at spots) most levels at name spots

-- a count in front of its name
abbrev pub increment_before : Option Op → List Spot → ParseError → LineRead
increment_before None spots refusal = Err refusal
increment_before (Some found) spots refusal =
    word_at spots >>= λ word. Ok (increment word.at word.name found, word.rest)

-- the assignment, count or call that a token at `at` begins: this refusal where nothing begins with
-- it
abbrev pub simple_by : ℕ → ℕ → TokenKind → ℕ → List Spot → ParseError → LineRead
simple_by most levels (kind.Word name) at rest refusal = behind_name most levels at name rest
simple_by most levels (kind.Mark m) at rest refusal = increment_before (count_of m) rest refusal
simple_by most levels (kind.Keyword k) at rest refusal = Err refusal
simple_by most levels (kind.Number value) at rest refusal = Err refusal
simple_by most levels kind.End at rest refusal = Err refusal

-- an assignment, a count or a call, without a semicolon
abbrev pub simple : ℕ → ℕ → List Spot → LineRead
simple most levels [] = Err (error.Syntax 0)
simple most levels (spot ∷ rest) = simple_by most levels spot.kind spot.at rest
    (refusal_of (spot ∷ rest))

-- ---- locals

-- a local and its value, whose `=` stands first
abbrev pub initialisation : ℕ → ℕ → ℕ → List ℕ → List Spot → LineRead
initialisation most levels at name spots = whole most levels (tail spots)
    >>= λ value. Ok (line.Local name at (Some value.0), value.1)

-- a local, with its value or without
abbrev pub variable : ℕ → ℕ → List Spot → LineRead
variable most levels spots =
    word_at spots >>= λ word.
    if begins_with marks.Assign word.rest then initialisation most levels word.at word.name word.rest
    else Ok (line.Local word.name word.at None, word.rest)

-- lines, in the order of the text, and the tokens that are left behind them, or a refusal
abbrev pub LinesRead : Type 0
LinesRead = Result (List SourceLine × List Spot) ParseError

-- how many tokens are left behind the lines
abbrev pub lines_left : List SourceLine × List Spot → ℕ
lines_left read = length read.1

-- whether a comma stands behind the lines
abbrev pub comma_stands : List SourceLine × List Spot → Bool
comma_stands read = begins_with marks.Comma read.1

-- one local more, behind a comma
abbrev pub one_variable : ℕ → ℕ → List SourceLine × List Spot → LinesRead
one_variable most levels read = variable most levels (tail read.1)
    >>= λ next. Ok (read.0 ++ next.0 ∷ [], next.1)

-- the locals that are read and those that go on behind them, each with its comma in front
abbrev pub variables : ℕ → ℕ → List SourceLine × List Spot → LinesRead
variables most levels read = repeat lines_left comma_stands (one_variable most levels) read

-- behind `int`, up to behind the semicolon
abbrev pub local : ℕ → ℕ → List Spot → LinesRead
local most levels spots =
    variable most levels spots >>= λ first. variables most levels (first.0 ∷ [], first.1) >>= λ all.
    past marks.Semi all.1 >>= λ after. Ok (all.0, after)

-- ---- lines

-- what reads a statement: from the tokens to its lines, one or none, and what is left behind them
abbrev pub LineReader : Type 0
LineReader = List Spot → LinesRead

-- an expression in brackets
abbrev pub condition : ℕ → ℕ → List Spot → Result (SourceExpr × List Spot) ParseError
condition most levels spots =
    past marks.OpenRound spots >>= λ inside. whole most levels inside
    >>= λ cond. past marks.CloseRound cond.1 >>= λ after. Ok (cond.0, after)

-- an assignment, a count or a call, and its semicolon
abbrev pub simple_line : ℕ → ℕ → List Spot → LinesRead
simple_line most levels spots =
    simple most levels spots >>= λ read. past marks.Semi read.1 >>= λ after. Ok (read.0 ∷ [], after)

-- whether no closing brace stands behind the lines
abbrev pub stands_open : List SourceLine × List Spot → Bool
stands_open read = not (begins_with marks.CloseBrace read.1)

-- a local or a line
abbrev pub entry : ℕ → LineReader → ℕ → List Spot → LinesRead
entry most reader level spots = if begins_with_keyword keywords.Int spots
    then local most level (tail spots) else reader spots

-- the lines that are read and those of one declaration of locals or statement more
abbrev pub one_entry : ℕ → LineReader → ℕ → List SourceLine × List Spot → LinesRead
one_entry most reader level read = entry most reader level read.1
    >>= λ next. Ok (read.0 ++ next.0, next.1)

-- what stands in a block, up to its closing brace
abbrev pub entries : ℕ → LineReader → ℕ → List SourceLine × List Spot → LinesRead
entries most reader level read = repeat lines_left stands_open (one_entry most reader level) read

-- behind an opening brace, up to behind the closing one, which stands at the place that is told
abbrev pub block : ℕ → LineReader → ℕ → List Spot
    → Result (List SourceLine × ℕ × List Spot) ParseError
block most reader level spots =
    entries most reader level ([], spots) >>= λ read. past marks.CloseBrace read.1
    >>= λ after. Ok (read.0, place_at read.1, after)

-- a block, whose opening brace stands at `at` in front of the tokens, as one line
abbrev pub block_by : ℕ → (ℕ → LineReader) → ℕ → ℕ → List Spot → LinesRead
block_by most reader levels at rest =
    deeper levels at >>= λ level. block most (reader level) level rest
    >>= λ read. Ok (line.Block (lines_from read.0) ∷ [], read.2)

-- the branch behind an `else`: [] where no `else` stands first
abbrev pub otherwise : LineReader → List Spot → LinesRead
otherwise reader spots = if begins_with_keyword keywords.Else spots then reader (tail spots)
    else Ok ([], spots)

-- an `if`, which stands at `at` in front of the tokens, with its `else` where there is one
abbrev pub if_by : ℕ → (ℕ → LineReader) → ℕ → ℕ → List Spot → LinesRead
if_by most reader levels at rest =
    deeper levels at >>= λ level. condition most level rest >>= λ cond. reader level cond.1
    >>= λ on_true.
    otherwise (reader level) on_true.1 >>= λ on_false.
    Ok (line.If cond.0 (lines_from on_true.0) (lines_from on_false.0) ∷ [], on_false.1)

-- a `while`, which stands at `at` in front of the tokens
abbrev pub while_by : ℕ → (ℕ → LineReader) → ℕ → ℕ → List Spot → LinesRead
while_by most reader levels at rest =
    deeper levels at >>= λ level. condition most level rest >>= λ cond. reader level cond.1
    >>= λ body.
    Ok (line.Loop line.End cond.0 line.End (lines_from body.0) false ∷ [], body.1)

-- a `do`, which stands at `at` in front of the tokens, and its semicolon
abbrev pub do_by : ℕ → (ℕ → LineReader) → ℕ → ℕ → List Spot → LinesRead
do_by most reader levels at rest =
    deeper levels at >>= λ level. reader level rest >>= λ body. past_keyword keywords.While body.1
    >>= λ test.
    condition most level test >>= λ cond. past marks.Semi cond.1 >>= λ after.
    Ok (line.Loop line.End cond.0 line.End (lines_from body.0) true ∷ [], after)

-- what stands first in the brackets of `for`, with its semicolon
abbrev pub init : ℕ → ℕ → List Spot → LinesRead
init most level spots =
    if begins_with_keyword keywords.Int spots then local most level (tail spots)
    else (if begins_with marks.Semi spots then Ok ([], tail spots)
    else simple_line most level spots)

-- the condition of a `for`: 1, at the semicolon behind it, where it is missing
abbrev pub for_condition : ℕ → ℕ → List Spot → Result (SourceExpr × List Spot) ParseError
for_condition most level spots = if begins_with marks.Semi spots
    then Ok (source.Lit (place_at spots) (pos 1), spots) else whole most level spots

-- the step of a `for`: [] where its closing bracket stands first
abbrev pub for_step : ℕ → ℕ → List Spot → LinesRead
for_step most level spots =
    if begins_with marks.CloseRound spots then Ok ([], spots)
    else (simple most level spots >>= λ read. Ok (read.0 ∷ [], read.1))

-- a `for`, which stands at `at` in front of the tokens
abbrev pub for_by : ℕ → (ℕ → LineReader) → ℕ → ℕ → List Spot → LinesRead
for_by most reader levels at rest =
    deeper levels at >>= λ level. past marks.OpenRound rest >>= λ inside. init most level inside
    >>= λ first.
    for_condition most level first.1 >>= λ cond. past marks.Semi cond.1 >>= λ then_step. for_step
    most level then_step >>= λ step.
    past marks.CloseRound step.1 >>= λ then_body. reader level then_body >>= λ body.
    Ok (
      line.Loop (lines_from first.0) cond.0 (lines_from step.0) (lines_from body.0) false
          ∷ [],
      body.1,
    )

-- the value of a `return`: None where the semicolon stands first
abbrev pub return_value : ℕ → ℕ → List Spot → Result (Option SourceExpr × List Spot) ParseError
return_value most levels spots = if begins_with marks.Semi spots then Ok (None, spots)
    else (whole most levels spots >>= λ value. Ok (Some value.0, value.1))

-- a `return`, which stands at `at` in front of the tokens, and its semicolon
abbrev pub return_by : ℕ → ℕ → ℕ → List Spot → LinesRead
return_by most levels at rest = return_value most levels rest >>= λ value. past marks.Semi value.1
    >>= λ after. Ok (line.Return at value.0 ∷ [], after)

-- a line that is made, and its semicolon
abbrev pub single_by : SourceLine → List Spot → LinesRead
single_by made rest = past marks.Semi rest >>= λ after. Ok (made ∷ [], after)

-- the statement that a keyword at `at` begins: this refusal where nothing begins with it
abbrev pub keyword_by : ℕ → (ℕ → LineReader) → ℕ → Keyword → ℕ → List Spot → ParseError → LinesRead
keyword_by most reader levels keywords.If at rest refusal = if_by most reader levels at rest
keyword_by most reader levels keywords.While at rest refusal = while_by most reader levels at rest
keyword_by most reader levels keywords.Do at rest refusal = do_by most reader levels at rest
keyword_by most reader levels keywords.For at rest refusal = for_by most reader levels at rest
keyword_by most reader levels keywords.Break at rest refusal = single_by (line.Break at) rest
keyword_by most reader levels keywords.Continue at rest refusal = single_by (line.Continue at) rest
keyword_by most reader levels keywords.Return at rest refusal = return_by most levels at rest
keyword_by most reader levels _ at rest refusal = Err refusal

-- the statement of the keyword that stands first, where there is one: else an assignment, a count
-- or a call, and its semicolon
abbrev pub keyword_or : ℕ → (ℕ → LineReader) → ℕ → Option Keyword → List Spot → LinesRead
keyword_or most reader levels None spots = simple_line most levels spots
keyword_or most reader levels (Some k) spots = keyword_by most reader levels k (place_at spots)
    (tail spots) (refusal_of spots)

-- a line, whose parts are read with fewer levels
abbrev pub line_in : ℕ → (ℕ → LineReader) → ℕ → List Spot → LinesRead
line_in most reader levels spots =
    if begins_with marks.OpenBrace spots
    then block_by most reader levels (place_at spots) (tail spots)
    else (if begins_with marks.Semi spots then Ok ([], tail spots)
    else keyword_or most reader levels (keyword_at spots) spots)

-- a line, with so many levels left
unfoldable pub line_read : ℕ → ℕ → LineReader
line_read most zero spots = line_in most (λ _ _. Err (error.Syntax 0)) zero spots
line_read most (suc levels) spots = line_in most (λ _. line_read most levels) (suc levels) spots
