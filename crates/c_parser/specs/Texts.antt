-- How the parser goes through the declarations of a text: for each of its functions, what it comes
-- to.
use Rattle.std.specs.Prelude.{ℕ, ℤ, pos, negsuc, neg_ℤ, ◌+◌, nat_eq, Bool, true, false, not, ◌&&◌, Option, None, Some, Result, Ok, Err, List, [], ◌∷◌, ◌++◌, length, if◌then◌else◌}
use Rattle.items.specs.Gives.{◌>>=◌}
use Rattle.c_lexer.specs.declared.keyword.Keyword.TheVariants as keywords
use Rattle.c_lexer.specs.declared.kind.TokenKind.{TokenKind}
use Rattle.c_lexer.specs.declared.kind.TokenKind.TheVariants as kind
use Rattle.c_lexer.specs.declared.mark.Mark.TheVariants as marks
use Rattle.syntax_tree.specs.SourceLine.{lines_from}
use Rattle.c_parser.specs.declared.error.ParseError.{ParseError}
use Rattle.c_parser.specs.declared.error.ParseError.TheVariants as error
use Rattle.c_parser.specs.Descent.{begins_with, deeper, past, place_at, refusal_of, tail}
use Rattle.c_parser.specs.Repeat.{repeat}
use Rattle.c_parser.specs.SourceItem.{SourceItem, Global, Proto, Body, Parameter}
use Rattle.c_parser.specs.Spots.{Spot, is_end}
use Rattle.c_parser.specs.Statements.{Word, begins_with_keyword, block, line_read, past_keyword, word_at}

-- ---- globals

-- a number and the tokens that are left behind it, or a refusal
abbrev pub NumberRead : Type 0
NumberRead = Result (ℤ × List Spot) ParseError

-- the number that a token is, and what is left behind it: this refusal where it is none
abbrev pub number_by : TokenKind → List Spot → ParseError → NumberRead
number_by (kind.Number value) rest refusal = Ok (value, rest)
number_by _ rest refusal = Err refusal

-- the number that has to stand first
abbrev pub number_at : List Spot → NumberRead
number_at [] = Err (error.Syntax 0)
number_at (spot ∷ rest) = number_by spot.kind rest (refusal_of (spot ∷ rest))

-- the number behind a minus, which has no sign of its own
abbrev pub opposite : ℤ → List Spot → ParseError → NumberRead
opposite (pos n) rest refusal = Ok (neg_ℤ (pos n), rest)
opposite (negsuc n) rest refusal = Err refusal

-- the opposite of the number that has to stand first
abbrev pub negative_at : List Spot → NumberRead
negative_at spots = number_at spots >>= λ read. opposite read.0 read.1 (refusal_of spots)

-- a number, with a minus or without
abbrev pub constant : List Spot → NumberRead
constant spots = if begins_with marks.Minus spots then negative_at (tail spots) else number_at spots

-- the number that a global begins with, 0 where none is told
abbrev pub initial : List Spot → NumberRead
initial spots = if begins_with marks.Assign spots then constant (tail spots) else Ok (pos 0, spots)

-- a global, whose name is read
abbrev pub global_item : Word → Result (SourceItem × List Spot) ParseError
global_item word = initial word.rest >>= λ read. Ok (Global word.name word.at read.0, read.1)

-- items, in the order of the text, and the tokens that are left behind them, or a refusal
abbrev pub ItemsRead : Type 0
ItemsRead = Result (List SourceItem × List Spot) ParseError

-- how many tokens are left behind the items
abbrev pub items_left : List SourceItem × List Spot → ℕ
items_left read = length read.1

-- whether a comma stands behind the items
abbrev pub comma_stands : List SourceItem × List Spot → Bool
comma_stands read = begins_with marks.Comma read.1

-- a global, whose name has to stand first
abbrev pub next_shared : List Spot → Result (SourceItem × List Spot) ParseError
next_shared spots = word_at spots >>= λ word. global_item word

-- one global more, behind a comma
abbrev pub one_shared : List SourceItem × List Spot → ItemsRead
one_shared read = next_shared (tail read.1) >>= λ next. Ok (read.0 ++ next.0 ∷ [], next.1)

-- the globals that are read and those that go on behind them, each with its comma in front
abbrev pub shared_list : List SourceItem × List Spot → ItemsRead
shared_list read = repeat items_left comma_stands one_shared read

-- globals, of which the first name is read, and their semicolon
abbrev pub globals : Word → ItemsRead
globals word =
    global_item word >>= λ first. shared_list (first.0 ∷ [], first.1) >>= λ all. past marks.Semi all.1
    >>= λ after. Ok (all.0, after)

-- ---- parameters

-- how many parameters there are so far, which of them have names, and what is left behind them
pub record Slots : Type 0 where
  pub count : ℕ
  pub named : List Parameter
  pub rest : List Spot

-- the parameter whose name a token at `at` is: [] where it is no name
abbrev pub parameter_by : TokenKind → ℕ → List Parameter
parameter_by (kind.Word name) at = record { name = name; at = at } ∷ []
parameter_by _ at = []

-- the name that stands first, where one does
abbrev pub name_at : List Spot → List Parameter
name_at [] = []
name_at (spot ∷ _) = parameter_by spot.kind spot.at

-- the tokens behind a parameter's name: all of them where it has none
abbrev pub behind_name : List Parameter → List Spot → List Spot
behind_name [] spots = spots
behind_name (_ ∷ _) spots = tail spots

-- one parameter more
abbrev pub slot : Slots → List Spot → Result Slots ParseError
slot slots spots =
    past_keyword keywords.Int spots >>= λ rest.
    Ok (record {
      count = slots.count + 1;
      named = slots.named ++ name_at rest;
      rest = behind_name (name_at rest) rest;
    })

-- how many tokens are left behind the parameters
abbrev pub slots_left : Slots → ℕ
slots_left slots = length slots.rest

-- whether a comma stands behind the parameters
abbrev pub slots_go_on : Slots → Bool
slots_go_on slots = begins_with marks.Comma slots.rest

-- one parameter more, behind a comma
abbrev pub one_slot : Slots → Result Slots ParseError
one_slot slots = slot slots (tail slots.rest)

-- the parameters that are read and those that go on behind them, each with its comma in front
abbrev pub more_slots : Slots → Result Slots ParseError
more_slots slots = repeat slots_left slots_go_on one_slot slots

-- no parameter so far, with these tokens left
abbrev pub no_slots : List Spot → Slots
no_slots spots = record { count = 0; named = []; rest = spots }

-- one parameter or more, with commas between them
abbrev pub slot_list : List Spot → Result Slots ParseError
slot_list spots = slot (no_slots spots) spots >>= more_slots

-- how many parameters are told, those with names, and what is left
pub record Signature : Type 0 where
  pub told : Option ℕ
  pub count : ℕ
  pub named : List Parameter
  pub rest : List Spot

-- what is told in the brackets by a list of parameters
abbrev pub signature_of : Slots → Signature
signature_of slots = record {
  told = Some slots.count;
  count = slots.count;
  named = slots.named;
  rest = slots.rest;
}

-- the parameters in the brackets of a procedure: `void` tells 0 of them, and nothing tells no
-- number
abbrev pub signature : List Spot → Result Signature ParseError
signature spots =
    if begins_with_keyword keywords.Void spots then Ok (record {
      told = Some 0;
      count = 0;
      named = [];
      rest = tail spots;
    })
    else (if begins_with_keyword keywords.Int spots
    then (slot_list spots >>= λ slots. Ok (signature_of slots))
    else Ok (record { told = None; count = 0; named = []; rest = spots }))

-- ---- procedures

-- what is known of a procedure in front of its brackets
pub record Head : Type 0 where
  pub outside : Bool
  pub returns : Bool
  pub at : ℕ
  pub name : List ℕ

-- a body, whose brace stands first
abbrev pub body : ℕ → ℕ → Head → List Parameter → List Spot → ItemsRead
body most levels head params spots =
    deeper levels (place_at spots) >>= λ level. block most (line_read most level) level (tail spots)
    >>= λ read.
    Ok (Body head.name head.at head.returns params (lines_from read.0) read.1 ∷ [], read.2)

-- a body may follow where all parameters have names and no `extern` stands in front
abbrev pub may_have_body : Head → Signature → Bool
may_have_body head signature = not head.outside && nat_eq (length signature.named) signature.count

-- a procedure with its body, where it may have one and the brace stands first: else a refusal
abbrev pub body_or : ℕ → ℕ → Head → Signature → List Spot → ItemsRead
body_or most levels head signature spots =
    if begins_with marks.OpenBrace spots && may_have_body head signature
    then body most levels head signature.named spots else Err (refusal_of spots)

-- what goes on behind the brackets of a procedure: a semicolon, or its body
abbrev pub behind_signature : ℕ → ℕ → Head → Signature → List Spot → ItemsRead
behind_signature most levels head signature spots =
    if begins_with marks.Semi spots
    then Ok (Proto head.name head.at head.returns signature.told ∷ [], tail spots)
    else body_or most levels head signature spots

-- a prototype or a procedure, behind its opening bracket
abbrev pub procedure : ℕ → ℕ → Head → List Spot → ItemsRead
procedure most levels head spots =
    signature spots >>= λ read. past marks.CloseRound read.rest >>= λ after. behind_signature most
    levels head read after

-- ---- the text

-- what is declared under a name
abbrev pub behind_word : ℕ → ℕ → Bool → Bool → Word → ItemsRead
behind_word most levels outside returns word =
    if begins_with marks.OpenRound word.rest
    then procedure most levels (record {
      outside = outside;
      returns = returns;
      at = word.at;
      name = word.name;
    }) (tail word.rest)
    else (if returns && not outside then globals word else Err (refusal_of word.rest))

-- what is declared behind a type
abbrev pub behind_type : ℕ → ℕ → Bool → Bool → List Spot → ItemsRead
behind_type most levels outside returns spots = word_at spots >>= λ word. behind_word most levels
    outside returns word

-- a declaration, behind its `extern` where it has one: `int` or `void` has to stand first
abbrev pub typed_declaration : ℕ → ℕ → Bool → List Spot → ItemsRead
typed_declaration most levels outside spots =
    if begins_with_keyword keywords.Int spots then behind_type most levels outside true (tail spots)
    else (if begins_with_keyword keywords.Void spots
    then behind_type most levels outside false (tail spots) else Err (refusal_of spots))

-- a declaration, with `extern` in front or without
abbrev pub declaration : ℕ → ℕ → List Spot → ItemsRead
declaration most levels spots =
    if begins_with_keyword keywords.Extern spots then typed_declaration most levels true (tail spots)
    else typed_declaration most levels false spots

-- whether the end of the text stands first: false where no token is left
abbrev pub at_end : List Spot → Bool
at_end [] = false
at_end (spot ∷ _) = is_end spot.kind

-- whether anything but the end of the text stands behind the items
abbrev pub goes_on : List SourceItem × List Spot → Bool
goes_on read = not (at_end read.1)

-- the items that are read and those of one declaration more
abbrev pub one_declaration : ℕ → ℕ → List SourceItem × List Spot → ItemsRead
one_declaration most levels read = declaration most levels read.1
    >>= λ next. Ok (read.0 ++ next.0, next.1)

-- the declarations up to the end
abbrev pub text : ℕ → ℕ → List SourceItem × List Spot → ItemsRead
text most levels read = repeat items_left goes_on (one_declaration most levels) read
