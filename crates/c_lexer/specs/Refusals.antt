-- Why a text has no tokens: the first fault in the order of the text.
use Rattle.std.specs.Prelude.{◌≡◌, ℕ, ◌<◌, ◌≤◌, List, [], ◌∷◌, ◌++◌, ◌⊎◌, length, Bool, true}
use Rattle.std.specs.Str.{IsValidUpTo}
use Rattle.c_lexer.specs.Limits.{most_tokens}
use Rattle.c_lexer.specs.declared.kind.TokenKind.{TokenKind}
use Rattle.c_lexer.specs.declared.error.LexError.{LexError}
use Rattle.c_lexer.specs.declared.error.LexError.TheVariants as error
use Rattle.c_lexer.specs.declared.piece.PieceStop.TheVariants as stop
use Rattle.c_lexer.specs.Pieces.{Piece, Lexeme, text_of, Fit, fresh_after, Stands}
use Rattle.c_lexer.specs.Tokens.{lexemes_from}
use Rattle.c_lexer.specs.Found.{Tells_why}

-- whether no token stands since the last newline, behind pieces
abbrev pub fresh_behind : Bool → List Piece → Bool
fresh_behind fresh [] = fresh
fresh_behind fresh (piece ∷ pieces) = fresh_behind (fresh_after fresh piece) pieces

-- The text is cut into pieces that fit up to a place, and these bytes stand there.
pub record Reaches (text : List ℕ) (pieces : List Piece) (rest : List ℕ) : Type 0 where
  pub whole : text ≡ text_of pieces ++ rest
  pub fit : Fit true pieces rest
  pub few : length (lexemes_from 0 pieces) ≤ most_tokens

-- one lexeme too many stands at the front
abbrev pub IsOneTooMany : List Piece → List ℕ → Type 0
IsOneTooMany pieces rest =
    (length (lexemes_from 0 pieces) ≡ most_tokens) × (kind : TokenKind) × (spelling : List ℕ)
    × Stands (fresh_behind true pieces) rest (Lexeme kind spelling)

-- the cut stops at the place behind these pieces, with this error
abbrev pub StopsAt : List Piece → List ℕ → LexError → Type 0
StopsAt pieces rest (error.Byte at) = (at ≡ length (text_of pieces)) × (0 < length rest)
    × Tells_why (fresh_behind true pieces) rest stop.Byte
StopsAt pieces rest (error.Comment at) = (at ≡ length (text_of pieces))
    × Tells_why (fresh_behind true pieces) rest stop.Comment
StopsAt pieces rest (error.Literal at) = (at ≡ length (text_of pieces))
    × Tells_why (fresh_behind true pieces) rest stop.Literal
StopsAt pieces rest (error.TooManyTokens at) = (at ≡ length (text_of pieces))
    × IsOneTooMany pieces rest
StopsAt pieces rest error.Memory = ⊥

-- The cut of the text stops with this error.
abbrev pub Stops : List ℕ → LexError → Type 0
Stops text e = (pieces : List Piece) × (rest : List ℕ) × Reaches text pieces rest
    × StopsAt pieces rest e

-- a token is made at the front of these bytes: of a lexeme, or of the end of the text
abbrev pub MakesToken : Bool → List ℕ → Type 0
MakesToken fresh rest = (rest ≡ [])
    ⊎ ((kind : TokenKind) × (spelling : List ℕ) × Stands fresh rest (Lexeme kind spelling))

-- Memory is taken for the text: a place is reached where a token is made.
abbrev pub TakesMemory : List ℕ → Type 0
TakesMemory text = (pieces : List Piece) × (rest : List ℕ) × Reaches text pieces rest
    × MakesToken (fresh_behind true pieces) rest

-- the place that a refusal tells
abbrev pub place_of : LexError → ℕ
place_of (error.Byte at) = at
place_of (error.Comment at) = at
place_of (error.Literal at) = at
place_of (error.TooManyTokens at) = at
place_of error.Memory = 0

-- The text is refused: its cut stops, or the text is no UTF-8 from a place on, which comes first
-- where both have one place.
abbrev pub IsRefused : List ℕ → LexError → Type 0
IsRefused text e =
    (Stops text e × ((at : ℕ) → IsValidUpTo text at → place_of e < at))
    ⊎ ((at : ℕ) × IsValidUpTo text at × (e ≡ error.Byte at)
    × ((f : LexError) → Stops text f → at ≤ place_of f))
