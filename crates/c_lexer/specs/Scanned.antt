-- How far a text is cut, as the scanner goes on.
use Rattle.std.specs.Prelude.{◌≡◌, ℕ, ◌≤◌, List, ◌++◌, drop, length, Bool, true, Option, None, Some}
use Rattle.c_lexer.specs.Limits.{most_tokens}
use Rattle.c_lexer.specs.declared.kind.TokenKind.{TokenKind}
use Rattle.c_lexer.specs.declared.kind.TokenKind.TheVariants as kind
use Rattle.c_lexer.specs.declared.token.Token.{Token}
use Rattle.c_lexer.specs.declared.error.LexError.{LexError}
use Rattle.c_lexer.specs.declared.error.LexError.TheVariants as error
use Rattle.c_lexer.specs.declared.piece.PieceStop.{PieceStop}
use Rattle.c_lexer.specs.declared.piece.PieceStop.TheVariants as stop
use Rattle.c_lexer.specs.declared.scan.Cut.{Cut}
use Rattle.c_lexer.specs.Pieces.{Piece, Lexeme, Stands, piece_bytes, fresh_after, text_of, Fit}
use Rattle.c_lexer.specs.Tokens.{lexemes_from}
use Rattle.c_lexer.specs.Refusals.{fresh_behind}
use Rattle.c_lexer.specs.Found.{Tells_why}

-- the token that a piece is
abbrev pub kind_in : Piece → Option TokenKind
kind_in (Lexeme kind spelling) = Some kind
kind_in _ = None

-- the cut is that of a piece at the front of the bytes
pub record IsFront (fresh : Bool) (bytes : List ℕ) (cut : Cut) : Type 0 where
  pub piece : Piece
  pub stands : Stands fresh bytes piece
  pub long : length (piece_bytes piece) ≡ cut.len
  pub state : cut.fresh ≡ fresh_after fresh piece
  pub told : cut.kind ≡ kind_in piece

-- the refusal for which a cut stops at a place
abbrev pub refusal_at : PieceStop → ℕ → LexError
refusal_at stop.Byte at = error.Byte at
refusal_at stop.Comment at = error.Comment at
refusal_at stop.Literal at = error.Literal at

-- why no piece is cut from the front of the bytes, which stand at a place: none stands there, or a
-- name does, and there is no memory for its copy
abbrev pub IsWhy : Bool → List ℕ → ℕ → LexError → Type 0
IsWhy fresh bytes place (error.Byte at) = (at ≡ place) × Tells_why fresh bytes stop.Byte
IsWhy fresh bytes place (error.Comment at) = (at ≡ place) × Tells_why fresh bytes stop.Comment
IsWhy fresh bytes place (error.Literal at) = (at ≡ place) × Tells_why fresh bytes stop.Literal
IsWhy fresh bytes place (error.TooManyTokens at) = ⊥
IsWhy fresh bytes place error.Memory = (name : List ℕ)
    × Stands fresh bytes (Lexeme (kind.Word name) name)

-- the text is cut up to a place, into pieces whose lexemes are these tokens
pub record IsScanned (text : List ℕ) (at : ℕ) (fresh : Bool) (tokens : List Token) : Type 0 where
  pub pieces : List Piece
  pub whole : text ≡ text_of pieces ++ drop at text
  pub long : length (text_of pieces) ≡ at
  pub fit : Fit true pieces (drop at text)
  pub state : fresh ≡ fresh_behind true pieces
  pub told : tokens ≡ lexemes_from 0 pieces
  pub few : length tokens ≤ most_tokens
