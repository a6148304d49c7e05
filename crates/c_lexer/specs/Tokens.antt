-- The tokens of a text (C11 6.4).
use Rattle.std.specs.Prelude.{◌≡◌, ℕ, ◌+◌, ◌≤◌, List, [], ◌∷◌, ◌++◌, length, true}
use Rattle.std.specs.Str.{IsUtf8}
use Rattle.c_lexer.specs.declared.kind.TokenKind.TheVariants as kind
use Rattle.c_lexer.specs.Limits.{most_tokens}
use Rattle.c_lexer.specs.declared.token.Token.{Token}
use Rattle.c_lexer.specs.Pieces.{Piece, Lexeme, piece_bytes, text_of, Fit}

-- the lexemes, each at its place, where the first piece stands at `at`
abbrev pub lexemes_from : ℕ → List Piece → List Token
lexemes_from at [] = []
lexemes_from at (Lexeme kind spelling ∷ pieces) =
    record {
      kind = kind;
      at = at;
      len = length spelling;
    } ∷ lexemes_from (at + length spelling) pieces
lexemes_from at (piece ∷ pieces) = lexemes_from (at + length (piece_bytes piece)) pieces

-- behind the lexemes stands the end of the text
abbrev pub end_at : ℕ → Token
end_at length = record { kind = kind.End; at = length; len = 0 }

-- The text is cut into pieces that fit, and the tokens are its lexemes and the end.
pub record IsCut (text : List ℕ) (tokens : List Token) : Type 0 where
  pub pieces : List Piece
  pub whole : text ≡ text_of pieces
  pub fit : Fit true pieces []
  pub told : tokens ≡ lexemes_from 0 pieces ++ end_at (length text) ∷ []
  pub few : length (lexemes_from 0 pieces) ≤ most_tokens

-- The text has these tokens: it is UTF-8, and it is cut into them.
pub record Tokenizes (text : List ℕ) (tokens : List Token) : Type 0 where
  pub utf8 : IsUtf8 text
  pub cut : IsCut text tokens
