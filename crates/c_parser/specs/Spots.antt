-- Tokens as the grammar sees them: what each is and where it stands.
use Rattle.std.specs.Prelude.{ℕ, ℤ, Bool, true, false, not, ◌&&◌, List, [], ◌∷◌, map}
use Rattle.c_lexer.specs.declared.keyword.Keyword.{Keyword}
use Rattle.c_lexer.specs.declared.kind.TokenKind.{TokenKind}
use Rattle.c_lexer.specs.declared.kind.TokenKind.TheVariants as kind
use Rattle.c_lexer.specs.declared.mark.Mark.{Mark}
use Rattle.c_lexer.specs.declared.token.Token.{Token}

-- a token and its place; the grammar does not ask how long it is
pub record Spot : Type 0 where
  pub at : ℕ
  pub kind : TokenKind

-- what the grammar sees of a token
abbrev pub spot_of : Token → Spot
spot_of token = record { at = token.at; kind = token.kind }

-- what the grammar sees of tokens, in the order of the text
abbrev pub spots_of : List Token → List Spot
spots_of tokens = map spot_of tokens

-- this mark, at a place
abbrev pub mark : ℕ → Mark → Spot
mark at m = record { at = at; kind = kind.Mark m }

-- this keyword, at a place
abbrev pub keyword : ℕ → Keyword → Spot
keyword at k = record { at = at; kind = kind.Keyword k }

-- this name, at a place
abbrev pub word : ℕ → List ℕ → Spot
word at name = record { at = at; kind = kind.Word name }

-- this number, at a place
abbrev pub number : ℕ → ℤ → Spot
number at value = record { at = at; kind = kind.Number value }

-- the end of the text
abbrev pub end : ℕ → Spot
end at = record { at = at; kind = kind.End }

-- whether a token is the end of the text
abbrev pub is_end : TokenKind → Bool
is_end kind.End = true
is_end _ = false

-- the end of the text stands last, and nowhere else
abbrev pub ends_once : List Spot → Bool
ends_once [] = false
ends_once (spot ∷ []) = is_end spot.kind
ends_once (spot ∷ next ∷ rest) = not (is_end spot.kind) && ends_once (next ∷ rest)
