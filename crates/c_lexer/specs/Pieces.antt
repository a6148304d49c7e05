-- A text is cut into pieces: tokens, and what stands between them (C11 5.1.1.2, 6.4.9, 6.10.2).
use Rattle.std.specs.Prelude.{◌≡◌, ◌≢◌, ℕ, nat_eq, List, [], ◌∷◌, ◌++◌, take, drop, Bool, false, ◌&&◌, ◌||◌, not, IsTrue, codes}
use Rattle.std.specs.List.{list_all, list_any, flat_map, starts_with}
use Rattle.c_lexer.specs.declared.kind.TokenKind.{TokenKind}
use Rattle.c_lexer.specs.Bytes.{is_blank, is_newline, begins_with}
use Rattle.c_lexer.specs.Kinds.{HasShape, Spells}

-- a token, or what may stand between tokens: a blank, a comment, or a line that is skipped
pub data Piece : Type 0 where
  Blank : (byte : ℕ) → Piece
  BlockComment : (body : List ℕ) → Piece
  LineComment : (body : List ℕ) → Piece
  SkippedLine : (blanks body : List ℕ) → Piece
  Lexeme : (kind : TokenKind) (spelling : List ℕ) → Piece

-- the bytes of a piece, in the order of the text
abbrev pub piece_bytes : Piece → List ℕ
piece_bytes (Blank byte) = byte ∷ []
piece_bytes (BlockComment body) = codes "/*" ++ body ++ codes "*/"
piece_bytes (LineComment body) = codes "//" ++ body
piece_bytes (SkippedLine blanks body) = codes "#" ++ blanks ++ codes "include" ++ body
piece_bytes (Lexeme kind spelling) = spelling

-- the bytes of pieces that stand one behind the other
abbrev pub text_of : List Piece → List ℕ
text_of pieces = flat_map piece_bytes pieces

-- a line ends here: at a newline, or at the end of the text
abbrev pub EndsLine : List ℕ → Type 0
EndsLine rest = IsTrue (not (begins_with (λ b. not (is_newline b)) rest))

-- no newline is among the bytes
abbrev pub no_newline : List ℕ → Bool
no_newline bytes = not (list_any is_newline bytes)

-- `*/` stands at this place of the bytes, from 0
abbrev pub EndsComment : List ℕ → ℕ → Type 0
EndsComment bytes at = take 2 (drop at bytes) ≡ codes "*/"

-- `*/` stands nowhere in the bytes
abbrev pub NeverEnds : List ℕ → Type 0
NeverEnds bytes = (at : ℕ) → ¬ EndsComment bytes at

-- a comment begins with these bytes
abbrev pub begins_comment : List ℕ → Bool
begins_comment bytes = starts_with nat_eq bytes (codes "/*") || starts_with nat_eq bytes
    (codes "//")

-- no longer front of what stands here has the shape of a token
abbrev pub IsLongest : List ℕ → List ℕ → Type 0
IsLongest spelling rest = (more later : List ℕ) → rest ≡ more ++ later → more ≢ []
    → ¬ HasShape (spelling ++ more)

-- What may stand at a place, before the bytes `rest`. `fresh` tells that no token stands since the
-- last newline.
abbrev pub PieceFits : Bool → Piece → List ℕ → Type 0
PieceFits fresh (Blank byte) rest = IsTrue (is_blank byte)
-- its `*/` is the first one behind its `/*`
PieceFits fresh (BlockComment body) rest = NeverEnds body
PieceFits fresh (LineComment body) rest = IsTrue (no_newline body) × EndsLine rest
PieceFits fresh (SkippedLine blanks body) rest =
    IsTrue fresh × IsTrue (list_all (λ b. is_blank b && not (is_newline b)) blanks)
    × IsTrue (no_newline body) × EndsLine rest
PieceFits fresh (Lexeme kind spelling) rest =
    Spells kind spelling × IsLongest spelling rest
    × IsTrue (not (begins_comment (spelling ++ rest)))

-- whether no token stands since the last newline, behind a piece
abbrev pub fresh_after : Bool → Piece → Bool
fresh_after fresh (Blank byte) = fresh || is_newline byte
fresh_after fresh (BlockComment body) = fresh || list_any is_newline body
fresh_after fresh (LineComment body) = fresh
fresh_after fresh (SkippedLine blanks body) = fresh
fresh_after fresh (Lexeme kind spelling) = false

-- the pieces may stand one after the other, before the bytes `rest`
abbrev pub Fit : Bool → List Piece → List ℕ → Type 0
Fit fresh [] rest = Unit {0}
Fit fresh (piece ∷ pieces) rest = PieceFits fresh piece (text_of pieces ++ rest)
    × Fit (fresh_after fresh piece) pieces rest

-- the piece is no token
abbrev pub IsSpace : Piece → Type 0
IsSpace (Lexeme kind spelling) = ⊥
IsSpace _ = Unit {0}

-- the piece stands at the front of the bytes, and may stand there
pub record Stands (fresh : Bool) (bytes : List ℕ) (piece : Piece) : Type 0 where
  pub rest : List ℕ
  pub whole : bytes ≡ piece_bytes piece ++ rest
  pub fits : PieceFits fresh piece rest
