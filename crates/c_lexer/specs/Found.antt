-- What the scanner finds at a place.
use Rattle.std.specs.Prelude.{◌≡◌, ℕ, ◌<◌, ◌≤◌, nat_eq, List, ◌++◌, length, take, drop, Bool, ◌||◌, not, IsTrue, None, Some, codes}
use Rattle.std.specs.List.{starts_with}
use Rattle.c_lexer.specs.declared.piece.FoundPiece.{FoundPiece}
use Rattle.c_lexer.specs.declared.piece.FoundPiece.TheVariants.{Space, Word, Number, Sign}
use Rattle.c_lexer.specs.declared.piece.PieceStop.{PieceStop}
use Rattle.c_lexer.specs.declared.piece.PieceStop.TheVariants.{Byte, Comment, Literal}
use Rattle.c_lexer.specs.Bytes.{is_blank, begins_with}
use Rattle.c_lexer.specs.Spellings.{mark_bytes}
use Rattle.c_lexer.specs.Kinds.{HasShape, is_word_shape, is_number_shape, small_number}
use Rattle.c_lexer.specs.Pieces.{Piece, SkippedLine, IsSpace, IsLongest, NeverEnds, Stands, begins_comment, fresh_after, piece_bytes}

-- so many bytes at the front are the longest that have the shape of a token, and no comment begins
-- with them
pub record IsLexeme (bytes : List ℕ) (len : ℕ) : Type 0 where
  pub some : 0 < len
  pub within : len ≤ length bytes
  pub longest : IsLongest (take len bytes) (drop len bytes)
  pub open_text : IsTrue (not (begins_comment bytes))

-- what is found stands at the front of the bytes
abbrev pub Tells : Bool → List ℕ → FoundPiece → Type 0
Tells fresh bytes (Space len line) =
    (piece : Piece) × Stands fresh bytes piece × IsSpace piece × (length (piece_bytes piece) ≡ len)
    × (fresh_after fresh piece ≡ fresh || line)
Tells fresh bytes (Word len) = IsLexeme bytes len × IsTrue (is_word_shape (take len bytes))
Tells fresh bytes (Number len value) = IsLexeme bytes len
    × (small_number (take len bytes) ≡ Some value)
Tells fresh bytes (Sign m) = IsLexeme bytes (length (mark_bytes m))
    × (take (length (mark_bytes m)) bytes ≡ mark_bytes m)

-- no token, blank, comment or skipped line begins here
pub record BeginsNothing (fresh : Bool) (bytes : List ℕ) : Type 0 where
  pub no_token : (front later : List ℕ) → bytes ≡ front ++ later → ¬ HasShape front
  pub no_blank : IsTrue (not (begins_with is_blank bytes))
  pub no_comment : IsTrue (not (begins_comment bytes))
  pub no_line : (blanks body : List ℕ) → ¬ Stands fresh bytes (SkippedLine blanks body)

-- why nothing is found
abbrev pub Tells_why : Bool → List ℕ → PieceStop → Type 0
Tells_why fresh bytes Byte = BeginsNothing fresh bytes
Tells_why fresh bytes Comment = IsTrue (starts_with nat_eq bytes (codes "/*"))
    × NeverEnds (drop 2 bytes)
Tells_why fresh bytes Literal = (len : ℕ) × IsLexeme bytes len
    × IsTrue (is_number_shape (take len bytes)) × (small_number (take len bytes) ≡ None)
