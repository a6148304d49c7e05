-- What is found at the front of a text is a piece of it.
use Rattle.std.proofs.Common.{◌≡◌, ℕ, List, length, take, drop, Bool, false, not, None, Some, refl, sym, ap, ◌∙◌, pos}
use Rattle.std.specs.Prelude.{◌||◌}
use Rattle.std.proofs.lemmas.List.{take-append-drop, length-take-le}
use Rattle.c_lexer.specs.declared.kind.TokenKind.{TokenKind}
use Rattle.c_lexer.specs.declared.kind.TokenKind.TheVariants as kind
use Rattle.c_lexer.specs.declared.mark.Mark.{Mark}
use Rattle.c_lexer.specs.declared.piece.FoundPiece.TheVariants.{Space, Word, Number, Sign}
use Rattle.c_lexer.specs.Spellings.{mark_bytes}
use Rattle.c_lexer.specs.Kinds.{Spells}
use Rattle.c_lexer.specs.Pieces.{Piece, Blank, BlockComment, LineComment, SkippedLine, Lexeme, IsSpace, Stands, begins_comment}
use Rattle.c_lexer.specs.Found.{IsLexeme, Tells}
use Rattle.c_lexer.specs.Scanned.{IsFront, kind_in}

space_has_no_kind : (piece : Piece) → IsSpace piece → None ≡ kind_in piece
space_has_no_kind (Blank byte) h = refl
space_has_no_kind (BlockComment body) h = refl
space_has_no_kind (LineComment body) h = refl
space_has_no_kind (SkippedLine blanks body) h = refl
space_has_no_kind (Lexeme kind spelling) h = absurd h

pub front_space : (fresh line : Bool) (bytes : List ℕ) (len : ℕ) → Tells fresh bytes (Space len line) → IsFront fresh bytes (record { len = len; fresh = fresh || line; kind = None })
front_space fresh line bytes len tells = record {
  piece = tells.0;
  stands = tells.1;
  long = tells.3;
  state = sym tells.4;
  told = space_has_no_kind tells.0 tells.2;
}

lexeme_stands : (fresh : Bool) (bytes : List ℕ) (len : ℕ) (kind : TokenKind) → IsLexeme bytes len → Spells kind (take len bytes) → Stands fresh bytes (Lexeme kind (take len bytes))
lexeme_stands fresh bytes len kind lexeme spells = record {
  rest = drop len bytes;
  whole = sym (take-append-drop len bytes);
  fits = (spells, lexeme.longest, ap (λ text. not (begins_comment text)) (take-append-drop len bytes) ∙ lexeme.open_text);
}

front_lexeme : (fresh : Bool) (bytes : List ℕ) (len : ℕ) (kind : TokenKind) → IsLexeme bytes len → Spells kind (take len bytes) → IsFront fresh bytes (record { len = len; fresh = false; kind = Some kind })
front_lexeme fresh bytes len kind lexeme spells = record {
  piece = Lexeme kind (take len bytes);
  stands = lexeme_stands fresh bytes len kind lexeme spells;
  long = length-take-le len bytes lexeme.within;
  state = refl;
  told = refl;
}

pub front_word : (fresh : Bool) (bytes : List ℕ) (len : ℕ) (kind : TokenKind) → Tells fresh bytes (Word len) → Spells kind (take len bytes) → IsFront fresh bytes (record { len = len; fresh = false; kind = Some kind })
front_word fresh bytes len kind tells spells = front_lexeme fresh bytes len kind tells.0 spells

pub front_number : (fresh : Bool) (bytes : List ℕ) (len value : ℕ) → Tells fresh bytes (Number len value) → IsFront fresh bytes (record { len = len; fresh = false; kind = Some (kind.Number (pos value)) })
front_number fresh bytes len value tells = front_lexeme fresh bytes len (kind.Number (pos value)) tells.0 (value, refl, tells.1)

pub front_mark : (fresh : Bool) (bytes : List ℕ) (m : Mark) → Tells fresh bytes (Sign m) → IsFront fresh bytes (record { len = length (mark_bytes m); fresh = false; kind = Some (kind.Mark m) })
front_mark fresh bytes m tells = front_lexeme fresh bytes (length (mark_bytes m)) (kind.Mark m) tells.0 tells.1

-- a name for whose copy there is no memory
pub name_stands : (fresh : Bool) (bytes : List ℕ) (len : ℕ) → Tells fresh bytes (Word len) → Spells (kind.Word (take len bytes)) (take len bytes)
    → (name : List ℕ) × Stands fresh bytes (Lexeme (kind.Word name) name)
name_stands fresh bytes len tells spells = (take len bytes, lexeme_stands fresh bytes len (kind.Word (take len bytes)) tells.0 spells)
