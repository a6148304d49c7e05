-- The tokens of a text are in the form that the parser asks for.
use Rattle.std.proofs.Common.{◌≡◌, ℕ, ◌+◌, Bool, true, false, List, [], ◌∷◌, ◌++◌, length, refl, ap, ◌∙◌}
use Rattle.c_lexer.specs.declared.kind.TokenKind.{TokenKind}
use Rattle.c_lexer.specs.declared.kind.TokenKind.TheVariants as kind
use Rattle.c_lexer.specs.Kinds.{Spells}
use Rattle.c_lexer.specs.Pieces.{Piece, Blank, BlockComment, LineComment, SkippedLine, Lexeme, Fit, piece_bytes}
use Rattle.c_lexer.specs.Tokens.{end_at, lexemes_from}
use Rattle.c_parser.specs.Laws.{LexedEndsOnce}
use Rattle.c_parser.specs.Spots.{Spot, ends_once, is_end, spots_of}

no_end : (k : TokenKind) (spelling : List ℕ) → Spells k spelling → is_end k ≡ false
no_end (kind.Word name) spelling spells = refl
no_end (kind.Keyword k) spelling spells = refl
no_end (kind.Number value) spelling spells = refl
no_end (kind.Mark m) spelling spells = refl
no_end kind.End spelling spells = absurd spells

ends-behind : (spot : Spot) (spots : List Spot) → is_end spot.kind ≡ false → ends_once spots ≡ true → ends_once (spot ∷ spots) ≡ true
ends-behind spot [] other e = cc
ends-behind spot (next ∷ rest) other e = rw (other, e) refl

lexemes-end : (fresh : Bool) (at n : ℕ) (pieces : List Piece) → Fit fresh pieces [] → ends_once (spots_of (lexemes_from at pieces ++ end_at n ∷ [])) ≡ true
lexemes-end fresh at n [] fit = refl
lexemes-end fresh at n (Lexeme k spelling ∷ pieces) fit =
    ends-behind (record { at = at; kind = k }) _ (no_end k spelling fit.0.0) (lexemes-end false (at + length spelling) n pieces fit.1)
lexemes-end fresh at n (Blank byte ∷ pieces) fit = lexemes-end _ (at + length (piece_bytes (Blank byte))) n pieces fit.1
lexemes-end fresh at n (BlockComment body ∷ pieces) fit = lexemes-end _ (at + length (piece_bytes (BlockComment body))) n pieces fit.1
lexemes-end fresh at n (LineComment body ∷ pieces) fit = lexemes-end _ (at + length (piece_bytes (LineComment body))) n pieces fit.1
lexemes-end fresh at n (SkippedLine blanks body ∷ pieces) fit = lexemes-end _ (at + length (piece_bytes (SkippedLine blanks body))) n pieces fit.1

pub lexed_ends_once : LexedEndsOnce
lexed_ends_once text tokens lexed =
    ap (λ t. ends_once (spots_of t)) lexed.cut.told ∙ lexemes-end true 0 (length text) lexed.cut.pieces lexed.cut.fit
