-- The places of tokens ascend.
use Rattle.std.proofs.Common.{◌≡◌, ℕ, ◌+◌, ◌≤◌, Bool, true, List, [], ◌∷◌, ◌++◌, length, map, refl, ap, ◌∙◌, sym, arith, length-append}
use Rattle.std.specs.Prelude.{◌&&◌, nat_le}
use Rattle.std.proofs.lemmas.Bool.Decides.{nat_tests}
use Rattle.c_lexer.specs.declared.token.Token.{Token}
use Rattle.c_lexer.specs.Laws.{TokensAscend, ascends_from}
use Rattle.c_lexer.specs.Pieces.{Piece, Blank, BlockComment, LineComment, SkippedLine, Lexeme, Fit, piece_bytes, text_of}
use Rattle.c_lexer.specs.Tokens.{end_at, lexemes_from}
use Rattle.c_lexer.proofs.Outcomes.{piece_some}

at_least : (m n : ℕ) → m ≤ n → nat_le m n ≡ true
at_least m n h = grind (arith, nat_tests)

both_hold : (a b : Bool) → a ≡ true → b ≡ true → a && b ≡ true
both_hold a b p q = rw (p, q) refl

-- behind a piece, of which some bytes stand, the lexemes begin later
pub lexemes-ascend : (pieces : List Piece) (fresh : Bool) (least at past : ℕ) → Fit fresh pieces [] → least ≤ at → at + length (text_of pieces) ≤ past
    → ascends_from least (map (λ (token : Token). token.at) (lexemes_from at pieces ++ end_at past ∷ [])) ≡ true
lexemes-ascend [] fresh least at past fit low within = both_hold _ _ (at_least least past (omega (arith, low, within))) refl
lexemes-ascend (Lexeme kind spelling ∷ pieces) fresh least at past fit low within =
    let some = piece_some fresh (Lexeme kind spelling) _ fit.0 in
    let long = length-append spelling (text_of pieces) in
    both_hold _ _ (at_least least at low) (lexemes-ascend pieces _ (at + 1) (at + length spelling) past fit.1 (omega (arith, some)) (omega (arith, within, long)))
lexemes-ascend (Blank byte ∷ pieces) fresh least at past fit low within =
    let long = length-append (piece_bytes (Blank byte)) (text_of pieces) in
    lexemes-ascend pieces _ least (at + length (piece_bytes (Blank byte))) past fit.1 (omega (arith, low)) (omega (arith, within, long))
lexemes-ascend (BlockComment body ∷ pieces) fresh least at past fit low within =
    let long = length-append (piece_bytes (BlockComment body)) (text_of pieces) in
    lexemes-ascend pieces _ least (at + length (piece_bytes (BlockComment body))) past fit.1 (omega (arith, low)) (omega (arith, within, long))
lexemes-ascend (LineComment body ∷ pieces) fresh least at past fit low within =
    let long = length-append (piece_bytes (LineComment body)) (text_of pieces) in
    lexemes-ascend pieces _ least (at + length (piece_bytes (LineComment body))) past fit.1 (omega (arith, low)) (omega (arith, within, long))
lexemes-ascend (SkippedLine blanks body ∷ pieces) fresh least at past fit low within =
    let long = length-append (piece_bytes (SkippedLine blanks body)) (text_of pieces) in
    lexemes-ascend pieces _ least (at + length (piece_bytes (SkippedLine blanks body))) past fit.1 (omega (arith, low)) (omega (arith, within, long))

pub tokens_ascend : TokensAscend
tokens_ascend text tokens lexed =
    let cut = lexed.cut in
    let long : length (text_of cut.pieces) ≡ length text = ap length (sym cut.whole) in
    ap (λ ts. ascends_from 0 (map (λ (token : Token). token.at) ts)) cut.told
    ∙ lexemes-ascend cut.pieces true 0 0 (length text) cut.fit (omega arith) (omega (arith, long))
