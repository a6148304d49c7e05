-- The cut of a text goes on piece by piece.
use Rattle.std.proofs.Common.{◌≡◌, ◌≢◌, ℕ, ◌+◌, ◌-◌, ◌≤◌, List, [], ◌∷◌, ◌++◌, length, take, drop, Bool, true, None, Some, refl, sym, ap, subst, ◌∙◌, inl, inr, arith, append_assoc, append-nil, length-append, length-drop, drop-drop}
use Rattle.std.proofs.Math.ListN.{drop_of_length-le}
use Rattle.std.proofs.Math.Seq.{drop-append_seam}
use Rattle.c_lexer.specs.Limits.{most_tokens}
use Rattle.c_lexer.specs.declared.kind.TokenKind.{TokenKind}
use Rattle.c_lexer.specs.declared.kind.TokenKind.TheVariants as kind
use Rattle.c_lexer.specs.declared.token.Token.{Token}
use Rattle.c_lexer.specs.declared.scan.Cut.{Cut}
use Rattle.c_lexer.specs.Pieces.{Piece, Blank, BlockComment, LineComment, SkippedLine, Lexeme, Stands, PieceFits, piece_bytes, fresh_after, text_of, Fit}
use Rattle.c_lexer.specs.Tokens.{lexemes_from}
use Rattle.c_lexer.specs.declared.error.LexError.TheVariants as error
use Rattle.c_lexer.specs.Refusals.{fresh_behind, Reaches, Stops, TakesMemory}
use Rattle.c_lexer.proofs.Slices.{take_drop_all}
use Rattle.c_lexer.specs.Scanned.{IsFront, IsScanned, IsWhy, kind_in}

-- one piece more

text_of-snoc : (pieces : List Piece) (piece : Piece) → text_of (pieces ++ piece ∷ []) ≡ text_of pieces ++ piece_bytes piece
text_of-snoc [] piece = append-nil (piece_bytes piece)
text_of-snoc (first ∷ pieces) piece = ap (λ text. piece_bytes first ++ text) (text_of-snoc pieces piece) ∙ sym (append_assoc (piece_bytes first) (text_of pieces) (piece_bytes piece))

fresh_behind-snoc : (fresh : Bool) (pieces : List Piece) (piece : Piece) → fresh_behind fresh (pieces ++ piece ∷ []) ≡ fresh_after (fresh_behind fresh pieces) piece
fresh_behind-snoc fresh [] piece = refl
fresh_behind-snoc fresh (first ∷ pieces) piece = fresh_behind-snoc (fresh_after fresh first) pieces piece

Fit-snoc : (fresh : Bool) (pieces : List Piece) (piece : Piece) (rest : List ℕ) → Fit fresh pieces (piece_bytes piece ++ rest) → PieceFits (fresh_behind fresh pieces) piece rest → Fit fresh (pieces ++ piece ∷ []) rest
Fit-snoc fresh [] piece rest fit fits = (fits, tt)
Fit-snoc fresh (first ∷ pieces) piece rest fit fits = (
  subst (PieceFits fresh first) (sym (append_assoc (text_of pieces) (piece_bytes piece) rest) ∙ ap (λ text. text ++ rest) (sym (text_of-snoc pieces piece))) fit.0,
  Fit-snoc (fresh_after fresh first) pieces piece rest fit.1 fits,
)

place_behind : (at : ℕ) (first : Piece) (pieces : List Piece) → at + length (piece_bytes first) + length (text_of pieces) ≡ at + length (text_of (first ∷ pieces))
place_behind at first pieces = let e = length-append (piece_bytes first) (text_of pieces) in omega (arith, e)

-- the lexemes of pieces and of one more, which stands behind them
lexemes-snoc : (at : ℕ) (pieces : List Piece) (piece : Piece) → lexemes_from at (pieces ++ piece ∷ []) ≡ lexemes_from at pieces ++ lexemes_from (at + length (text_of pieces)) (piece ∷ [])
lexemes-snoc at [] piece = let e : at + 0 ≡ at = omega arith in ap (λ n. lexemes_from n (piece ∷ [])) (sym e)
lexemes-snoc at (Blank byte ∷ pieces) piece =
    lexemes-snoc (at + length (piece_bytes (Blank byte))) pieces piece ∙ ap (λ n. lexemes_from at (Blank byte ∷ pieces) ++ lexemes_from n (piece ∷ [])) (place_behind at (Blank byte) pieces)
lexemes-snoc at (BlockComment body ∷ pieces) piece =
    lexemes-snoc (at + length (piece_bytes (BlockComment body))) pieces piece ∙ ap (λ n. lexemes_from at (BlockComment body ∷ pieces) ++ lexemes_from n (piece ∷ [])) (place_behind at (BlockComment body) pieces)
lexemes-snoc at (LineComment body ∷ pieces) piece =
    lexemes-snoc (at + length (piece_bytes (LineComment body))) pieces piece ∙ ap (λ n. lexemes_from at (LineComment body ∷ pieces) ++ lexemes_from n (piece ∷ [])) (place_behind at (LineComment body) pieces)
lexemes-snoc at (SkippedLine blanks body ∷ pieces) piece =
    lexemes-snoc (at + length (piece_bytes (SkippedLine blanks body))) pieces piece ∙ ap (λ n. lexemes_from at (SkippedLine blanks body ∷ pieces) ++ lexemes_from n (piece ∷ [])) (place_behind at (SkippedLine blanks body) pieces)
lexemes-snoc at (Lexeme kind spelling ∷ pieces) piece =
    ap (λ rest. record { kind = kind; at = at; len = length spelling } ∷ rest) (lexemes-snoc (at + length spelling) pieces piece)
    ∙ ap (λ n. lexemes_from at (Lexeme kind spelling ∷ pieces) ++ lexemes_from n (piece ∷ [])) (place_behind at (Lexeme kind spelling) pieces)

-- ---- what the scanner keeps

pub IsScanned-none : (text : List ℕ) → IsScanned text 0 true []
IsScanned-none text = record { pieces = []; whole = refl; long = refl; fit = tt; state = refl; told = refl; few = omega arith }

-- the tokens of one piece at a place
abbrev pub tokens_of : ℕ → Piece → List Token
tokens_of at piece = lexemes_from at (piece ∷ [])

behind_piece : (text : List ℕ) (at len : ℕ) (front rest : List ℕ) → drop at text ≡ front ++ rest → length front ≡ len → drop (at + len) text ≡ rest
behind_piece text at len front rest e k = sym (drop-drop len at text) ∙ ap (drop len) e ∙ ap (λ n. drop n (front ++ rest)) (sym k) ∙ drop-append_seam front rest

from_zero : (n : ℕ) → n ≡ 0 + n
from_zero n = omega arith

-- one piece more is cut
pub IsScanned-more : (text : List ℕ) (at : ℕ) (fresh : Bool) (tokens : List Token) (cut : Cut) (scanned : IsScanned text at fresh tokens) (front : IsFront fresh (drop at text) cut)
    → length (tokens ++ tokens_of at front.piece) ≤ most_tokens → IsScanned text (at + cut.len) cut.fresh (tokens ++ tokens_of at front.piece)
IsScanned-more text at fresh tokens cut scanned front few =
    let pieces = scanned.pieces in
    let piece = front.piece in
    let rest = front.stands.rest in
    let next : drop (at + cut.len) text ≡ rest = behind_piece text at cut.len (piece_bytes piece) rest front.stands.whole front.long in
    let longer : text_of (pieces ++ piece ∷ []) ≡ text_of pieces ++ piece_bytes piece = text_of-snoc pieces piece in
    record {
      pieces = pieces ++ piece ∷ [];
      whole = scanned.whole ∙ ap (λ more. text_of pieces ++ more) front.stands.whole ∙ sym (append_assoc (text_of pieces) (piece_bytes piece) rest)
          ∙ ap (λ done. done ++ rest) (sym longer) ∙ ap (λ more. text_of (pieces ++ piece ∷ []) ++ more) (sym next);
      long = ap length longer ∙ length-append (text_of pieces) (piece_bytes piece) ∙ ap (λ n. n + length (piece_bytes piece)) scanned.long ∙ ap (λ n. at + n) front.long;
      fit = Fit-snoc true pieces piece (drop (at + cut.len) text)
          (subst (Fit true pieces) (front.stands.whole ∙ ap (λ more. piece_bytes piece ++ more) (sym next)) scanned.fit)
          (subst (λ (state : Bool). PieceFits state piece (drop (at + cut.len) text)) scanned.state (subst (PieceFits fresh piece) (sym next) front.stands.fits));
      state = front.state ∙ ap (λ state. fresh_after state piece) scanned.state ∙ sym (fresh_behind-snoc true pieces piece);
      told = ap (λ done. done ++ tokens_of at piece) scanned.told ∙ ap (λ n. lexemes_from 0 pieces ++ tokens_of n piece) (sym scanned.long ∙ from_zero (length (text_of pieces))) ∙ sym (lexemes-snoc 0 pieces piece);
      few = few;
    }

-- ---- by what was found

within_text : (text : List ℕ) (at : ℕ) (fresh : Bool) (cut : Cut) → at ≤ length text → IsFront fresh (drop at text) cut → at + cut.len ≤ length text
within_text text at fresh cut h front =
    let e = ap length front.stands.whole ∙ length-append (piece_bytes front.piece) front.stands.rest in
    let k = length-drop at text in
    let l = front.long in
    omega (arith, e, k, l)

tokens_of-space : (at : ℕ) (piece : Piece) → None ≡ kind_in piece → tokens_of at piece ≡ []
tokens_of-space at (Blank byte) e = refl
tokens_of-space at (BlockComment body) e = refl
tokens_of-space at (LineComment body) e = refl
tokens_of-space at (SkippedLine blanks body) e = refl
tokens_of-space at (Lexeme kind spelling) e = cc

tokens_of-lexeme : (at len : ℕ) (kind : TokenKind) (piece : Piece) → Some kind ≡ kind_in piece → length (piece_bytes piece) ≡ len → tokens_of at piece ≡ record { kind = kind; at = at; len = len } ∷ []
tokens_of-lexeme at len kind (Blank byte) e k = cc
tokens_of-lexeme at len kind (BlockComment body) e k = cc
tokens_of-lexeme at len kind (LineComment body) e k = cc
tokens_of-lexeme at len kind (SkippedLine blanks body) e k = cc
tokens_of-lexeme at len kind (Lexeme other spelling) e k =
    let same : kind ≡ other = cc in
    ap (λ kind. record { kind = kind; at = at; len = length spelling } ∷ []) (sym same) ∙ ap (λ len. record { kind = kind; at = at; len = len } ∷ []) k

-- what the scanner keeps at a place
pub record Kept (text : List ℕ) (at : ℕ) (fresh : Bool) (tokens : List Token) : Type 0 where
  pub within : at ≤ length text
  pub so_far : IsScanned text at fresh tokens

-- the bytes from a place on, as a slice has them
abbrev pub slice_from : List ℕ → ℕ → List ℕ
slice_from text at = take (length text - at) (drop at text)

pub Kept-space : (text : List ℕ) (at : ℕ) (fresh : Bool) (tokens : List Token) (cut : Cut) → at ≤ length text → IsScanned text at fresh tokens → IsFront fresh (slice_from text at) cut → cut.kind ≡ None
    → Kept text (at + cut.len) cut.fresh tokens
Kept-space text at fresh tokens cut h scanned found none =
    let front : IsFront fresh (drop at text) cut = subst (λ (bytes : List ℕ). IsFront fresh bytes cut) (take_drop_all text at) found in
    let empty : tokens_of at front.piece ≡ [] = tokens_of-space at front.piece (sym none ∙ front.told) in
    let same : tokens ++ tokens_of at front.piece ≡ tokens = ap (λ more. tokens ++ more) empty ∙ append-nil tokens in
    record {
      within = within_text text at fresh cut h front;
      so_far = subst (λ (ts : List Token). IsScanned text (at + cut.len) cut.fresh ts) same
          (IsScanned-more text at fresh tokens cut scanned front (subst (λ (ts : List Token). length ts ≤ most_tokens) (sym same) scanned.few));
    }

pub Kept-lexeme : (text : List ℕ) (at : ℕ) (fresh : Bool) (tokens : List Token) (cut : Cut) (kind : TokenKind) → at ≤ length text → IsScanned text at fresh tokens → IsFront fresh (slice_from text at) cut
    → cut.kind ≡ Some kind → length tokens ≢ most_tokens → Kept text (at + cut.len) cut.fresh (tokens ++ record { kind = kind; at = at; len = cut.len } ∷ [])
Kept-lexeme text at fresh tokens cut kind h scanned found some room =
    let front : IsFront fresh (drop at text) cut = subst (λ (bytes : List ℕ). IsFront fresh bytes cut) (take_drop_all text at) found in
    let one : tokens_of at front.piece ≡ record { kind = kind; at = at; len = cut.len } ∷ [] = tokens_of-lexeme at cut.len kind front.piece (sym some ∙ front.told) front.long in
    let same : tokens ++ tokens_of at front.piece ≡ tokens ++ record { kind = kind; at = at; len = cut.len } ∷ [] = ap (λ more. tokens ++ more) one in
    let more : length (tokens ++ record { kind = kind; at = at; len = cut.len } ∷ []) ≡ length tokens + 1 = length-append tokens (record { kind = kind; at = at; len = cut.len } ∷ []) in
    record {
      within = within_text text at fresh cut h front;
      so_far = subst (λ (ts : List Token). IsScanned text (at + cut.len) cut.fresh ts) same
          (IsScanned-more text at fresh tokens cut scanned front (subst (λ (ts : List Token). length ts ≤ most_tokens) (sym same) (not_full (length tokens) _ most_tokens scanned.few room more)));
    }
  where
    not_full : (n m most : ℕ) → n ≤ most → n ≢ most → m ≡ n + 1 → m ≤ most
    not_full n m most h k e = omega arith

-- ---- where a token is made

lexeme_in : (fresh : Bool) (bytes : List ℕ) (kind : TokenKind) (piece : Piece) → Some kind ≡ kind_in piece → Stands fresh bytes piece
    → (kind : TokenKind) × (spelling : List ℕ) × Stands fresh bytes (Lexeme kind spelling)
lexeme_in fresh bytes kind (Blank byte) e stands = cc
lexeme_in fresh bytes kind (BlockComment body) e stands = cc
lexeme_in fresh bytes kind (LineComment body) e stands = cc
lexeme_in fresh bytes kind (SkippedLine blanks body) e stands = cc
lexeme_in fresh bytes kind (Lexeme other spelling) e stands = (other, spelling, stands)

-- what stands at the place that the scanner came to
stands_there : (text : List ℕ) (at : ℕ) (fresh : Bool) (tokens : List Token) (scanned : IsScanned text at fresh tokens) (piece : Piece)
    → Stands fresh (slice_from text at) piece → Stands (fresh_behind true scanned.pieces) (drop at text) piece
stands_there text at fresh tokens scanned piece stands =
    subst (λ (state : Bool). Stands state (drop at text) piece) scanned.state (subst (λ (bytes : List ℕ). Stands fresh bytes piece) (take_drop_all text at) stands)

scanned_reaches : (text : List ℕ) (at : ℕ) (fresh : Bool) (tokens : List Token) (scanned : IsScanned text at fresh tokens) → Reaches text scanned.pieces (drop at text)
scanned_reaches text at fresh tokens scanned = record {
  whole = scanned.whole;
  fit = scanned.fit;
  few = subst (λ (n : ℕ). n ≤ most_tokens) (ap length scanned.told) scanned.few;
}

pub TakesMemory-name : (text : List ℕ) (at place : ℕ) (fresh : Bool) (tokens : List Token) → IsScanned text at fresh tokens → IsWhy fresh (slice_from text at) place error.Memory → TakesMemory text
TakesMemory-name text at place fresh tokens scanned why = (
  scanned.pieces,
  drop at text,
  scanned_reaches text at fresh tokens scanned,
  inr (kind.Word why.0, why.0, stands_there text at fresh tokens scanned (Lexeme (kind.Word why.0) why.0) why.1),
)

pub TakesMemory-lexeme : (text : List ℕ) (at : ℕ) (fresh : Bool) (tokens : List Token) (cut : Cut) (kind : TokenKind) → IsScanned text at fresh tokens
    → IsFront fresh (slice_from text at) cut → cut.kind ≡ Some kind → TakesMemory text
TakesMemory-lexeme text at fresh tokens cut kind scanned front some = (
  scanned.pieces,
  drop at text,
  scanned_reaches text at fresh tokens scanned,
  inr (lexeme_in _ _ kind front.piece (sym some ∙ front.told) (stands_there text at fresh tokens scanned front.piece front.stands)),
)

pub TakesMemory-end : (text : List ℕ) (at : ℕ) (fresh : Bool) (tokens : List Token) → IsScanned text at fresh tokens → length text ≤ at → TakesMemory text
TakesMemory-end text at fresh tokens scanned past =
    (scanned.pieces, drop at text, scanned_reaches text at fresh tokens scanned, inl (drop_of_length-le text past))

-- one lexeme too many
pub Stops-full : (text : List ℕ) (at : ℕ) (fresh : Bool) (tokens : List Token) (cut : Cut) (kind : TokenKind) → IsScanned text at fresh tokens → IsFront fresh (slice_from text at) cut
    → cut.kind ≡ Some kind → length tokens ≡ most_tokens → Stops text (error.TooManyTokens at)
Stops-full text at fresh tokens cut kind scanned front some full =
    let found = lexeme_in _ _ kind front.piece (sym some ∙ front.told) (stands_there text at fresh tokens scanned front.piece front.stands) in
    let same : length (lexemes_from 0 scanned.pieces) ≡ length tokens = ap length (sym scanned.told) in (
      scanned.pieces,
      drop at text,
      scanned_reaches text at fresh tokens scanned,
      (sym scanned.long, (same ∙ full, found.0, found.1, found.2)),
    )
