-- What may come of a text: one cut, or one first fault.
use Rattle.std.proofs.Common.{◌≡◌, ℕ, ◌+◌, ◌<◌, ◌≤◌, Bool, true, not, List, [], ◌∷◌, ◌++◌, length, take, drop, None, Some, refl, sym, ap, subst, ◌∙◌, inl, inr, ⊎_elim, arith, append_assoc, append-nil, length-append, take-append-drop}
use Rattle.std.specs.Prelude.{codes, nat_eq}
use Rattle.std.specs.List.{starts_with}
use Rattle.std.proofs.Math.Seq.{drop-append_seam}
use Rattle.std.proofs.lemmas.Bool.{false≢true}
use Rattle.c_lexer.specs.Limits.{most_tokens}
use Rattle.c_lexer.specs.declared.kind.TokenKind.{TokenKind}
use Rattle.c_lexer.specs.declared.kind.TokenKind.TheVariants as kind
use Rattle.c_lexer.specs.declared.token.Token.{Token}
use Rattle.c_lexer.specs.declared.error.LexError.{LexError}
use Rattle.c_lexer.specs.declared.error.LexError.TheVariants as error
use Rattle.c_lexer.specs.Bytes.{is_blank, begins_with}
use Rattle.c_lexer.specs.Kinds.{HasShape, Spells, is_number_shape, is_word_shape, small_number}
use Rattle.c_lexer.specs.Pieces.{Piece, Blank, BlockComment, LineComment, SkippedLine, Lexeme, piece_bytes, PieceFits, NeverEnds, Stands, begins_comment, fresh_after, text_of, Fit}
use Rattle.c_lexer.specs.Tokens.{lexemes_from, end_at, IsCut}
use Rattle.c_lexer.specs.Found.{IsLexeme, BeginsNothing}
use Rattle.c_lexer.specs.Refusals.{fresh_behind, StopsAt, Stops}
use Rattle.c_lexer.proofs.Keywords.{keyword_shape}
use Rattle.c_lexer.proofs.Lexemes.{starts_with_true}
use Rattle.c_lexer.proofs.Unique.{Stands-unique, Spells-shape, fronts, no_number_word, no_mark_number, no_mark_empty, sort_at, sort_of, Stands-sort, lexeme_sort, other_sort, block_bytes}

-- ---- pieces have bytes

shape_some : (w : List ℕ) → HasShape w → 0 < length w
shape_some [] shape = absurd (⊎_elim (λ k. false≢true k) (λ other. ⊎_elim (λ k. false≢true k) (λ mark. no_mark_empty mark.0 mark.1) other) shape)
shape_some (b ∷ w) shape = omega arith

pub piece_some : (fresh : Bool) (p : Piece) (x : List ℕ) → PieceFits fresh p x → 0 < length (piece_bytes p)
piece_some fresh (Blank byte) x fits = omega arith
piece_some fresh (BlockComment body) x fits = omega arith
piece_some fresh (LineComment body) x fits = omega arith
piece_some fresh (SkippedLine blanks body) x fits = omega arith
piece_some fresh (Lexeme kind w) x fits = shape_some w (Spells-shape kind w fits.0)

-- no piece stands at the end of a text
none_at_end : (fresh : Bool) (p : Piece) → Stands fresh [] p → ⊥
none_at_end fresh p s =
    let e : 0 ≡ length (piece_bytes p ++ s.rest) = ap length s.whole in
    let l = length-append (piece_bytes p) s.rest in
    let k = piece_some fresh p s.rest s.fits in
    omega (arith, e, l, k)

-- ---- two cuts of one text are one, or the one goes on where the other ends

pub compare_cuts : {C : Type 0} (fresh : Bool) (ps qs : List Piece) (x y : List ℕ) → Fit fresh ps x → Fit fresh qs y → text_of ps ++ x ≡ text_of qs ++ y
    → (ps ≡ qs → x ≡ y → C)
    → ((q : Piece) (more : List Piece) → Stands (fresh_behind fresh ps) x q → qs ≡ ps ++ q ∷ more → C)
    → ((p : Piece) (more : List Piece) → Stands (fresh_behind fresh qs) y p → ps ≡ qs ++ p ∷ more → C) → C
compare_cuts fresh [] [] x y f g e same first second = same refl e
compare_cuts fresh [] (q ∷ qs) x y f g e same first second =
    first q qs (record { rest = text_of qs ++ y; whole = e ∙ append_assoc (piece_bytes q) (text_of qs) y; fits = g.0 }) refl
compare_cuts fresh (p ∷ ps) [] x y f g e same first second =
    second p ps (record { rest = text_of ps ++ x; whole = sym e ∙ append_assoc (piece_bytes p) (text_of ps) x; fits = f.0 }) refl
compare_cuts fresh (p ∷ ps) (q ∷ qs) x y f g e same first second =
    let s : Stands fresh (text_of (p ∷ ps) ++ x) p = record { rest = text_of ps ++ x; whole = append_assoc (piece_bytes p) (text_of ps) x; fits = f.0 } in
    let t : Stands fresh (text_of (p ∷ ps) ++ x) q = record { rest = text_of qs ++ y; whole = e ∙ append_assoc (piece_bytes q) (text_of qs) y; fits = g.0 } in
    let one = Stands-unique fresh (text_of (p ∷ ps) ++ x) p q s t in
    compare_cuts (fresh_after fresh p) ps qs x y f.1 (subst (λ r. Fit (fresh_after fresh r) qs y) (sym one.piece) g.1) one.rest
    (λ k l. same (ap (λ r. r ∷ ps) one.piece ∙ ap (λ rs. q ∷ rs) k) l)
    (λ r more stands k. first r more stands (ap (λ r. r ∷ qs) (sym one.piece) ∙ ap (λ rs. p ∷ rs) k))
    (λ r more stands k. second r more (subst (λ piece. Stands (fresh_behind (fresh_after fresh piece) qs) y r) one.piece stands) (ap (λ r. r ∷ ps) one.piece ∙ ap (λ rs. q ∷ rs) k))

-- a lexeme more is a token more
count_more : (at place : ℕ) (ps : List Piece) (kind : TokenKind) (w : List ℕ) (more : List Piece) → length (lexemes_from at ps) < length (lexemes_from place (ps ++ Lexeme kind w ∷ more))
count_more at place [] kind w more = omega arith
count_more at place (Blank byte ∷ ps) kind w more = count_more (at + length (piece_bytes (Blank byte))) (place + length (piece_bytes (Blank byte))) ps kind w more
count_more at place (BlockComment body ∷ ps) kind w more = count_more (at + length (piece_bytes (BlockComment body))) (place + length (piece_bytes (BlockComment body))) ps kind w more
count_more at place (LineComment body ∷ ps) kind w more = count_more (at + length (piece_bytes (LineComment body))) (place + length (piece_bytes (LineComment body))) ps kind w more
count_more at place (SkippedLine blanks body ∷ ps) kind w more = count_more (at + length (piece_bytes (SkippedLine blanks body))) (place + length (piece_bytes (SkippedLine blanks body))) ps kind w more
count_more at place (Lexeme k v ∷ ps) kind w more = let e = count_more (at + length v) (place + length v) ps kind w more in omega (arith, e)

-- ---- where a cut stops, no piece stands

no_begin : (fresh : Bool) (bytes : List ℕ) (q : Piece) → BeginsNothing fresh bytes → Stands fresh bytes q → ⊥
no_begin fresh bytes (Blank byte) nothing s = false≢true (sym (ap not (ap (begins_with is_blank) s.whole ∙ s.fits)) ∙ nothing.no_blank)
no_begin fresh bytes (BlockComment body) nothing s = false≢true (sym (ap (λ w. not (begins_comment w)) s.whole) ∙ nothing.no_comment)
no_begin fresh bytes (LineComment body) nothing s = false≢true (sym (ap (λ w. not (begins_comment w)) s.whole) ∙ nothing.no_comment)
no_begin fresh bytes (SkippedLine blanks body) nothing s = nothing.no_line blanks body s
no_begin fresh bytes (Lexeme kind w) nothing s = nothing.no_token w s.rest s.whole (Spells-shape kind w s.fits.0)

no_close : (fresh : Bool) (bytes : List ℕ) (q : Piece) → starts_with nat_eq bytes (codes "/*") ≡ true → NeverEnds (drop 2 bytes) → Stands fresh bytes q → ⊥
no_close fresh bytes q h never s = at q s
  where
    sort : (q : Piece) → Stands fresh bytes q → 1 ≡ sort_of q
    sort q s = sym (ap sort_at (starts_with_true bytes (codes "/*") h)) ∙ Stands-sort fresh bytes q s

    at : (q : Piece) → Stands fresh bytes q → ⊥
    at (Blank a) s = other_sort 1 0 refl (sort (Blank a) s)
    at (BlockComment body) s =
        never (length body)
        (ap (λ w. take 2 (drop (length body) w)) (block_bytes bytes body s.rest s.whole) ∙ ap (take 2) (drop-append_seam body (42 ∷ 47 ∷ s.rest)))
    at (LineComment body) s = other_sort 1 2 refl (sort (LineComment body) s)
    at (SkippedLine blanks body) s = other_sort 1 3 refl (sort (SkippedLine blanks body) s)
    at (Lexeme kind w) s = other_sort 1 4 refl (sort (Lexeme kind w) s)

-- a number that is none of the language spells nothing
no_number_spells : (kind : TokenKind) (w : List ℕ) → Spells kind w → is_number_shape w ≡ true → small_number w ≡ None → ⊥
no_number_spells (kind.Word n) w h shape none = no_number_word w h.1 shape
no_number_spells (kind.Keyword k) w h shape none = no_number_word w (ap is_word_shape h ∙ keyword_shape k) shape
no_number_spells (kind.Number z) w h shape none = let e : Some h.0 ≡ None = sym h.2 ∙ none in cc
no_number_spells (kind.Mark m) w h shape none = no_mark_number w m shape h
no_number_spells kind.End w h shape none = h

no_literal : (fresh : Bool) (bytes : List ℕ) (len : ℕ) (q : Piece) → IsLexeme bytes len → is_number_shape (take len bytes) ≡ true → small_number (take len bytes) ≡ None → Stands fresh bytes q → ⊥
no_literal fresh bytes len q lexeme shape none s = at q s
  where
    parts : take len bytes ++ drop len bytes ≡ bytes
    parts = take-append-drop len bytes

    sort : (q : Piece) → Stands fresh bytes q → 4 ≡ sort_of q
    sort q s =
        sym (sym (ap sort_at parts) ∙ lexeme_sort (take len bytes) (drop len bytes) (inr (inl shape)) (ap (λ w. not (begins_comment w)) parts ∙ lexeme.open_text))
        ∙ Stands-sort fresh bytes q s

    at : (q : Piece) → Stands fresh bytes q → ⊥
    at (Blank a) s = other_sort 4 0 refl (sort (Blank a) s)
    at (BlockComment body) s = other_sort 4 1 refl (sort (BlockComment body) s)
    at (LineComment body) s = other_sort 4 2 refl (sort (LineComment body) s)
    at (SkippedLine blanks body) s = other_sort 4 3 refl (sort (SkippedLine blanks body) s)
    at (Lexeme kind w) s =
        fronts w (take len bytes) s.rest (drop len bytes) (sym s.whole ∙ sym parts)
        (λ more some p q. s.fits.1 more (drop len bytes) q some (subst HasShape p (inr (inl shape))))
        (λ more some p q. lexeme.longest more s.rest q some (subst HasShape p (Spells-shape kind w s.fits.0)))
        (λ p q. no_number_spells kind (take len bytes) (subst (λ (v : List ℕ). Spells kind v) p s.fits.0) shape none)

-- where a piece stands, a cut may stop for the number of its tokens alone
stop_stands : (ps : List Piece) (rest : List ℕ) (e : LexError) (q : Piece) → StopsAt ps rest e → Stands (fresh_behind true ps) rest q
    → length (lexemes_from 0 ps) ≡ most_tokens × (k : TokenKind) × (w : List ℕ) × (q ≡ Lexeme k w)
stop_stands ps rest (error.Byte at) q stops s = absurd (no_begin (fresh_behind true ps) rest q stops.2 s)
stop_stands ps rest (error.Comment at) q stops s = absurd (no_close (fresh_behind true ps) rest q stops.1.0 stops.1.1 s)
stop_stands ps rest (error.Literal at) q stops s = absurd (no_literal (fresh_behind true ps) rest stops.1.0 q stops.1.1 stops.1.2 stops.1.3 s)
stop_stands ps rest (error.TooManyTokens at) q stops s =
    (stops.1.0, stops.1.1, stops.1.2, (Stands-unique (fresh_behind true ps) rest q (Lexeme stops.1.1 stops.1.2) s stops.1.3).piece)
stop_stands ps rest error.Memory q stops s = absurd stops

-- no cut goes on where another one stops
no_further : (ps qs : List Piece) (rest : List ℕ) (e : LexError) (q : Piece) (more : List Piece) → StopsAt ps rest e → Stands (fresh_behind true ps) rest q
    → qs ≡ ps ++ q ∷ more → length (lexemes_from 0 qs) ≤ most_tokens → ⊥
no_further ps qs rest e q more stops s whole few =
    let found = stop_stands ps rest e q stops s in
    let longer : qs ≡ ps ++ Lexeme found.1 found.2 ∷ more = whole ∙ ap (λ r. ps ++ r ∷ more) found.3 in
    let k = count_more 0 0 ps found.1 found.2 more in
    let l : length (lexemes_from 0 qs) ≡ length (lexemes_from 0 (ps ++ Lexeme found.1 found.2 ∷ more)) = ap (λ rs. length (lexemes_from 0 rs)) longer in
    let m = found.0 in
    omega (arith, few, k, l, m)

-- ---- one cut, or one stop

pub cut_is_one : (text : List ℕ) (one other : List Token) → IsCut text one → IsCut text other → one ≡ other
cut_is_one text one other a b =
    compare_cuts true a.pieces b.pieces [] [] a.fit b.fit
    (append-nil (text_of a.pieces) ∙ sym a.whole ∙ b.whole ∙ sym (append-nil (text_of b.pieces)))
    (λ k l. a.told ∙ ap (λ ps. lexemes_from 0 ps ++ end_at (length text) ∷ []) k ∙ sym b.told)
    (λ q more s k. absurd (none_at_end (fresh_behind true a.pieces) q s))
    (λ p more s k. absurd (none_at_end (fresh_behind true b.pieces) p s))

no_stop_at_end : (ps : List Piece) (e : LexError) → StopsAt ps [] e → ⊥
no_stop_at_end ps (error.Byte at) stops = let k = stops.1 in omega (arith, k)
no_stop_at_end ps (error.Comment at) stops = false≢true stops.1.0
no_stop_at_end ps (error.Literal at) stops = let a = stops.1.1.some in let b = stops.1.1.within in omega (arith, a, b)
no_stop_at_end ps (error.TooManyTokens at) stops = none_at_end (fresh_behind true ps) (Lexeme stops.1.1 stops.1.2) stops.1.3
no_stop_at_end ps error.Memory stops = stops

pub cut_never_stops : (text : List ℕ) (tokens : List Token) (e : LexError) → IsCut text tokens → Stops text e → ⊥
cut_never_stops text tokens e cut stops =
    let reaches = stops.2 in
    compare_cuts true cut.pieces stops.0 [] stops.1 cut.fit reaches.fit (append-nil (text_of cut.pieces) ∙ sym cut.whole ∙ reaches.whole)
    (λ k l. no_stop_at_end stops.0 e (subst (λ rest. StopsAt stops.0 rest e) (sym l) stops.3))
    (λ q more s k. none_at_end (fresh_behind true cut.pieces) q s)
    (λ p more s k. no_further stops.0 cut.pieces stops.1 e p more stops.3 s k cut.few)

-- a cut stops for one of its reasons
no_comment_too : (fresh : Bool) (bytes : List ℕ) → BeginsNothing fresh bytes → starts_with nat_eq bytes (codes "/*") ≡ true → ⊥
no_comment_too fresh bytes nothing h =
    false≢true (sym (ap (λ w. not (begins_comment w)) (starts_with_true bytes (codes "/*") h)) ∙ nothing.no_comment)

no_literal_too : (fresh : Bool) (bytes : List ℕ) (len : ℕ) → BeginsNothing fresh bytes → is_number_shape (take len bytes) ≡ true → ⊥
no_literal_too fresh bytes len nothing shape = nothing.no_token (take len bytes) (drop len bytes) (sym (take-append-drop len bytes)) (inr (inl shape))

no_lexeme_too : (bytes : List ℕ) (len : ℕ) → starts_with nat_eq bytes (codes "/*") ≡ true → IsLexeme bytes len → ⊥
no_lexeme_too bytes len h lexeme =
    false≢true (sym (ap (λ w. not (begins_comment w)) (starts_with_true bytes (codes "/*") h)) ∙ lexeme.open_text)

same_stop : (ps : List Piece) (rest : List ℕ) (e f : LexError) → StopsAt ps rest e → StopsAt ps rest f → e ≡ f
same_stop ps rest (error.Byte at) (error.Byte to) s t = ap error.Byte (s.0 ∙ sym t.0)
same_stop ps rest (error.Byte at) (error.Comment to) s t = absurd (no_comment_too (fresh_behind true ps) rest s.2 t.1.0)
same_stop ps rest (error.Byte at) (error.Literal to) s t = absurd (no_literal_too (fresh_behind true ps) rest t.1.0 s.2 t.1.2)
same_stop ps rest (error.Byte at) (error.TooManyTokens to) s t = absurd (no_begin (fresh_behind true ps) rest (Lexeme t.1.1 t.1.2) s.2 t.1.3)
same_stop ps rest (error.Comment at) (error.Byte to) s t = absurd (no_comment_too (fresh_behind true ps) rest t.2 s.1.0)
same_stop ps rest (error.Comment at) (error.Comment to) s t = ap error.Comment (s.0 ∙ sym t.0)
same_stop ps rest (error.Comment at) (error.Literal to) s t = absurd (no_lexeme_too rest t.1.0 s.1.0 t.1.1)
same_stop ps rest (error.Comment at) (error.TooManyTokens to) s t = absurd (no_close (fresh_behind true ps) rest (Lexeme t.1.1 t.1.2) s.1.0 s.1.1 t.1.3)
same_stop ps rest (error.Literal at) (error.Byte to) s t = absurd (no_literal_too (fresh_behind true ps) rest s.1.0 t.2 s.1.2)
same_stop ps rest (error.Literal at) (error.Comment to) s t = absurd (no_lexeme_too rest s.1.0 t.1.0 s.1.1)
same_stop ps rest (error.Literal at) (error.Literal to) s t = ap error.Literal (s.0 ∙ sym t.0)
same_stop ps rest (error.Literal at) (error.TooManyTokens to) s t = absurd (no_literal (fresh_behind true ps) rest s.1.0 (Lexeme t.1.1 t.1.2) s.1.1 s.1.2 s.1.3 t.1.3)
same_stop ps rest (error.TooManyTokens at) (error.Byte to) s t = absurd (no_begin (fresh_behind true ps) rest (Lexeme s.1.1 s.1.2) t.2 s.1.3)
same_stop ps rest (error.TooManyTokens at) (error.Comment to) s t = absurd (no_close (fresh_behind true ps) rest (Lexeme s.1.1 s.1.2) t.1.0 t.1.1 s.1.3)
same_stop ps rest (error.TooManyTokens at) (error.Literal to) s t = absurd (no_literal (fresh_behind true ps) rest t.1.0 (Lexeme s.1.1 s.1.2) t.1.1 t.1.2 t.1.3 s.1.3)
same_stop ps rest (error.TooManyTokens at) (error.TooManyTokens to) s t = ap error.TooManyTokens (s.0 ∙ sym t.0)
same_stop ps rest error.Memory f s t = absurd s
same_stop ps rest e error.Memory s t = absurd t

pub stop_is_one : (text : List ℕ) (e f : LexError) → Stops text e → Stops text f → e ≡ f
stop_is_one text e f one other =
    let a = one.2 in
    let b = other.2 in
    compare_cuts true one.0 other.0 one.1 other.1 a.fit b.fit (sym a.whole ∙ b.whole)
    (λ k l. same_stop other.0 other.1 e f (subst (λ rest. StopsAt other.0 rest e) l (subst (λ ps. StopsAt ps one.1 e) k one.3)) other.3)
    (λ q more s k. absurd (no_further one.0 other.0 one.1 e q more one.3 s k b.few))
    (λ p more s k. absurd (no_further other.0 one.0 other.1 f p more other.3 s k a.few))
