-- A text is cut in one way.
use Rattle.std.proofs.Common.{◌≡◌, ◌≢◌, ℕ, ◌<◌, Bool, true, false, not, List, [], ◌∷◌, ◌++◌, length, take, drop, get_or, None, Some, Option, refl, sym, ap, subst, ◌∙◌, inl, inr, ⊎_elim, arith, append_assoc, pos}
use Rattle.std.specs.Prelude.{◌&&◌, ◌||◌, ◌==◌, codes, nat_eq, if◌then◌else◌}
use Rattle.std.specs.List.{list_all, list_any, starts_with}
use Rattle.std.specs.Char.{is_ascii_digit, is_ascii_hexdigit}
use Rattle.std.specs.Int.{is_in_range}
use Rattle.std.specs.Option.{option_map}
use Rattle.std.proofs.Math.Seq.{drop-append_seam}
use Rattle.std.proofs.lemmas.Bool.{false≢true, eqb-true}
use Rattle.std.proofs.lemmas.Bool.Decides.{nat_tests}
use Rattle.c_lexer.specs.declared.kind.TokenKind.{TokenKind}
use Rattle.c_lexer.specs.declared.kind.TokenKind.TheVariants as kind
use Rattle.c_lexer.specs.declared.mark.Mark.{Mark}
use Rattle.c_lexer.specs.Bytes.{is_blank, is_newline, is_word_start, is_number_byte, begins_with}
use Rattle.c_lexer.specs.Spellings.{mark_bytes}
use Rattle.c_lexer.specs.Kinds.{HasShape, Spells, is_word_shape, is_number_shape, is_decimal, decimal_value, hexadecimal_digits, hexadecimal_value, if_small, small_number}
use Rattle.c_lexer.specs.Pieces.{Piece, Blank, BlockComment, LineComment, SkippedLine, Lexeme, IsLongest, NeverEnds, EndsLine, no_newline, Stands, begins_comment}
use Rattle.c_lexer.proofs.Finds.{and_parts}
use Rattle.c_lexer.proofs.Keywords.{keyword_bytes-same, keyword_shape}
use Rattle.c_lexer.proofs.Marks.{mark_bytes-some, mark_bytes-no_word, mark_bytes-no_digit, mark_bytes-no_blank, mark_bytes-no_hash, mark_bytes-same}
use Rattle.c_lexer.proofs.Shapes.{digit_passes, digit_starts_no_word, passes_after}

-- ---- two fronts of one list

-- of two fronts of a list one is longer by something, or they are one
pub fronts : {C : Type 0} (a b x y : List ℕ) → a ++ x ≡ b ++ y → ((more : List ℕ) → more ≢ [] → b ≡ a ++ more → x ≡ more ++ y → C) → ((more : List ℕ) → more ≢ [] → a ≡ b ++ more → y ≡ more ++ x → C) → (a ≡ b → x ≡ y → C) → C
fronts [] [] x y e first second same = same refl e
fronts [] (c ∷ b) x y e first second same = first (c ∷ b) (λ h. cc) refl e
fronts (c ∷ a) [] x y e first second same = second (c ∷ a) (λ h. cc) refl (sym e)
fronts (c ∷ a) (d ∷ b) x y e first second same =
    let head : c ≡ d = cc in
    let tail : a ++ x ≡ b ++ y = cc in
    fronts a b x y tail (λ more some p q. first more some (let r : d ∷ b ≡ c ∷ (a ++ more) = cc in r) q)
    (λ more some p q. second more some (let r : c ∷ a ≡ d ∷ (b ++ more) = cc in r) q)
    (λ p q. same (let r : c ∷ a ≡ d ∷ b = cc in r) q)

-- ---- the shape of what is spelled

all_weaker : (p q : ℕ → Bool) → ((b : ℕ) → p b ≡ true → q b ≡ true) → (xs : List ℕ) → list_all p xs ≡ true → list_all q xs ≡ true
all_weaker p q weaker [] h = refl
all_weaker p q weaker (x ∷ xs) h = let parts = and_parts (p x) (list_all p xs) h in rw (weaker x parts.0, all_weaker p q weaker xs parts.1) refl

or_wider : (a b c e f u v : Bool) → (b ≡ true → e ≡ true) → (c ≡ true → f ≡ true) → (a || b) || c ≡ true → (((a || e) || f) || u) || v ≡ true
or_wider true b c e f u v h k l = refl
or_wider false true c e f u v h k l = rw (h refl) refl
or_wider false false true true f u v h k l = refl
or_wider false false true false f u v h k l = rw (k refl) refl
or_wider false false false e f u v h k l = absurd (false≢true l)

upper_range : (b : ℕ) → is_in_range 65 70 b ≡ true → is_in_range 65 90 b ≡ true
upper_range b h = grind (arith, nat_tests)

lower_range : (b : ℕ) → is_in_range 97 102 b ≡ true → is_in_range 97 122 b ≡ true
lower_range b h = grind (arith, nat_tests)

hex_digit_passes : (b : ℕ) → is_ascii_hexdigit b ≡ true → is_number_byte b ≡ true
hex_digit_passes b h = or_wider (is_in_range 48 57 b) (is_in_range 65 70 b) (is_in_range 97 102 b) (is_in_range 65 90 b) (is_in_range 97 122 b) (b == 95) (b == 46) (upper_range b) (lower_range b) h

decimal_is_shaped : (w : List ℕ) → is_decimal w ≡ true → is_number_shape w ≡ true
decimal_is_shaped [] h = absurd (false≢true h)
decimal_is_shaped (d ∷ []) h = rw h refl
decimal_is_shaped (d ∷ e ∷ digits) h =
    let parts = and_parts (is_ascii_digit d && not (d == 48)) (list_all is_ascii_digit (e ∷ digits)) h in
    let first = and_parts (is_ascii_digit d) (not (d == 48)) parts.0 in
    rw (first.0, all_weaker is_ascii_digit is_number_byte digit_passes (e ∷ digits) parts.1) refl

some_if : {X : Type 0} (b : Bool) (x y : X) → (if b then Some x else None) ≡ Some y → b ≡ true
some_if true x y e = refl
some_if false x y e = cc

x_passes : (x : ℕ) → (x == 120) || (x == 88) ≡ true → is_number_byte x ≡ true
x_passes x h = grind (arith, nat_tests)

zero_is_digit : (z : ℕ) → (z == 48) ≡ true → is_ascii_digit z ≡ true
zero_is_digit z h = let e : z ≡ 48 = eqb-true z 48 h in rw e refl

hexadecimal_is_shaped : (w digits : List ℕ) → hexadecimal_digits w ≡ Some digits → is_number_shape w ≡ true
hexadecimal_is_shaped [] digits e = cc
hexadecimal_is_shaped (z ∷ []) digits e = cc
hexadecimal_is_shaped (z ∷ x ∷ []) digits e = cc
hexadecimal_is_shaped (z ∷ x ∷ d ∷ more) digits e =
    let h = some_if ((z == 48) && ((x == 120) || (x == 88)) && list_all is_ascii_hexdigit (d ∷ more)) (d ∷ more) digits e in
    let parts = and_parts ((z == 48) && ((x == 120) || (x == 88))) (list_all is_ascii_hexdigit (d ∷ more)) h in
    let first = and_parts (z == 48) ((x == 120) || (x == 88)) parts.0 in
    rw (zero_is_digit z first.0, x_passes x first.1, all_weaker is_ascii_hexdigit is_number_byte hex_digit_passes (d ∷ more) parts.1) refl

number_cases : (w : List ℕ) (n : ℕ) (b : Bool) → is_decimal w ≡ b → (digits : Option (List ℕ)) → hexadecimal_digits w ≡ digits
    → if_small (if b then Some (decimal_value w) else option_map hexadecimal_value digits) ≡ Some n → is_number_shape w ≡ true
number_cases w n true h digits k e = decimal_is_shaped w h
number_cases w n false h None k e = cc
number_cases w n false h (Some digits) k e = hexadecimal_is_shaped w digits k

number_is_shaped : (w : List ℕ) (n : ℕ) → small_number w ≡ Some n → is_number_shape w ≡ true
number_is_shaped w n e = number_cases w n (is_decimal w) refl (hexadecimal_digits w) refl e

pub Spells-shape : (kind : TokenKind) (w : List ℕ) → Spells kind w → HasShape w
Spells-shape (kind.Word name) w h = inl h.1
Spells-shape (kind.Keyword k) w h = inl (ap is_word_shape h ∙ keyword_shape k)
Spells-shape (kind.Number z) w h = inr (inl (number_is_shaped w h.0 h.2))
Spells-shape (kind.Mark m) w h = inr (inr (m, h))
Spells-shape kind.End w h = absurd h

pub no_number_word : (w : List ℕ) → is_word_shape w ≡ true → is_number_shape w ≡ true → ⊥
no_number_word [] h k = false≢true h
no_number_word (b ∷ w) h k = digit_starts_no_word b (and_parts _ _ h).0 (and_parts _ _ k).0

no_mark_word : (w : List ℕ) (m : Mark) → is_word_shape w ≡ true → w ≡ mark_bytes m → ⊥
no_mark_word [] m h e = false≢true h
no_mark_word (b ∷ w) m h e = false≢true (sym (mark_bytes-no_word m b w e) ∙ (and_parts _ _ h).0)

pub no_mark_number : (w : List ℕ) (m : Mark) → is_number_shape w ≡ true → w ≡ mark_bytes m → ⊥
no_mark_number [] m h e = false≢true h
no_mark_number (b ∷ w) m h e = false≢true (sym (mark_bytes-no_digit m b w e) ∙ (and_parts _ _ h).0)

-- bytes spell one kind of token at most
pub Spells-unique : (a b : TokenKind) (w : List ℕ) → Spells a w → Spells b w → a ≡ b
Spells-unique (kind.Word m) (kind.Word n) w h k = ap kind.Word (h.0 ∙ sym k.0)
Spells-unique (kind.Word m) (kind.Keyword n) w h k = absurd (h.2 n (sym k))
Spells-unique (kind.Word m) (kind.Number n) w h k = absurd (no_number_word w h.1 (number_is_shaped w k.0 k.2))
Spells-unique (kind.Word m) (kind.Mark n) w h k = absurd (no_mark_word w n h.1 k)
Spells-unique (kind.Word m) kind.End w h k = absurd k
Spells-unique (kind.Keyword m) (kind.Word n) w h k = absurd (k.2 m (sym h))
Spells-unique (kind.Keyword m) (kind.Keyword n) w h k = ap kind.Keyword (keyword_bytes-same m n (sym h ∙ k))
Spells-unique (kind.Keyword m) (kind.Number n) w h k = absurd (no_number_word w (ap is_word_shape h ∙ keyword_shape m) (number_is_shaped w k.0 k.2))
Spells-unique (kind.Keyword m) (kind.Mark n) w h k = absurd (no_mark_word w n (ap is_word_shape h ∙ keyword_shape m) k)
Spells-unique (kind.Keyword m) kind.End w h k = absurd k
Spells-unique (kind.Number m) (kind.Word n) w h k = absurd (no_number_word w k.1 (number_is_shaped w h.0 h.2))
Spells-unique (kind.Number m) (kind.Keyword n) w h k = absurd (no_number_word w (ap is_word_shape k ∙ keyword_shape n) (number_is_shaped w h.0 h.2))
Spells-unique (kind.Number m) (kind.Number n) w h k =
    let one : Some h.0 ≡ Some k.0 = sym h.2 ∙ k.2 in
    let same : h.0 ≡ k.0 = cc in
    ap kind.Number (h.1 ∙ ap pos same ∙ sym k.1)
Spells-unique (kind.Number m) (kind.Mark n) w h k = absurd (no_mark_number w n (number_is_shaped w h.0 h.2) k)
Spells-unique (kind.Number m) kind.End w h k = absurd k
Spells-unique (kind.Mark m) (kind.Word n) w h k = absurd (no_mark_word w m k.1 h)
Spells-unique (kind.Mark m) (kind.Keyword n) w h k = absurd (no_mark_word w m (ap is_word_shape k ∙ keyword_shape n) h)
Spells-unique (kind.Mark m) (kind.Number n) w h k = absurd (no_mark_number w m (number_is_shaped w k.0 k.2) h)
Spells-unique (kind.Mark m) (kind.Mark n) w h k = ap kind.Mark (mark_bytes-same m n (sym h ∙ k))
Spells-unique (kind.Mark m) kind.End w h k = absurd k
Spells-unique kind.End b w h k = absurd h

-- ---- one piece stands at a place

pub no_mark_empty : (m : Mark) → [] ≡ mark_bytes m → ⊥
no_mark_empty m e = let k : 0 < length (mark_bytes m) = mark_bytes-some m in let l = ap length e in absurd (omega arith)

-- two pieces that stand at the front of the same bytes are one
pub record IsOne (p q : Piece) (x y : List ℕ) : Type 0 where
  pub piece : p ≡ q
  pub rest : x ≡ y

lexemes_same : (k l : TokenKind) (a b x y : List ℕ) → Spells k a → Spells l b → IsLongest a x → IsLongest b y → a ++ x ≡ b ++ y → IsOne (Lexeme k a) (Lexeme l b) x y
lexemes_same k l a b x y h g longest_a longest_b e =
    fronts a b x y e
    (λ more some p q. absurd (longest_a more y q some (subst HasShape p (Spells-shape l b g))))
    (λ more some p q. absurd (longest_b more x q some (subst HasShape p (Spells-shape k a h))))
    (λ p q. record { piece = same p; rest = q })
  where
    same : a ≡ b → Lexeme k a ≡ Lexeme l b
    same p =
        let one : k ≡ l = Spells-unique k l b (subst (λ (w : List ℕ). Spells k w) p h) g in
        ap (λ kind. Lexeme kind a) one ∙ ap (Lexeme l) p

word_start_no_blank : (b : ℕ) → is_word_start b ≡ true → is_blank b ≡ true → ⊥
word_start_no_blank b h k = grind (arith, nat_tests)

digit_no_blank : (b : ℕ) → is_ascii_digit b ≡ true → is_blank b ≡ true → ⊥
digit_no_blank b h k = grind (arith, nat_tests)

-- what has the shape of a token does not begin as a blank or as `#` does
shape_no_blank : (w x : List ℕ) (b : ℕ) (rest : List ℕ) → HasShape w → w ++ x ≡ b ∷ rest → is_blank b ≡ true → ⊥
shape_no_blank [] x b rest shape e h = ⊎_elim (λ k. false≢true k) (λ other. ⊎_elim (λ k. false≢true k) (λ mark. no_mark_empty mark.0 mark.1) other) shape
shape_no_blank (c ∷ w) x b rest shape e h =
    let same : c ≡ b = cc in
    let blank : is_blank c ≡ true = ap is_blank same ∙ h in
    ⊎_elim (λ k. word_start_no_blank c (and_parts _ _ k).0 blank)
    (λ other. ⊎_elim (λ k. digit_no_blank c (and_parts _ _ k).0 blank) (λ mark. false≢true (sym (mark_bytes-no_blank mark.0 c w mark.1) ∙ blank)) other) shape

shape_no_hash : (w x rest : List ℕ) → HasShape w → w ++ x ≡ 35 ∷ rest → ⊥
shape_no_hash [] x rest shape e = ⊎_elim (λ k. false≢true k) (λ other. ⊎_elim (λ k. false≢true k) (λ mark. no_mark_empty mark.0 mark.1) other) shape
shape_no_hash (c ∷ w) x rest shape e =
    let same : c ≡ 35 = cc in
    ⊎_elim (λ k. false≢true (sym (ap is_word_start same) ∙ (and_parts _ _ k).0))
    (λ other. ⊎_elim (λ k. false≢true (sym (ap is_ascii_digit same) ∙ (and_parts _ _ k).0)) (λ mark. false≢true (sym (mark_bytes-no_hash mark.0 c w mark.1) ∙ ap (λ b. b == 35) same)) other) shape

two_bytes : (c d : ℕ) → c ≡ 42 → d ≡ 47 → c ∷ d ∷ [] ≡ codes "*/"
two_bytes c d e f = rw (e, f) refl

-- a comment's end does not stand in a body that has none
no_end_in : (a b more x y : List ℕ) → more ≢ [] → b ≡ a ++ more → 42 ∷ 47 ∷ x ≡ more ++ (42 ∷ 47 ∷ y) → NeverEnds b → ⊥
no_end_in a b [] x y some p q never = some refl
no_end_in a b (c ∷ []) x y some p q never = false≢true (sym (ap (λ (w : List ℕ). get_or w 1 0 == 47) q))
no_end_in a b (c ∷ d ∷ more) x y some p q never =
    never (length a)
    (ap (λ w. take 2 (drop (length a) w)) p ∙ ap (take 2) (drop-append_seam a (c ∷ d ∷ more)) ∙ two_bytes c d (sym (ap (λ w. get_or w 0 0) q)) (sym (ap (λ w. get_or w 1 0) q)))

block_comments_same : (a b x y : List ℕ) → NeverEnds a → NeverEnds b → a ++ (42 ∷ 47 ∷ x) ≡ b ++ (42 ∷ 47 ∷ y) → (a ≡ b) × (x ≡ y)
block_comments_same a b x y never_a never_b e =
    fronts a b (42 ∷ 47 ∷ x) (42 ∷ 47 ∷ y) e
    (λ more some p q. absurd (no_end_in a b more x y some p q never_b))
    (λ more some p q. absurd (no_end_in b a more y x some p q never_a))
    (λ p q. (p, ap (drop 2) q))

any_after : (p : ℕ → Bool) (a : List ℕ) (m : ℕ) (more : List ℕ) → p m ≡ true → list_any p (a ++ m ∷ more) ≡ true
any_after p [] m more h = rw h refl
any_after p (c ∷ a) m more h = rw (any_after p a m more h) (or_true (p c))
  where
    or_true : (b : Bool) → b || true ≡ true
    or_true true = refl
    or_true false = refl

lines_same : (a b x y : List ℕ) → no_newline a ≡ true → no_newline b ≡ true → EndsLine x → EndsLine y → a ++ x ≡ b ++ y → (a ≡ b) × (x ≡ y)
lines_same a b x y no_a no_b ends_x ends_y e =
    fronts a b x y e
    (λ more some p q. absurd (newline_in a b more x y some p q no_b ends_x))
    (λ more some p q. absurd (newline_in b a more y x some p q no_a ends_y))
    (λ p q. (p, q))
  where
    is_end : (t : Bool) → not (not t) ≡ true → t ≡ true
    is_end true h = refl
    is_end false h = h

    not_true : (t : Bool) → t ≡ true → not t ≡ true → ⊥
    not_true true h k = false≢true k
    not_true false h k = false≢true h

    newline_in : (a b more x y : List ℕ) → more ≢ [] → b ≡ a ++ more → x ≡ more ++ y → no_newline b ≡ true → EndsLine x → ⊥
    newline_in a b [] x y some p q no_b ends = some refl
    newline_in a b (m ∷ more) x y some p q no_b ends =
        let newline : is_newline m ≡ true = is_end (is_newline m) (sym (ap (λ w. not (begins_with (λ b. not (is_newline b)) w)) q) ∙ ends) in
        not_true (list_any is_newline (a ++ m ∷ more)) (any_after is_newline a m more newline) (sym (ap (λ w. not (list_any is_newline w)) p) ∙ no_b)

blanks_same : (ba bb u v : List ℕ) (p : ℕ → Bool) → list_all p ba ≡ true → list_all p bb ≡ true → p 105 ≡ false → ba ++ (105 ∷ u) ≡ bb ++ (105 ∷ v) → (ba ≡ bb) × (u ≡ v)
blanks_same ba bb u v p h g i e =
    fronts ba bb (105 ∷ u) (105 ∷ v) e
    (λ more some q r. absurd (word_in ba bb more u v some q r g))
    (λ more some q r. absurd (word_in bb ba more v u some q r h))
    (λ q r. (q, (let s : u ≡ v = cc in s)))
  where
    word_in : (a b more u v : List ℕ) → more ≢ [] → b ≡ a ++ more → 105 ∷ u ≡ more ++ (105 ∷ v) → list_all p b ≡ true → ⊥
    word_in a b [] u v some q r k = some refl
    word_in a b (m ∷ more) u v some q r k =
        let first : m ≡ 105 = cc in
        false≢true (sym (ap p first ∙ i) ∙ passes_after p a m more (sym (ap (list_all p) q) ∙ k))

-- ---- the pieces of different sorts

first_passes : (p : ℕ → Bool) (bytes : List ℕ) → begins_with p bytes ≡ true → ((b : ℕ) (rest : List ℕ) → bytes ≡ b ∷ rest → p b ≡ true → ⊥) → ⊥
first_passes p [] h never = false≢true h
first_passes p (b ∷ rest) h never = never b rest refl h

pub not_true : (t : Bool) → (t ≡ true → ⊥) → t ≡ false
not_true true never = absurd (never refl)
not_true false never = refl

pub neither : (u v : Bool) → not (u || v) ≡ true → (u ≡ false) × (v ≡ false)
neither true v h = absurd (false≢true h)
neither false true h = absurd (false≢true h)
neither false false h = (refl, refl)

-- which sort of piece may stand at the front
abbrev pub sort_at : List ℕ → ℕ
sort_at bytes =
    if begins_with is_blank bytes then 0
    else if starts_with nat_eq bytes (codes "/*") then 1
    else if starts_with nat_eq bytes (codes "//") then 2
    else if begins_with (λ b. b == 35) bytes then 3 else 4

abbrev pub sort_of : Piece → ℕ
sort_of (Blank byte) = 0
sort_of (BlockComment body) = 1
sort_of (LineComment body) = 2
sort_of (SkippedLine blanks body) = 3
sort_of (Lexeme kind spelling) = 4

pub lexeme_sort : (w x : List ℕ) → HasShape w → not (begins_comment (w ++ x)) ≡ true → sort_at (w ++ x) ≡ 4
lexeme_sort w x shape open_text =
    let comment = neither (starts_with nat_eq (w ++ x) (codes "/*")) (starts_with nat_eq (w ++ x) (codes "//")) open_text in
    rw (
      not_true (begins_with is_blank (w ++ x)) (λ h. first_passes is_blank (w ++ x) h (λ b rest e k. shape_no_blank w x b rest shape e k)),
      comment.0,
      comment.1,
      not_true (begins_with (λ b. b == 35) (w ++ x)) (λ h. first_passes (λ b. b == 35) (w ++ x) h
          (λ b rest e k. shape_no_hash w x rest shape (e ∙ ap (λ c. c ∷ rest) (eqb-true b 35 k)))),
    ) refl

pub Stands-sort : (fresh : Bool) (bytes : List ℕ) (p : Piece) → Stands fresh bytes p → sort_at bytes ≡ sort_of p
Stands-sort fresh bytes (Blank a) s = rw (s.whole, s.fits) refl
Stands-sort fresh bytes (BlockComment body) s = ap sort_at s.whole
Stands-sort fresh bytes (LineComment body) s = ap sort_at s.whole
Stands-sort fresh bytes (SkippedLine blanks body) s = ap sort_at s.whole
Stands-sort fresh bytes (Lexeme kind w) s = ap sort_at s.whole ∙ lexeme_sort w s.rest (Spells-shape kind w s.fits.0) s.fits.2

pub other_sort : {C : Type 0} (m n : ℕ) → nat_eq m n ≡ false → m ≡ n → C
other_sort m n h e = absurd (false≢true (sym (ap (λ k. nat_eq m k) e ∙ h) ∙ same m))
  where
    same : (n : ℕ) → nat_eq n n ≡ true
    same n = grind (arith, nat_tests)

-- ---- by cases on both

pub block_bytes : (bytes body x : List ℕ) → bytes ≡ 47 ∷ 42 ∷ ((body ++ (42 ∷ 47 ∷ [])) ++ x) → drop 2 bytes ≡ body ++ (42 ∷ 47 ∷ x)
block_bytes bytes body x e = ap (drop 2) e ∙ append_assoc body (42 ∷ 47 ∷ []) x

line_bytes : (bytes a b x : List ℕ) → bytes ≡ 35 ∷ (((a ++ codes "include") ++ b) ++ x) → drop 1 bytes ≡ a ++ (105 ∷ (codes "nclude" ++ (b ++ x)))
line_bytes bytes a b x e = ap (drop 1) e ∙ append_assoc (a ++ codes "include") b x ∙ append_assoc a (codes "include") (b ++ x)

pub Stands-unique : (fresh : Bool) (bytes : List ℕ) (p q : Piece) (s : Stands fresh bytes p) (t : Stands fresh bytes q) → IsOne p q s.rest t.rest
Stands-unique fresh bytes (Blank a) (Blank b) s t = let e : a ∷ s.rest ≡ b ∷ t.rest = sym s.whole ∙ t.whole in record { piece = ap Blank (ap (λ w. get_or w 0 0) e); rest = ap (drop 1) e }
Stands-unique fresh bytes (BlockComment a) (BlockComment b) s t =
    let same = block_comments_same a b s.rest t.rest s.fits t.fits (sym (block_bytes bytes a s.rest s.whole) ∙ block_bytes bytes b t.rest t.whole) in
    record { piece = ap BlockComment same.0; rest = same.1 }
Stands-unique fresh bytes (LineComment a) (LineComment b) s t =
    let same = lines_same a b s.rest t.rest s.fits.0 t.fits.0 s.fits.1 t.fits.1 (ap (drop 2) (sym s.whole ∙ t.whole)) in
    record { piece = ap LineComment same.0; rest = same.1 }
Stands-unique fresh bytes (SkippedLine a b) (SkippedLine c d) s t =
    let blanks = blanks_same a c (codes "nclude" ++ (b ++ s.rest)) (codes "nclude" ++ (d ++ t.rest)) (λ b. is_blank b && not (is_newline b)) s.fits.1 t.fits.1 refl
    (sym (line_bytes bytes a b s.rest s.whole) ∙ line_bytes bytes c d t.rest t.whole) in
    let lines = lines_same b d s.rest t.rest s.fits.2 t.fits.2 s.fits.3 t.fits.3 (ap (drop 6) blanks.1) in
    record { piece = ap (λ w. SkippedLine w b) blanks.0 ∙ ap (SkippedLine c) lines.0; rest = lines.1 }
Stands-unique fresh bytes (Lexeme k a) (Lexeme l b) s t = lexemes_same k l a b s.rest t.rest s.fits.0 t.fits.0 s.fits.1 t.fits.1 (sym s.whole ∙ t.whole)
Stands-unique fresh bytes (Blank a) (BlockComment b) s t = other_sort 0 1 refl (sym (Stands-sort fresh bytes (Blank a) s) ∙ Stands-sort fresh bytes (BlockComment b) t)
Stands-unique fresh bytes (Blank a) (LineComment b) s t = other_sort 0 2 refl (sym (Stands-sort fresh bytes (Blank a) s) ∙ Stands-sort fresh bytes (LineComment b) t)
Stands-unique fresh bytes (Blank a) (SkippedLine b d) s t = other_sort 0 3 refl (sym (Stands-sort fresh bytes (Blank a) s) ∙ Stands-sort fresh bytes (SkippedLine b d) t)
Stands-unique fresh bytes (Blank a) (Lexeme l b) s t = other_sort 0 4 refl (sym (Stands-sort fresh bytes (Blank a) s) ∙ Stands-sort fresh bytes (Lexeme l b) t)
Stands-unique fresh bytes (BlockComment a) (Blank b) s t = other_sort 1 0 refl (sym (Stands-sort fresh bytes (BlockComment a) s) ∙ Stands-sort fresh bytes (Blank b) t)
Stands-unique fresh bytes (BlockComment a) (LineComment b) s t = other_sort 1 2 refl (sym (Stands-sort fresh bytes (BlockComment a) s) ∙ Stands-sort fresh bytes (LineComment b) t)
Stands-unique fresh bytes (BlockComment a) (SkippedLine b d) s t = other_sort 1 3 refl (sym (Stands-sort fresh bytes (BlockComment a) s) ∙ Stands-sort fresh bytes (SkippedLine b d) t)
Stands-unique fresh bytes (BlockComment a) (Lexeme l b) s t = other_sort 1 4 refl (sym (Stands-sort fresh bytes (BlockComment a) s) ∙ Stands-sort fresh bytes (Lexeme l b) t)
Stands-unique fresh bytes (LineComment a) (Blank b) s t = other_sort 2 0 refl (sym (Stands-sort fresh bytes (LineComment a) s) ∙ Stands-sort fresh bytes (Blank b) t)
Stands-unique fresh bytes (LineComment a) (BlockComment b) s t = other_sort 2 1 refl (sym (Stands-sort fresh bytes (LineComment a) s) ∙ Stands-sort fresh bytes (BlockComment b) t)
Stands-unique fresh bytes (LineComment a) (SkippedLine b d) s t = other_sort 2 3 refl (sym (Stands-sort fresh bytes (LineComment a) s) ∙ Stands-sort fresh bytes (SkippedLine b d) t)
Stands-unique fresh bytes (LineComment a) (Lexeme l b) s t = other_sort 2 4 refl (sym (Stands-sort fresh bytes (LineComment a) s) ∙ Stands-sort fresh bytes (Lexeme l b) t)
Stands-unique fresh bytes (SkippedLine a c) (Blank b) s t = other_sort 3 0 refl (sym (Stands-sort fresh bytes (SkippedLine a c) s) ∙ Stands-sort fresh bytes (Blank b) t)
Stands-unique fresh bytes (SkippedLine a c) (BlockComment b) s t = other_sort 3 1 refl (sym (Stands-sort fresh bytes (SkippedLine a c) s) ∙ Stands-sort fresh bytes (BlockComment b) t)
Stands-unique fresh bytes (SkippedLine a c) (LineComment b) s t = other_sort 3 2 refl (sym (Stands-sort fresh bytes (SkippedLine a c) s) ∙ Stands-sort fresh bytes (LineComment b) t)
Stands-unique fresh bytes (SkippedLine a c) (Lexeme l b) s t = other_sort 3 4 refl (sym (Stands-sort fresh bytes (SkippedLine a c) s) ∙ Stands-sort fresh bytes (Lexeme l b) t)
Stands-unique fresh bytes (Lexeme k a) (Blank b) s t = other_sort 4 0 refl (sym (Stands-sort fresh bytes (Lexeme k a) s) ∙ Stands-sort fresh bytes (Blank b) t)
Stands-unique fresh bytes (Lexeme k a) (BlockComment b) s t = other_sort 4 1 refl (sym (Stands-sort fresh bytes (Lexeme k a) s) ∙ Stands-sort fresh bytes (BlockComment b) t)
Stands-unique fresh bytes (Lexeme k a) (LineComment b) s t = other_sort 4 2 refl (sym (Stands-sort fresh bytes (Lexeme k a) s) ∙ Stands-sort fresh bytes (LineComment b) t)
Stands-unique fresh bytes (Lexeme k a) (SkippedLine b d) s t = other_sort 4 3 refl (sym (Stands-sort fresh bytes (Lexeme k a) s) ∙ Stands-sort fresh bytes (SkippedLine b d) t)
