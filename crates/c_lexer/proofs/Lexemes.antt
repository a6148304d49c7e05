-- What the scanner finds where a token begins.
use Rattle.std.proofs.Common.{◌≡◌, ◌≢◌, ℕ, suc, ◌+◌, ◌<◌, Bool, true, false, not, List, [], ◌∷◌, ◌++◌, length, take, drop, get_or, None, Some, find, refl, sym, ap, subst, ◌∙◌, ⊎_elim, arith, append_assoc, length-append}
use Rattle.std.specs.Prelude.{◌&&◌, ◌==◌, nat_eq}
use Rattle.std.specs.List.{list_all, prefix_len, starts_with}
use Rattle.std.specs.Char.{is_ascii_digit}
use Rattle.std.proofs.lemmas.Bool.{false≢true, eqb-true}
use Rattle.std.proofs.lemmas.Bool.Decides.{Decides-eqb}
use Rattle.std.proofs.lemmas.List.Sums.{prefix_len-le-length}
use Rattle.std.proofs.Math.Seq.{take-append_seam}
use Rattle.std.proofs.lemmas.Slice.Eq.{starts_is}
use Rattle.c_lexer.specs.declared.mark.Mark.{Mark}
use Rattle.c_lexer.specs.declared.mark.TheConstants.{MARKS}
use Rattle.c_lexer.specs.Bytes.{is_word_start, is_word_byte, is_number_byte, begins_with}
use Rattle.c_lexer.specs.Spellings.{mark_bytes}
use Rattle.c_lexer.specs.Kinds.{HasShape, is_word_shape, is_number_shape}
use Rattle.c_lexer.specs.Pieces.{begins_comment}
use Rattle.c_lexer.specs.Found.{IsLexeme}
use Rattle.c_lexer.proofs.Finds.{found_passes, missed_fails, longer_fails}
use Rattle.c_lexer.proofs.Marks.{in_marks, marks_descend, mark_bytes-some, mark_bytes-no_word, mark_bytes-no_digit}
use Rattle.c_lexer.proofs.Shapes.{IsLongest-run, run_passes, word_shape, number_shape, word_start_passes, digit_passes}

-- ---- fronts

pub starts_with_true : (bytes front : List ℕ) → starts_with nat_eq bytes front ≡ true → bytes ≡ front ++ drop (length front) bytes
starts_with_true bytes front h = (starts_is Decides-eqb bytes front (starts_with nat_eq bytes front) refl).0 h

pub true_starts_with : (bytes front rest : List ℕ) → bytes ≡ front ++ rest → starts_with nat_eq bytes front ≡ true
true_starts_with bytes front rest h = (starts_is Decides-eqb bytes front (starts_with nat_eq bytes front) refl).1 rest h

-- ---- a run that begins where a token does

no_slash : (p : ℕ → Bool) (b : ℕ) → p b ≡ true → p 47 ≡ false → (47 == b) ≡ false
no_slash p b h k = at (47 == b) refl
  where
    at : (t : Bool) → (47 == b) ≡ t → (47 == b) ≡ false
    at false e = e
    at true e = absurd (false≢true (sym k ∙ ap p (eqb-true 47 b e) ∙ h))

no_comment_begins : (b : ℕ) (bytes : List ℕ) → (47 == b) ≡ false → not (begins_comment (b ∷ bytes)) ≡ true
no_comment_begins b bytes e = rw e refl

run_step : (p : ℕ → Bool) (b : ℕ) (bytes : List ℕ) → p b ≡ true → prefix_len p (b ∷ bytes) ≡ suc (prefix_len p bytes)
run_step p b bytes e = rw e (omega arith)

run_lexeme : (p start : ℕ → Bool) → ((b : ℕ) → start b ≡ true → p b ≡ true) → ((b : ℕ) (bytes : List ℕ) → start b ≡ true → HasShape (b ∷ bytes) → list_all p (b ∷ bytes) ≡ true) → start 47 ≡ false
    → (b : ℕ) (bytes : List ℕ) → start b ≡ true → IsLexeme (b ∷ bytes) (prefix_len p (b ∷ bytes))
run_lexeme p start passes all slash b bytes h = record {
  some = let e = run_step p b bytes (passes b h) in omega (arith, e);
  within = prefix_len-le-length p (b ∷ bytes);
  longest = IsLongest-run p (b ∷ bytes) whole;
  open_text = no_comment_begins b bytes (no_slash start b h slash);
}
  where
    first : take (prefix_len p (b ∷ bytes)) (b ∷ bytes) ≡ b ∷ take (prefix_len p bytes) bytes
    first = ap (λ n. take n (b ∷ bytes)) (run_step p b bytes (passes b h))

    whole : (more : List ℕ) → HasShape (take (prefix_len p (b ∷ bytes)) (b ∷ bytes) ++ more) → list_all p (take (prefix_len p (b ∷ bytes)) (b ∷ bytes) ++ more) ≡ true
    whole more shape =
        let e = ap (λ w. w ++ more) first in
        ap (list_all p) e ∙ all b (take (prefix_len p bytes) bytes ++ more) h (subst HasShape e shape)

word_lexeme : (b : ℕ) (bytes : List ℕ) → is_word_start b ≡ true → IsLexeme (b ∷ bytes) (prefix_len is_word_byte (b ∷ bytes))
word_lexeme = run_lexeme is_word_byte is_word_start word_start_passes word_shape refl

number_lexeme : (b : ℕ) (bytes : List ℕ) → is_ascii_digit b ≡ true → IsLexeme (b ∷ bytes) (prefix_len is_number_byte (b ∷ bytes))
number_lexeme = run_lexeme is_number_byte is_ascii_digit digit_passes number_shape refl

and_true : (a b : Bool) → a && b ≡ true → (a ≡ true) × (b ≡ true)
and_true true b e = (refl, e)
and_true false b e = absurd (false≢true e)

both : (a b : Bool) → a ≡ true → b ≡ true → a && b ≡ true
both a b p q = rw (p, q) refl

word_run_shape : (b : ℕ) (bytes : List ℕ) → is_word_start b ≡ true → is_word_shape (take (prefix_len is_word_byte (b ∷ bytes)) (b ∷ bytes)) ≡ true
word_run_shape b bytes h =
    ap (λ n. is_word_shape (take n (b ∷ bytes))) (run_step is_word_byte b bytes (word_start_passes b h)) ∙ both _ _ h (run_passes is_word_byte bytes)

number_run_shape : (b : ℕ) (bytes : List ℕ) → is_ascii_digit b ≡ true → is_number_shape (take (prefix_len is_number_byte (b ∷ bytes)) (b ∷ bytes)) ≡ true
number_run_shape b bytes h =
    ap (λ n. is_number_shape (take n (b ∷ bytes))) (run_step is_number_byte b bytes (digit_passes b h)) ∙ both _ _ h (run_passes is_number_byte bytes)

-- the same of bytes that begin so
pub word_at : (bytes : List ℕ) (len : ℕ) → len ≡ prefix_len is_word_byte bytes → begins_with is_word_start bytes ≡ true → IsLexeme bytes len × (is_word_shape (take len bytes) ≡ true)
word_at [] len e h = absurd (false≢true h)
word_at (b ∷ bytes) len e h = (subst (IsLexeme (b ∷ bytes)) (sym e) (word_lexeme b bytes h), ap (λ n. is_word_shape (take n (b ∷ bytes))) e ∙ word_run_shape b bytes h)

pub number_at : (bytes : List ℕ) (len : ℕ) → len ≡ prefix_len is_number_byte bytes → begins_with is_ascii_digit bytes ≡ true → IsLexeme bytes len × (is_number_shape (take len bytes) ≡ true)
number_at [] len e h = absurd (false≢true h)
number_at (b ∷ bytes) len e h = (subst (IsLexeme (b ∷ bytes)) (sym e) (number_lexeme b bytes h), ap (λ n. is_number_shape (take n (b ∷ bytes))) e ∙ number_run_shape b bytes h)

-- ---- marks

no_word_in_mark : (m : Mark) (w more : List ℕ) → w ≡ mark_bytes m → is_word_shape (w ++ more) ≡ true → ⊥
no_word_in_mark m [] more e h = let k : 0 < length (mark_bytes m) = mark_bytes-some m in let l = ap length e in absurd (omega arith)
no_word_in_mark m (b ∷ w) more e h = false≢true (sym (mark_bytes-no_word m b w e) ∙ (and_true _ _ h).0)

no_number_in_mark : (m : Mark) (w more : List ℕ) → w ≡ mark_bytes m → is_number_shape (w ++ more) ≡ true → ⊥
no_number_in_mark m [] more e h = let k : 0 < length (mark_bytes m) = mark_bytes-some m in let l = ap length e in absurd (omega arith)
no_number_in_mark m (b ∷ w) more e h = false≢true (sym (mark_bytes-no_digit m b w e) ∙ (and_true _ _ h).0)

some_length : (more : List ℕ) → more ≢ [] → 0 < length more
some_length [] some = absurd (some refl)
some_length (b ∷ more) some = omega arith

-- the marks that stand at the front of the bytes
abbrev pub stands : List ℕ → Mark → Bool
stands bytes m = starts_with nat_eq bytes (mark_bytes m)

pub mark_front : (bytes : List ℕ) (m : Mark) → find (stands bytes) MARKS ≡ Some m → bytes ≡ mark_bytes m ++ drop (length (mark_bytes m)) bytes
mark_front bytes m found = starts_with_true bytes (mark_bytes m) (found_passes (stands bytes) MARKS m found)

pub mark_taken : (bytes : List ℕ) (m : Mark) → find (stands bytes) MARKS ≡ Some m → take (length (mark_bytes m)) bytes ≡ mark_bytes m
mark_taken bytes m found =
    ap (take (length (mark_bytes m))) (mark_front bytes m found) ∙ take-append_seam (mark_bytes m) (drop (length (mark_bytes m)) bytes)

no_longer_mark : (bytes : List ℕ) (m other : Mark) (more later : List ℕ) → find (stands bytes) MARKS ≡ Some m → drop (length (mark_bytes m)) bytes ≡ more ++ later → more ≢ []
    → mark_bytes m ++ more ≡ mark_bytes other → ⊥
no_longer_mark bytes m other more later found e some same =
    let k : 0 < length more = some_length more some in
    let l : length (mark_bytes m) + length more ≡ length (mark_bytes other) = sym (length-append (mark_bytes m) more) ∙ ap length same in
    let whole : bytes ≡ mark_bytes other ++ later =
    mark_front bytes m found ∙ ap (λ rest. mark_bytes m ++ rest) e ∙ sym (append_assoc (mark_bytes m) more later) ∙ ap (λ w. w ++ later) same in
    false≢true (sym (longer_fails (stands bytes) (λ m. length (mark_bytes m)) MARKS m other marks_descend found (in_marks other) (omega arith))
    ∙ true_starts_with bytes (mark_bytes other) later whole)

-- at the front of the bytes stands this mark, and none that is longer
pub mark_lexeme : (bytes : List ℕ) (m : Mark) → not (begins_comment bytes) ≡ true → find (stands bytes) MARKS ≡ Some m → IsLexeme bytes (length (mark_bytes m))
mark_lexeme bytes m open_text found = record {
  some = mark_bytes-some m;
  within = let e = ap length (mark_front bytes m found) ∙ length-append (mark_bytes m) (drop (length (mark_bytes m)) bytes) in omega (arith, e);
  longest = λ more later e some shape. no_shape more later e some (subst HasShape (ap (λ w. w ++ more) (mark_taken bytes m found)) shape);
  open_text = open_text;
}
  where
    no_shape : (more later : List ℕ) → drop (length (mark_bytes m)) bytes ≡ more ++ later → more ≢ [] → HasShape (mark_bytes m ++ more) → ⊥
    no_shape more later e some shape =
        ⊎_elim (λ word. no_word_in_mark m (mark_bytes m) more refl word)
        (λ other. ⊎_elim (λ number. no_number_in_mark m (mark_bytes m) more refl number)
        (λ mark. no_longer_mark bytes m mark.0 more later found e some mark.1) other) shape

-- ---- where nothing begins

-- no word, number or mark begins here
pub no_token_begins : (bytes front later : List ℕ) → begins_with is_word_start bytes ≡ false → begins_with is_ascii_digit bytes ≡ false → find (stands bytes) MARKS ≡ None
    → bytes ≡ front ++ later → HasShape front → ⊥
no_token_begins bytes [] later word digit missed e shape =
    ⊎_elim (λ h. false≢true h) (λ other. ⊎_elim (λ h. false≢true h) (λ mark. empty mark.0 mark.1) other) shape
  where
    empty : (m : Mark) → [] ≡ mark_bytes m → ⊥
    empty m e = let k : 0 < length (mark_bytes m) = mark_bytes-some m in let l = ap length e in absurd (omega arith)
no_token_begins bytes (c ∷ front) later word digit missed e shape =
    ⊎_elim (λ h. false≢true (sym word ∙ ap (begins_with is_word_start) e ∙ (and_true _ _ h).0))
    (λ other. ⊎_elim (λ h. false≢true (sym digit ∙ ap (begins_with is_ascii_digit) e ∙ (and_true _ _ h).0))
    (λ mark. false≢true (sym (missed_fails (stands bytes) MARKS mark.0 missed (in_marks mark.0))
    ∙ true_starts_with bytes (mark_bytes mark.0) later (e ∙ ap (λ w. w ++ later) mark.1))) other) shape

-- a test of the first byte
pub begins_with-first : (p : ℕ → Bool) (bytes : List ℕ) → 0 < length bytes → begins_with p bytes ≡ p (get_or bytes 0 0)
begins_with-first p [] some = absurd (omega arith)
begins_with-first p (b ∷ bytes) some = refl
