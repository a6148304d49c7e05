-- Words and numbers go on as far as they can.
use Rattle.std.proofs.Common.{◌≡◌, ℕ, suc, ◌+◌, Bool, true, false, cond, List, [], ◌∷◌, ◌++◌, take, drop, refl, sym, ap, ◌∙◌, ⊎_elim, arith}
use Rattle.std.specs.Prelude.{◌&&◌, ◌||◌, ◌==◌}
use Rattle.std.specs.List.{list_all, prefix_len}
use Rattle.std.specs.Char.{is_ascii_digit}
use Rattle.std.specs.Int.{is_in_range}
use Rattle.std.proofs.lemmas.List.Folds.{list_all-append}
use Rattle.std.proofs.lemmas.Bool.{false≢true}
use Rattle.std.proofs.lemmas.Bool.Decides.{nat_tests}
use Rattle.c_lexer.specs.Bytes.{is_word_start, is_word_byte, is_number_byte}
use Rattle.c_lexer.specs.Kinds.{HasShape, is_word_shape}
use Rattle.c_lexer.specs.Pieces.{IsLongest}
use Rattle.syntax_tree.specs.Name.{is_name_byte}
use Rattle.c_lexer.proofs.Marks.{mark_bytes-no_word, mark_bytes-no_digit}

-- ---- runs of bytes that pass

take_next : (n x : ℕ) (xs : List ℕ) → take (1 + n) (x ∷ xs) ≡ x ∷ take n xs
take_next n x xs = let e : 1 + n ≡ suc n = omega arith in rw e refl

drop_next : (n x : ℕ) (xs : List ℕ) → drop (1 + n) (x ∷ xs) ≡ drop n xs
drop_next n x xs = let e : 1 + n ≡ suc n = omega arith in rw e refl

run_passes_step : (p : ℕ → Bool) (x n : ℕ) (xs : List ℕ) (b : Bool) → p x ≡ b → list_all p (take n xs) ≡ true → list_all p (take (cond b (1 + n) 0) (x ∷ xs)) ≡ true
run_passes_step p x n xs true e h = ap (list_all p) (take_next n x xs) ∙ rw (e, h) refl
run_passes_step p x n xs false e h = refl

pub run_passes : (p : ℕ → Bool) (xs : List ℕ) → list_all p (take (prefix_len p xs) xs) ≡ true
run_passes p [] = refl
run_passes p (x ∷ xs) = run_passes_step p x (prefix_len p xs) xs (p x) refl (run_passes p xs)

run_stops_step : (p : ℕ → Bool) (x n b : ℕ) (xs later : List ℕ) (t : Bool) → p x ≡ t → (drop n xs ≡ b ∷ later → p b ≡ false) → drop (cond t (1 + n) 0) (x ∷ xs) ≡ b ∷ later → p b ≡ false
run_stops_step p x n b xs later true q next e = next (sym (drop_next n x xs) ∙ e)
run_stops_step p x n b xs later false q next e = let same : x ≡ b = cc in ap p (sym same) ∙ q

pub run_stops : (p : ℕ → Bool) (xs : List ℕ) (b : ℕ) (later : List ℕ) → drop (prefix_len p xs) xs ≡ b ∷ later → p b ≡ false
run_stops p [] b later e = cc
run_stops p (x ∷ xs) b later e = run_stops_step p x (prefix_len p xs) b xs later (p x) refl (run_stops p xs b later) e

-- ---- a shape whose bytes all pass a test ends where a byte fails it

and_true : (a b : Bool) → a && b ≡ true → (a ≡ true) × (b ≡ true)
and_true true b e = (refl, e)
and_true false b e = absurd (false≢true e)

pub passes_after : (p : ℕ → Bool) (xs : List ℕ) (b : ℕ) (more : List ℕ) → list_all p (xs ++ b ∷ more) ≡ true → p b ≡ true
passes_after p xs b more h = (and_true (p b) (list_all p more) (and_true (list_all p xs) (list_all p (b ∷ more)) (sym (list_all-append p xs (b ∷ more)) ∙ h)).1).0

pub IsLongest-run : (p : ℕ → Bool) (bytes : List ℕ) → ((more : List ℕ) → HasShape (take (prefix_len p bytes) bytes ++ more) → list_all p (take (prefix_len p bytes) bytes ++ more) ≡ true)
    → IsLongest (take (prefix_len p bytes) bytes) (drop (prefix_len p bytes) bytes)
IsLongest-run p bytes all [] later e some shape = some refl
IsLongest-run p bytes all (b ∷ more) later e some shape =
    false≢true (sym (run_stops p bytes b (more ++ later) e) ∙ passes_after p (take (prefix_len p bytes) bytes) b more (all (b ∷ more) shape))

-- ---- words and numbers

one_more_class : (d a b u : Bool) → (a || b) || u ≡ true → ((d || a) || b) || u ≡ true
one_more_class true a b u h = refl
one_more_class false a b u h = h

pub word_start_passes : (b : ℕ) → is_word_start b ≡ true → is_word_byte b ≡ true
word_start_passes b h = one_more_class (is_in_range 48 57 b) (is_in_range 65 90 b) (is_in_range 97 122 b) (b == 95) h

first_class : (d a b u v : Bool) → d ≡ true → (((d || a) || b) || u) || v ≡ true
first_class true a b u v h = refl
first_class false a b u v h = absurd (false≢true h)

pub digit_passes : (b : ℕ) → is_ascii_digit b ≡ true → is_number_byte b ≡ true
digit_passes b h = first_class (is_in_range 48 57 b) (is_in_range 65 90 b) (is_in_range 97 122 b) (b == 95) (b == 46) h

pub digit_starts_no_word : (b : ℕ) → is_word_start b ≡ true → is_ascii_digit b ≡ true → ⊥
digit_starts_no_word b h k = grind (arith, nat_tests)

both : (a b : Bool) → a ≡ true → b ≡ true → a && b ≡ true
both a b p q = rw (p, q) refl

-- what has a shape and begins as a word does is a word
pub word_shape : (b : ℕ) (bytes : List ℕ) → is_word_start b ≡ true → HasShape (b ∷ bytes) → list_all is_word_byte (b ∷ bytes) ≡ true
word_shape b bytes h shape =
    ⊎_elim (λ word. both _ _ (word_start_passes b h) (and_true _ _ word).1)
    (λ other. ⊎_elim (λ number. absurd (digit_starts_no_word b h (and_true _ _ number).0))
    (λ mark. absurd (false≢true (sym (mark_bytes-no_word mark.0 b bytes mark.1) ∙ h))) other) shape

-- what has a shape and begins as a number does is a number
pub number_shape : (b : ℕ) (bytes : List ℕ) → is_ascii_digit b ≡ true → HasShape (b ∷ bytes) → list_all is_number_byte (b ∷ bytes) ≡ true
number_shape b bytes h shape =
    ⊎_elim (λ word. absurd (digit_starts_no_word b (and_true _ _ word).0 h))
    (λ other. ⊎_elim (λ number. both _ _ (digit_passes b h) (and_true _ _ number).1)
    (λ mark. absurd (false≢true (sym (mark_bytes-no_digit mark.0 b bytes mark.1) ∙ h))) other) shape

-- the bytes of a word may stand in a name
pub word_bytes : (w : List ℕ) → is_word_shape w ≡ true → list_all is_name_byte w ≡ true
word_bytes [] h = absurd (false≢true h)
word_bytes (b ∷ bytes) h = let parts = and_true _ _ h in both _ _ (word_start_passes b parts.0) parts.1
