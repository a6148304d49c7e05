-- What the scanner finds between tokens.
use Rattle.std.proofs.Common.{◌≡◌, ◌≢◌, ℕ, suc, ◌+◌, ◌-◌, ◌<◌, ◌≤◌, min, Bool, true, false, not, List, [], ◌∷◌, ◌++◌, length, take, drop, refl, sym, ap, subst, ◌∙◌, arith, append_assoc, length-append, length-drop, drop-drop, take-take}
use Rattle.std.specs.Prelude.{Option, None, Some, MatchOption, ◌&&◌, ◌||◌, nat_eq, codes}
use Rattle.std.specs.List.{list_all, list_any, prefix_len, starts_with}
use Rattle.std.proofs.lemmas.Bool.{false≢true}
use Rattle.std.proofs.lemmas.List.{take-append-drop, length-take, length-take-le, drop-take}
use Rattle.std.proofs.lemmas.List.Folds.{length-prefix_len}
use Rattle.c_lexer.specs.Bytes.{is_blank, is_newline, begins_with}
use Rattle.c_lexer.specs.Pieces.{Blank, BlockComment, LineComment, SkippedLine, EndsComment, NeverEnds, EndsLine, no_newline, Stands}
use Rattle.c_lexer.specs.Found.{Tells}
use Rattle.c_lexer.specs.declared.piece.FoundPiece.{FoundPiece}
use Rattle.c_lexer.specs.declared.piece.FoundPiece.TheVariants.{Space}
use Rattle.std.proofs.Math.Seq.{drop-append_seam}
use Rattle.c_lexer.proofs.Finds.{and_parts}
use Rattle.c_lexer.proofs.Lexemes.{true_starts_with}
use Rattle.c_lexer.proofs.Shapes.{run_passes, run_stops}

-- ---- lines

passing_has_none : (xs : List ℕ) → list_all (λ b. not (is_newline b)) xs ≡ true → not (list_any is_newline xs) ≡ true
passing_has_none [] h = refl
passing_has_none (x ∷ xs) h = step (is_newline x) (passing_has_none xs) h
  where
    step : (t : Bool) → (list_all (λ b. not (is_newline b)) xs ≡ true → not (list_any is_newline xs) ≡ true) → not t && list_all (λ b. not (is_newline b)) xs ≡ true → not (t || list_any is_newline xs) ≡ true
    step true more h = absurd (false≢true h)
    step false more h = more h

-- the rest of the line
abbrev pub line_of : List ℕ → List ℕ
line_of bytes = take (prefix_len (λ b. not (is_newline b)) bytes) bytes

abbrev pub lines_after : List ℕ → List ℕ
lines_after bytes = drop (prefix_len (λ b. not (is_newline b)) bytes) bytes

no_newline-line_of : (bytes : List ℕ) → no_newline (line_of bytes) ≡ true
no_newline-line_of bytes = passing_has_none (line_of bytes) (run_passes (λ b. not (is_newline b)) bytes)

EndsLine-lines_after : (bytes : List ℕ) → EndsLine (lines_after bytes)
EndsLine-lines_after bytes = at (lines_after bytes) refl
  where
    at : (rest : List ℕ) → lines_after bytes ≡ rest → not (begins_with (λ b. not (is_newline b)) rest) ≡ true
    at [] e = refl
    at (b ∷ later) e = ap not (run_stops (λ b. not (is_newline b)) bytes b later e)

-- ---- pieces

blank_tells : (fresh : Bool) (b : ℕ) (bytes : List ℕ) → is_blank b ≡ true → Tells fresh (b ∷ bytes) (Space 1 (is_newline b))
blank_tells fresh b bytes h = (Blank b, record { rest = bytes; whole = refl; fits = h }, tt, refl, refl)

or_false : (b : Bool) → b ≡ b || false
or_false true = refl
or_false false = refl

pub line_comment_tells : (fresh : Bool) (bytes behind : List ℕ) → bytes ≡ codes "//" ++ behind → Tells fresh bytes (Space (2 + prefix_len (λ b. not (is_newline b)) behind) false)
line_comment_tells fresh bytes behind e = (
  LineComment (line_of behind),
  record {
    rest = lines_after behind;
    whole = e ∙ ap (λ xs. 47 ∷ 47 ∷ xs) (sym (take-append-drop (prefix_len (λ b. not (is_newline b)) behind) behind));
    fits = (no_newline-line_of behind, EndsLine-lines_after behind);
  },
  tt,
  (let k = length-prefix_len (λ b. not (is_newline b)) behind in omega (arith, k)),
  or_false fresh,
)

-- where a comment ends there are two bytes more
ends_within : (n : ℕ) (behind : List ℕ) → EndsComment behind n → n + 2 ≤ length behind
ends_within n behind ends =
    let k : min 2 (length (drop n behind)) ≡ 2 = sym (length-take 2 (drop n behind)) ∙ ap length ends in
    let l : length (drop n behind) ≡ length behind - n = length-drop n behind in
    omega (arith, k, l)

split_at_end : (n : ℕ) (behind : List ℕ) → EndsComment behind n → behind ≡ take n behind ++ codes "*/" ++ drop (n + 2) behind
split_at_end n behind ends =
    sym (take-append-drop n behind)
    ∙ ap (λ xs. take n behind ++ xs) (sym (take-append-drop 2 (drop n behind)) ∙ ap (λ xs. xs ++ drop 2 (drop n behind)) ends ∙ ap (λ xs. codes "*/" ++ xs) (drop-drop 2 n behind))
    ∙ sym (append_assoc (take n behind) (codes "*/") (drop (n + 2) behind))

-- in front of the first end there is none
never_ends : (n : ℕ) (behind : List ℕ) → n + 2 ≤ length behind → ((at : ℕ) → at < n → ¬ EndsComment behind at) → NeverEnds (take n behind)
never_ends n behind within first at ends =
    let k : at + 2 ≤ length (take n behind) = ends_within at (take n behind) ends in
    let l : length (take n behind) ≡ n = length-take-le n behind (omega arith) in
    first at (omega arith) (ends_earlier (n - at) (omega arith) (omega arith))
  where
    ends_earlier : (m : ℕ) → at + m ≡ n → 2 ≤ m → EndsComment behind at
    ends_earlier m e two =
        sym (take-take 2 m (drop at behind) two) ∙ ap (take 2) (sym (drop-take at m behind)) ∙ ap (λ k. take 2 (drop at (take k behind))) e ∙ ends

pub block_comment_tells : (fresh : Bool) (n : ℕ) (bytes behind : List ℕ) → bytes ≡ codes "/*" ++ behind → EndsComment behind n → ((at : ℕ) → at < n → ¬ EndsComment behind at)
    → Tells fresh bytes (Space (n + 4) (list_any is_newline (take n behind)))
block_comment_tells fresh n bytes behind e ends first = (
  BlockComment (take n behind),
  record { rest = drop (n + 2) behind; whole = e ∙ ap (λ xs. 47 ∷ 42 ∷ xs) (split_at_end n behind ends); fits = never_ends n behind (ends_within n behind ends) first },
  tt,
  (let within : n + 2 ≤ length behind = ends_within n behind ends in
      let k : length (take n behind) ≡ n = length-take-le n behind (omega arith) in
      let l = length-append (take n behind) (codes "*/") in omega (arith, k, l)),
  refl,
)

pub skipped_line_tells : (k : ℕ) (bytes behind after : List ℕ) → bytes ≡ 35 ∷ behind → k ≡ prefix_len (λ b. is_blank b && not (is_newline b)) behind → drop k behind ≡ codes "include" ++ after
    → Tells true bytes (Space (k + 8 + prefix_len (λ b. not (is_newline b)) after) false)
skipped_line_tells k bytes behind after e f g = (
  SkippedLine (take k behind) (line_of after),
  record {
    rest = lines_after after;
    whole = e ∙ ap (λ xs. 35 ∷ xs) split;
    fits = (refl, (rw f (run_passes (λ b. is_blank b && not (is_newline b)) behind)), no_newline-line_of after, EndsLine-lines_after after);
  },
  tt,
  lengths,
  refl,
)
  where
    split : behind ≡ take k behind ++ codes "include" ++ line_of after ++ lines_after after
    split =
        sym (take-append-drop k behind) ∙ ap (λ xs. take k behind ++ xs) (g ∙ ap (λ xs. codes "include" ++ xs) (sym (take-append-drop (prefix_len (λ b. not (is_newline b)) after) after)))
        ∙ sym (append_assoc (take k behind) (codes "include") (line_of after ++ lines_after after))
        ∙ sym (append_assoc (take k behind ++ codes "include") (line_of after) (lines_after after))

    lengths : suc (length (take k behind ++ codes "include" ++ line_of after)) ≡ k + 8 + prefix_len (λ b. not (is_newline b)) after
    lengths =
        let a = length-append (take k behind ++ codes "include") (line_of after) in
        let b = length-append (take k behind) (codes "include") in
        let c : length (take k behind) ≡ k = ap (λ n. length (take n behind)) f ∙ length-prefix_len (λ b. is_blank b && not (is_newline b)) behind ∙ sym f in
        let d = length-prefix_len (λ b. not (is_newline b)) after in
        omega (arith, a, b, c, d)

-- the same of bytes that begin with a blank
pub blank_at : (fresh : Bool) (bytes : List ℕ) → begins_with is_blank bytes ≡ true → Tells fresh bytes (Space 1 (begins_with is_newline bytes))
blank_at fresh [] h = absurd (false≢true h)
blank_at fresh (b ∷ bytes) h = blank_tells fresh b bytes h

-- ---- no skipped line

-- none begins behind a token of its line
pub no_line_in_line : (bytes blanks body : List ℕ) → Stands false bytes (SkippedLine blanks body) → ⊥
no_line_in_line bytes blanks body stands = false≢true stands.fits.0

-- none begins with another byte than `#`
pub no_line_without_mark : (fresh : Bool) (bytes blanks body : List ℕ) → starts_with nat_eq bytes (codes "#") ≡ false → Stands fresh bytes (SkippedLine blanks body) → ⊥
no_line_without_mark fresh bytes blanks body none stands =
    false≢true (sym none ∙ true_starts_with bytes (codes "#") (blanks ++ codes "include" ++ body ++ stands.rest) stands.whole)

prefix_len-all : (p : ℕ → Bool) (xs : List ℕ) (x : ℕ) (more : List ℕ) → list_all p xs ≡ true → p x ≡ false → prefix_len p (xs ++ x ∷ more) ≡ length xs
prefix_len-all p [] x more h k = rw k refl
prefix_len-all p (y ∷ ys) x more h k =
    let parts = and_parts (p y) (list_all p ys) h in rw parts.0 (let e = prefix_len-all p ys x more parts.1 k in omega (arith, e))

-- none begins where no `include` stands behind the blanks
pub no_line_without_word : (fresh : Bool) (bytes after_mark blanks body : List ℕ) → bytes ≡ 35 ∷ after_mark
    → ((after : List ℕ) → drop (prefix_len (λ b. is_blank b && not (is_newline b)) after_mark) after_mark ≢ codes "include" ++ after) → Stands fresh bytes (SkippedLine blanks body) → ⊥
no_line_without_word fresh bytes after_mark blanks body e none stands =
    none (body ++ stands.rest)
    (ap (λ n. drop n after_mark) run ∙ ap (drop (length blanks)) split ∙ drop-append_seam blanks (codes "include" ++ (body ++ stands.rest)))
  where
    joined : 35 ∷ after_mark ≡ 35 ∷ (blanks ++ codes "include" ++ body ++ stands.rest)
    joined = sym e ∙ stands.whole

    split : after_mark ≡ blanks ++ (codes "include" ++ (body ++ stands.rest))
    split =
        let tail : after_mark ≡ blanks ++ codes "include" ++ body ++ stands.rest = cc in
        tail ∙ append_assoc (blanks ++ codes "include") body stands.rest ∙ append_assoc blanks (codes "include") (body ++ stands.rest)

    run : prefix_len (λ b. is_blank b && not (is_newline b)) after_mark ≡ length blanks
    run = ap (prefix_len (λ b. is_blank b && not (is_newline b))) split ∙ prefix_len-all (λ b. is_blank b && not (is_newline b)) blanks 105 _ stands.fits.1 refl

-- whether a skipped line begins at a `#`
pub skipped_line_is : (fresh : Bool) (bytes after_mark : List ℕ) (found : Option FoundPiece) → fresh ≡ true → bytes ≡ 35 ∷ after_mark
    → MatchOption found ((after : List ℕ) → drop (prefix_len (λ b. is_blank b && not (is_newline b)) after_mark) after_mark ≢ codes "include" ++ after) (λ f. Tells true (35 ∷ after_mark) f)
    → MatchOption found ((blanks body : List ℕ) → ¬ Stands fresh bytes (SkippedLine blanks body)) (Tells fresh bytes)
skipped_line_is fresh bytes after_mark None f e none = λ blanks body. no_line_without_word fresh bytes after_mark blanks body e none
skipped_line_is fresh bytes after_mark (Some found) f e tells =
    let at : Bool → List ℕ → Type 0 = λ fresh bytes. Tells fresh bytes found in
    subst (λ (bytes : List ℕ). at fresh bytes) (sym e) (subst (λ (fresh : Bool). at fresh (35 ∷ after_mark)) (sym f) tells)
