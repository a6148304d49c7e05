-- Slices of a text.
use Rattle.std.proofs.Common.{◌≡◌, ℕ, ◌-◌, true, refl, ap, ◌∙◌, [], ◌∷◌, List, length, take, drop, length-drop, arith}
use Rattle.std.specs.Prelude.{◌==◌}
use Rattle.std.specs.Str.{bytes_eq}
use Rattle.std.proofs.lemmas.Bool.{false≢true, eqb-true, eq-eqb}
use Rattle.c_lexer.proofs.Finds.{and_parts}
use Rattle.std.proofs.lemmas.List.{take_all}
use Rattle.std.proofs.lemmas.List.Sums.{prefix_len-le-length}

-- a slice from a place on is all that stands behind the place
pub take_drop_all : (xs : List ℕ) (at : ℕ) → take (length xs - at) (drop at xs) ≡ drop at xs
take_drop_all xs at = take_all (length xs - at) (drop at xs) (simp length-drop (omega arith))

-- a run at the front is no longer than what it stands in
pub ruleset runs = (prefix_len-le-length)

-- ---- the test of equality

pub bytes_eq-true : (a b : List ℕ) → bytes_eq a b ≡ true → a ≡ b
bytes_eq-true [] [] h = refl
bytes_eq-true [] (y ∷ ys) h = absurd (false≢true h)
bytes_eq-true (x ∷ xs) [] h = absurd (false≢true h)
bytes_eq-true (x ∷ xs) (y ∷ ys) h =
    let parts = and_parts (x == y) (bytes_eq xs ys) h in
    let first : x ≡ y = eqb-true x y parts.0 in
    let rest : xs ≡ ys = bytes_eq-true xs ys parts.1 in
    cc

bytes_eq-refl : (a : List ℕ) → bytes_eq a a ≡ true
bytes_eq-refl [] = refl
bytes_eq-refl (x ∷ xs) = rw (eq-eqb x x refl, bytes_eq-refl xs) refl

pub true-bytes_eq : (a b : List ℕ) → a ≡ b → bytes_eq a b ≡ true
true-bytes_eq a b e = ap (λ c. bytes_eq c b) e ∙ bytes_eq-refl b
