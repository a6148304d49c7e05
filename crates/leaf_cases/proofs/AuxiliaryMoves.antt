-- Auxiliaries moved up: the code's list of new numbers is the definition.
use Rattle.std.proofs.Common.{◌≡◌, ℕ, zero, suc, ◌+◌, ◌-◌, ◌<◌, ◌≤◌, true, false, length, List, [], ◌∷◌, ◌++◌, refl, sym, ap, subst, ◌∙◌, arith}
use Rattle.std.specs.Prelude.{IsTrue, slice_index}
use Rattle.std.specs.List.{list_all, range_with_len}
use Rattle.std.proofs.lemmas.List.FromFn.{get_or-range_with_len}
use Rattle.linear_terms.specs.Polynomial.{Polynomial}
use Rattle.linear_terms.specs.Auxiliaries.{occurs, renumbered_polynomial, is_numbered, KeepsOrder}
use Rattle.transition_formula.specs.Transition.{every_column}
use Rattle.transition_formula.proofs.ColumnTests.{both_true}
use Rattle.transition_formula.proofs.Loops.{or_left}
use Rattle.transition_formula.proofs.Numbers.{polynomial_agrees, post_occurs-below}

-- ---- the numbers from one on

pub length-range_with_len : (first count : ℕ) → length (range_with_len first count) ≡ count
length-range_with_len first zero = refl
length-range_with_len first (suc count) = ap suc (length-range_with_len (first + 1) count)

number_at : (first count : ℕ) (numbers : List ℕ) → numbers ≡ range_with_len first count → (n : ℕ) → n < count → slice_index numbers n ≡ first + n
number_at first count numbers e n lt = ap (λ l. slice_index l n) e ∙ get_or-range_with_len first count n 0 lt

pub moved_numbered : (first count : ℕ) (numbers : List ℕ) (p : Polynomial) → numbers ≡ range_with_len first count → IsTrue (every_column (is_numbered count) p) → IsTrue (list_all (λ t. list_all (is_numbered (length numbers)) t.0) p.terms)
moved_numbered first count numbers p e h = subst (λ n. IsTrue (every_column (is_numbered n) p)) (sym (ap length e ∙ length-range_with_len first count)) h

pub moved_order : (first count : ℕ) (numbers : List ℕ) (p : Polynomial) → numbers ≡ range_with_len first count → IsTrue (every_column (is_numbered count) p) → KeepsOrder (slice_index numbers) (λ n. occurs n p)
moved_order first count numbers p e h m n k l lt =
    let all = both_true (every_column (is_numbered count) p) true h refl in
    let a : m < count = post_occurs-below m count (p ∷ []) (or_left (occurs m p) false k) all in
    let b : n < count = post_occurs-below n count (p ∷ []) (or_left (occurs n p) false l) all in
    let one = number_at first count numbers e m a in
    let other = number_at first count numbers e n b in
    omega (arith, one, other)

pub moved_made : (first count : ℕ) (numbers : List ℕ) (p q : Polynomial) → numbers ≡ range_with_len first count → IsTrue (every_column (is_numbered count) p) → q ≡ renumbered_polynomial (slice_index numbers) p → q ≡ renumbered_polynomial (λ n. first + n) p
moved_made first count numbers p q e h made = made ∙ polynomial_agrees (slice_index numbers) (λ n. first + n) count (number_at first count numbers e) p h

range-last : (first count : ℕ) → range_with_len first (count + 1) ≡ range_with_len first count ++ (first + count) ∷ []
range-last first zero = let same : first ≡ first + 0 = omega arith in λ i. same i ∷ []
range-last first (suc count) =
    let same : first + 1 + count ≡ first + suc count = omega arith in
    let longer : suc count + 1 ≡ suc (count + 1) = omega arith in
    ap (range_with_len first) longer ∙ ap (λ l. first ∷ l) (range-last (first + 1) count ∙ ap (λ n. range_with_len (first + 1) count ++ n ∷ []) same)

-- one more number, where a loop has come to it
pub range-more : (first number : ℕ) (made next : List ℕ) → first ≤ number → made ≡ range_with_len first (number - first) → next ≡ made ++ number ∷ [] → next ≡ range_with_len first (number + 1 - first)
range-more first number made next le is pushed =
    let place : first + (number - first) ≡ number = omega arith in
    let longer : number - first + 1 ≡ number + 1 - first = omega arith in
    pushed ∙ (λ i. is i ++ sym place i ∷ []) ∙ sym (range-last first (number - first)) ∙ ap (range_with_len first) longer
