-- The tableau of a frame of two spots.
use Rattle.std.proofs.Common.{◌≡◌, ℕ, zero, suc, ◌+◌, ◌<◌, true, false, refl, sym, ◌∙◌, arith, ⊎_elim, List, [], ◌∷◌, nat_eq, ℤ, pos, negsuc, ◌+ℤ◌, ◌*ℤ◌, ◌<ℤ◌}
use Rattle.std.specs.Prelude.{neg_ℤ, nat_lt}
use Rattle.std.proofs.lemmas.Int.{ints}
use Rattle.std.proofs.lemmas.Bool.{cases_lt, cases_eq}
use Rattle.std.proofs.Math.IntN.{*ℤ_comm, zero-*ℤ}
use Rattle.whole_numbers.proofs.Ring.{ring, neg_ℤ-*ℤ, *ℤ-one}
use Rattle.farkas_check.specs.Relations.{entry}
use Rattle.farkas_check.specs.Frames.{IsTableau, number_in}
use Rattle.facet_hull.specs.Spots.{frame_of_two, multiple_of_two}

lt_yes : (a b : ℕ) → a < b → nat_lt a b ≡ true
lt_yes a b h = grind (arith, h)

lt_no : (a b : ℕ) → b < a + 1 → nat_lt a b ≡ false
lt_no a b h = grind (arith, h)

eq_yes : (a : ℕ) → nat_eq a a ≡ true
eq_yes a = grind arith

eq_no : (a b : ℕ) → (a ≡ b → ⊥) → nat_eq a b ≡ false
eq_no a b h = grind (arith, h)

-- what the two lines have at the chosen columns
first_place : (place : ℕ) (s t : List ℤ) → number_in (frame_of_two place s t) 0 place ≡ entry s place
first_place place s t = rw (lt_yes place (place + 1) (omega arith)) refl

second_place : (place : ℕ) (s t : List ℤ) → number_in (frame_of_two place s t) 1 place ≡ entry t place
second_place place s t = rw (lt_yes place (place + 1) (omega arith)) refl

first_unit : (place : ℕ) (s t : List ℤ) → number_in (frame_of_two place s t) 0 (place + 2) ≡ pos 0
first_unit place s t = rw (lt_no (place + 2) (place + 1) (omega arith), eq_no (place + 2) (place + 1 + 0) (λ e. omega (arith, e))) refl

eq_is : (a b : ℕ) → a ≡ b → nat_eq a b ≡ true
eq_is a b h = grind (arith, h)

second_unit : (place : ℕ) (s t : List ℤ) → number_in (frame_of_two place s t) 1 (place + 2) ≡ pos 1
second_unit place s t = rw (lt_no (place + 2) (place + 1) (omega arith), eq_is (place + 2) (place + 1 + 1) (omega arith)) refl

-- the sum of two multiples, one of them 0
alone_first : (x y z : ℤ) → z ≡ pos 0 → x ≡ y → x ≡ pos 0 +ℤ y +ℤ z
alone_first x y z e f = omega (arith, ints)

times_zero : (a : ℤ) → a *ℤ pos 0 ≡ pos 0
times_zero a = *ℤ_comm a (pos 0) ∙ zero-*ℤ a

turned : (a b : ℤ) → neg_ℤ a *ℤ b ≡ neg_ℤ b *ℤ a
turned a b = simp ring (omega (arith, ints))

minus_one : (a : ℤ) → neg_ℤ a *ℤ pos 1 ≡ negsuc 0 *ℤ a
minus_one a = omega (arith, ints)

crossed : (a b c d : ℤ) → neg_ℤ a *ℤ b ≡ pos 0 +ℤ neg_ℤ c *ℤ d +ℤ (neg_ℤ a *ℤ b +ℤ c *ℤ d) *ℤ pos 1
crossed a b c d = whole (neg_ℤ a *ℤ b) (c *ℤ d) (neg_ℤ c *ℤ d) ((neg_ℤ a *ℤ b +ℤ c *ℤ d) *ℤ pos 1) (neg_ℤ-*ℤ c d) (*ℤ-one (neg_ℤ a *ℤ b +ℤ c *ℤ d))
  where
    whole : (x y z w : ℤ) → z ≡ neg_ℤ y → w ≡ x +ℤ y → x ≡ pos 0 +ℤ z +ℤ w
    whole x y z w e f = omega (arith, ints)

gone : (a b : ℤ) → neg_ℤ a *ℤ pos 0 ≡ pos 0 +ℤ negsuc 0 *ℤ b +ℤ b *ℤ pos 1
gone a b = times_zero (neg_ℤ a) ∙ none b
  where
    none : (b : ℤ) → pos 0 ≡ pos 0 +ℤ negsuc 0 *ℤ b +ℤ b *ℤ pos 1
    none b = omega (arith, ints)

own : (a b : ℤ) → neg_ℤ a *ℤ pos 1 ≡ pos 0 +ℤ pos 0 *ℤ b +ℤ neg_ℤ a *ℤ pos 1
own a b = whole (neg_ℤ a *ℤ pos 1) (pos 0 *ℤ b) (zero-*ℤ b)
  where
    whole : (x y : ℤ) → y ≡ pos 0 → x ≡ pos 0 +ℤ y +ℤ x
    whole x y e = omega (arith, ints)

abbrev Writes : ℕ → List ℤ → List ℤ → ℕ → ℕ → Type 0
Writes place s t line column =
    neg_ℤ (entry s place) *ℤ number_in (frame_of_two place s t) line column
    ≡ pos 0 +ℤ multiple_of_two place s t 0 column *ℤ number_in (frame_of_two place s t) line place
    +ℤ multiple_of_two place s t 1 column *ℤ number_in (frame_of_two place s t) line (place + 2)

first_line : (place column : ℕ) (s t : List ℤ) → column < place + 3 → Writes place s t 0 column
first_line place column s t h =
    rw (first_place place s t, first_unit place s t)
    (⊎_elim (λ a. rw (lt_yes column (place + 1) a) (alone_first (neg_ℤ (entry s place) *ℤ entry s column) (neg_ℤ (entry s column) *ℤ entry s place) ((neg_ℤ (entry s place) *ℤ entry t column +ℤ entry s column *ℤ entry t place) *ℤ pos 0) (times_zero (neg_ℤ (entry s place) *ℤ entry t column +ℤ entry s column *ℤ entry t place)) (turned (entry s place) (entry s column))))
    (λ a. ⊎_elim (λ (e : column ≡ place + 1). rw (lt_no column (place + 1) (omega arith), eq_is column (place + 1) e, eq_is column (place + 1 + 0) (omega (arith, e))) (alone_first (neg_ℤ (entry s place) *ℤ pos 1) (negsuc 0 *ℤ entry s place) (entry t place *ℤ pos 0) (times_zero (entry t place)) (minus_one (entry s place))))
    (λ n. rw (lt_no column (place + 1) (omega arith), eq_no column (place + 1) n, eq_no column (place + 1 + 0) (λ e. n (omega (arith, e)))) (alone_first (neg_ℤ (entry s place) *ℤ pos 0) (pos 0 *ℤ entry s place) (neg_ℤ (entry s place) *ℤ pos 0) (times_zero (neg_ℤ (entry s place))) (times_zero (neg_ℤ (entry s place)) ∙ sym (zero-*ℤ (entry s place)))))
    (cases_eq column (place + 1)))
    (cases_lt column (place + 1)))

second_line : (place column : ℕ) (s t : List ℤ) → column < place + 3 → Writes place s t 1 column
second_line place column s t h =
    rw (second_place place s t, second_unit place s t)
    (⊎_elim (λ a. rw (lt_yes column (place + 1) a) (crossed (entry s place) (entry t column) (entry s column) (entry t place)))
    (λ a. ⊎_elim (λ (e : column ≡ place + 1). rw (lt_no column (place + 1) (omega arith), eq_is column (place + 1) e, eq_no column (place + 1 + 1) (λ f. omega (arith, e, f))) (gone (entry s place) (entry t place)))
    (λ n. rw (lt_no column (place + 1) (omega arith), eq_no column (place + 1) n, eq_is column (place + 1 + 1) (omega (arith, h, a, n))) (own (entry s place) (entry t place)))
    (cases_eq column (place + 1)))
    (cases_lt column (place + 1)))

each_line : (place : ℕ) (s t : List ℤ) (line column : ℕ) → line < 2 → column < place + 3 → Writes place s t line column
each_line place s t zero column h k = first_line place column s t k
each_line place s t (suc zero) column h k = second_line place column s t k
each_line place s t (suc (suc line)) column h k = absurd (omega (arith, h))

pub two_spots : (place : ℕ) (s t : List ℤ) → entry s place <ℤ pos 0
    → IsTableau (frame_of_two place s t) (place ∷ (place + 2) ∷ []) (neg_ℤ (entry s place)) (multiple_of_two place s t)
two_spots place s t h = record {
  each = refl;
  within = (omega arith, (omega arith, tt));
  positive = omega (arith, ints);
  writes = λ line column k l. each_line place s t line column k (omega (arith, l));
}
