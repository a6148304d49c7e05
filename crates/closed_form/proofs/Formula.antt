-- Newton's forward difference formula: a sum of sums, by one induction for each difference.
use Rattle.std.proofs.Common.{◌≡◌, ℕ, zero, suc, ◌+◌, ◌≤◌, refl, sym, ap, ◌∙◌, arith, add-one, ℤ, pos, ◌+ℤ◌, ◌-ℤ◌, ◌*ℤ◌}
use Rattle.std.proofs.lemmas.Int.{ints}
use Rattle.std.proofs.Math.IntN.{zero-*ℤ}
use Rattle.whole_numbers.proofs.Ring.{ring}
use Rattle.closed_form.specs.Differences.{Sequence, IsConstant, third_difference, IsForwardSum, ForwardDifferenceFormula, GrowsBy, Run, IsRun, run_of}

-- ---- one step of each sum

-- a number and a sum of equal ones, twice a number and a sum of such sums, and six times a number
-- and a sum of these
abbrev pub sums : ℤ → ℤ → ℤ → ℤ
sums before d1 k = before +ℤ k *ℤ d1

abbrev two_sums : ℤ → ℤ → ℤ → ℤ → ℤ
two_sums before d1 d2 k = pos 2 *ℤ before +ℤ pos 2 *ℤ k *ℤ d1 +ℤ k *ℤ (k -ℤ pos 1) *ℤ d2

abbrev six_sums : ℤ → ℤ → ℤ → ℤ → ℤ → ℤ
six_sums before d1 d2 d3 k =
    pos 6 *ℤ before +ℤ pos 6 *ℤ k *ℤ d1 +ℤ pos 3 *ℤ k *ℤ (k -ℤ pos 1) *ℤ d2 +ℤ k *ℤ (k -ℤ pos 1) *ℤ (k -ℤ pos 2) *ℤ d3

-- products with small numbers as sums, so that what is left of an identity is linear
pub twice : (x : ℤ) → x *ℤ pos 2 ≡ x +ℤ x
twice x = omega (arith, ints)

thrice : (x : ℤ) → x *ℤ pos 3 ≡ x +ℤ x +ℤ x
thrice x = omega (arith, ints)

sixfold : (x : ℤ) → x *ℤ pos 6 ≡ x +ℤ x +ℤ x +ℤ (x +ℤ x +ℤ x)
sixfold x = omega (arith, ints)

sums-next : (before d1 k : ℤ) → sums before d1 (k +ℤ pos 1) ≡ sums before d1 k +ℤ d1
sums-next before d1 k = simp ring (omega (arith, ints))

two_sums-next : (before d1 d2 k : ℤ) →
    two_sums before d1 d2 (k +ℤ pos 1) ≡ two_sums before d1 d2 k +ℤ pos 2 *ℤ sums d1 d2 k
two_sums-next before d1 d2 k = simp (ring, twice) (omega (arith, ints))

three_apart : (k d3 : ℤ) →
    (k +ℤ pos 1) *ℤ (k +ℤ pos 1 -ℤ pos 1) *ℤ (k +ℤ pos 1 -ℤ pos 2) *ℤ d3
    ≡ k *ℤ (k -ℤ pos 1) *ℤ (k -ℤ pos 2) *ℤ d3 +ℤ pos 3 *ℤ (k *ℤ (k -ℤ pos 1) *ℤ d3)
three_apart k d3 = rw (back_one k, back_two k) (simp (ring, twice, thrice) (omega (arith, ints)))
  where
    back_one : (k : ℤ) → k +ℤ pos 1 -ℤ pos 1 ≡ k
    back_one k = omega (arith, ints)

    back_two : (k : ℤ) → k +ℤ pos 1 -ℤ pos 2 ≡ k -ℤ pos 1
    back_two k = omega (arith, ints)

two_apart : (k d2 : ℤ) →
    pos 3 *ℤ (k +ℤ pos 1) *ℤ (k +ℤ pos 1 -ℤ pos 1) *ℤ d2 ≡ pos 3 *ℤ k *ℤ (k -ℤ pos 1) *ℤ d2 +ℤ pos 6 *ℤ k *ℤ d2
two_apart k d2 = simp (ring, thrice, sixfold) (omega (arith, ints))

six_sums-next : (before d1 d2 d3 k : ℤ) →
    six_sums before d1 d2 d3 (k +ℤ pos 1) ≡ six_sums before d1 d2 d3 k +ℤ pos 3 *ℤ two_sums d1 d2 d3 k
six_sums-next before d1 d2 d3 k =
    rw (two_apart k d2, three_apart k d3) (simp (ring, twice, thrice, sixfold) (omega (arith, ints)))

-- ---- sequences

pub pos-suc : (i : ℕ) → pos (suc i) ≡ pos i +ℤ pos 1
pos-suc i = omega (arith, ints)

grown : (n : ℕ) (growth u : Sequence) (i : ℕ) → GrowsBy n growth u → suc i ≤ n → u (suc i) ≡ u i +ℤ growth i
grown n growth u i grows within =
    let at_step : u (i + 1) -ℤ u i ≡ growth i = grows i (omega arith) in
    let same : u (suc i) -ℤ u i ≡ growth i = rw add-one at at_step in
    moved (u (suc i)) (u i) (growth i) same
  where
    moved : (x y z : ℤ) → x -ℤ y ≡ z → x ≡ y +ℤ z
    moved x y z e = omega (arith, ints)

pub sums-are : (n : ℕ) (u : Sequence) (d : ℤ) → GrowsBy n (λ i. d) u → (i : ℕ) → i ≤ n → u i ≡ sums (u 0) d (pos i)
sums-are n u d grows zero within = omega (arith, ints, zero-*ℤ d)
sums-are n u d grows (suc i) within =
    grown n (λ j. d) u i grows within ∙ ap (λ x. x +ℤ d) (sums-are n u d grows i (omega arith))
    ∙ sym (ap (λ k. sums (u 0) d k) (pos-suc i) ∙ sums-next (u 0) d (pos i))

two_sums-are : (n : ℕ) (u growth : Sequence) (d : ℤ) → GrowsBy n growth u → GrowsBy n (λ i. d) growth →
    (i : ℕ) → i ≤ n → pos 2 *ℤ u i ≡ two_sums (u 0) (growth 0) d (pos i)
two_sums-are n u growth d grows growth_grows zero within = at_zero (u 0) (growth 0) d
  where
    at_zero : (b x y : ℤ) → pos 2 *ℤ b ≡ two_sums b x y (pos 0)
    at_zero b x y = omega (arith, ints, zero-*ℤ x, zero-*ℤ y)
two_sums-are n u growth d grows growth_grows (suc i) within =
    next (u (suc i)) (u i) (growth i) (grown n growth u i grows within)
    ∙ joined (u i) _ (growth i) _ (two_sums-are n u growth d grows growth_grows i (omega arith))
    (sums-are n growth d growth_grows i (omega arith))
    ∙ sym (ap (λ k. two_sums (u 0) (growth 0) d k) (pos-suc i) ∙ two_sums-next (u 0) (growth 0) d (pos i))
  where
    next : (x y z : ℤ) → x ≡ y +ℤ z → pos 2 *ℤ x ≡ pos 2 *ℤ y +ℤ pos 2 *ℤ z
    next x y z e = omega (arith, ints)

    joined : (a b c e : ℤ) → pos 2 *ℤ a ≡ b → c ≡ e → pos 2 *ℤ a +ℤ pos 2 *ℤ c ≡ b +ℤ pos 2 *ℤ e
    joined a b c e p q = cc

six_sums-are : (run : Run) → IsRun run → (i : ℕ) → i ≤ run.steps →
    pos 6 *ℤ run.numbers i ≡ six_sums (run.numbers 0) (run.first 0) (run.second 0) run.third (pos i)
six_sums-are run is_run zero within = at_zero (run.numbers 0) (run.first 0) (run.second 0) run.third
  where
    at_zero : (b x y z : ℤ) → pos 6 *ℤ b ≡ six_sums b x y z (pos 0)
    at_zero b x y z = omega (arith, ints, zero-*ℤ x, zero-*ℤ y, zero-*ℤ z)
six_sums-are run is_run (suc i) within =
    next (run.numbers (suc i)) (run.numbers i) (run.first i) (grown run.steps run.first run.numbers i is_run.numbers_grow within)
    ∙ joined (run.numbers i) _ (run.first i) _ (six_sums-are run is_run i (omega arith))
    (two_sums-are run.steps run.first run.second run.third is_run.first_grow is_run.second_grow i (omega arith))
    ∙ sym (ap (λ k. six_sums (run.numbers 0) (run.first 0) (run.second 0) run.third k) (pos-suc i)
    ∙ six_sums-next (run.numbers 0) (run.first 0) (run.second 0) run.third (pos i))
  where
    next : (x y z : ℤ) → x ≡ y +ℤ z → pos 6 *ℤ x ≡ pos 6 *ℤ y +ℤ pos 3 *ℤ (pos 2 *ℤ z)
    next x y z e = omega (arith, ints)

    joined : (a b c e : ℤ) → pos 6 *ℤ a ≡ b → pos 2 *ℤ c ≡ e → pos 6 *ℤ a +ℤ pos 3 *ℤ (pos 2 *ℤ c) ≡ b +ℤ pos 3 *ℤ e
    joined a b c e p q = cc

-- ---- the formula

pub run-holds : (run : Run) → IsRun run →
    IsForwardSum (run.numbers run.steps) (run.numbers 0) (run.first 0) (run.second 0) run.third (pos run.steps)
run-holds run is_run = six_sums-are run is_run run.steps (omega arith)

pub IsRun-run_of : (u : Sequence) (n : ℕ) → IsConstant (third_difference u) → IsRun (run_of u n)
IsRun-run_of u n constant = record {
  numbers_grow = λ i below. refl;
  first_grow = λ i below. refl;
  second_grow = λ i below. constant i;
}

pub forward_difference_formula : ForwardDifferenceFormula
forward_difference_formula u constant n = run-holds (run_of u n) (IsRun-run_of u n constant)
