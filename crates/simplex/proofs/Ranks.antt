-- Choices of k numbers below n have different ranks, all below the number of choices.
use Rattle.std.proofs.Common.{◌≡◌, ℕ, zero, suc, ◌+◌, ◌<◌, Bool, true, false, cond, refl, sym, ap, ◌∙◌, arith, ⊎_elim}
use Rattle.std.proofs.lemmas.Bool.{cases_eq}
use Rattle.simplex.specs.Choices.{count_to, rank}
use Rattle.farkas_check.specs.Frames.{choose}

pub count_to-none : (n : ℕ) (p : ℕ → Bool) → count_to n p ≡ 0 → (j : ℕ) → j < n → p j ≡ false
count_to-none zero p e j h = absurd (omega arith)
count_to-none (suc n) p e j h = last (p n) refl (λ k. count_to-none n p (omega arith) j k)
  where
    last : (b : Bool) → p n ≡ b → (j < n → p j ≡ false) → p j ≡ false
    last true f below = absurd (let g : count_to n p + cond (p n) 1 0 ≡ 0 = e in let k : count_to n p + 1 ≡ 0 = rw f at g in omega arith)
    last false f below = ⊎_elim (λ (same : j ≡ n). ap p same ∙ f) (λ other. below (omega arith)) (cases_eq j n)

-- a rank is below the number of choices
pub rank-below : (n k : ℕ) (p : ℕ → Bool) → count_to n p ≡ k → rank n k p < choose n k
rank-below zero zero p e = omega arith
rank-below zero (suc k) p e = absurd (omega arith)
rank-below (suc n) zero p e = omega arith
rank-below (suc n) (suc k) p e = last (p n) refl (rank-below n k p) (rank-below n (suc k) p)
  where
    last : (b : Bool) → p n ≡ b → (count_to n p ≡ k → rank n k p < choose n k) → (count_to n p ≡ suc k → rank n (suc k) p < choose n (suc k)) → cond (p n) (rank n k p) (choose n k + rank n (suc k) p) < choose n k + choose n (suc k)
    last true f with_n without =
        let c : count_to n p + 1 ≡ suc k = rw f at e in
        let below : rank n k p < choose n k = with_n (omega arith) in rw f (omega arith)
    last false f with_n without =
        let c : count_to n p + 0 ≡ suc k = rw f at e in
        let below : rank n (suc k) p < choose n (suc k) = without (omega arith) in rw f (omega arith)

-- choices of one rank are the same
pub rank-same : (n k : ℕ) (p q : ℕ → Bool) → count_to n p ≡ k → count_to n q ≡ k → rank n k p ≡ rank n k q → (j : ℕ) → j < n → p j ≡ q j
rank-same zero k p q e f g j h = absurd (omega arith)
rank-same (suc n) zero p q e f g j h = count_to-none (suc n) p e j h ∙ sym (count_to-none (suc n) q f j h)
rank-same (suc n) (suc k) p q e f g j h = last (p n) (q n) refl refl (rank-same n k p q) (rank-same n (suc k) p q)
  where
    at_end : p n ≡ q n → (j < n → p j ≡ q j) → p j ≡ q j
    at_end same below = ⊎_elim (λ (is : j ≡ n). ap p is ∙ same ∙ ap q (sym is)) (λ other. below (omega arith)) (cases_eq j n)

    last : (b c : Bool) → p n ≡ b → q n ≡ c
        → (count_to n p ≡ k → count_to n q ≡ k → rank n k p ≡ rank n k q → (j : ℕ) → j < n → p j ≡ q j)
        → (count_to n p ≡ suc k → count_to n q ≡ suc k → rank n (suc k) p ≡ rank n (suc k) q → (j : ℕ) → j < n → p j ≡ q j) → p j ≡ q j
    last true true u v with_n without =
        let x : count_to n p + 1 ≡ suc k = rw u at e in
        let y : count_to n q + 1 ≡ suc k = rw v at f in
        let z : rank n k p ≡ rank n k q = rw (u, v) at g in
        at_end (u ∙ sym v) (with_n (omega arith) (omega arith) z j)
    last false false u v with_n without =
        let x : count_to n p + 0 ≡ suc k = rw u at e in
        let y : count_to n q + 0 ≡ suc k = rw v at f in
        let z : choose n k + rank n (suc k) p ≡ choose n k + rank n (suc k) q = rw (u, v) at g in
        at_end (u ∙ sym v) (without (omega arith) (omega arith) (omega arith) j)
    last true false u v with_n without =
        let x : count_to n p + 1 ≡ suc k = rw u at e in
        let z : rank n k p ≡ choose n k + rank n (suc k) q = rw (u, v) at g in
        let below : rank n k p < choose n k = rank-below n k p (omega arith) in absurd (omega arith)
    last false true u v with_n without =
        let y : count_to n q + 1 ≡ suc k = rw v at f in
        let z : choose n k + rank n (suc k) p ≡ rank n k q = rw (u, v) at g in
        let below : rank n k q < choose n k = rank-below n k q (omega arith) in absurd (omega arith)
