-- Lists that are filtered.
use Rattle.std.proofs.Common.{◌≡◌, ◌≤◌, ◌<◌, ℕ, zero, suc, ◌+◌, Bool, true, false, List, [], ◌∷◌, ◌⊎◌, inl, inr, ⊎_elim, refl, sym, ap, ◌∙◌, arith}
use Rattle.std.specs.Prelude.{cond}
use Rattle.std.specs.List.{filter}
use Rattle.flow_graph.specs.Numbers.{numbers_from}
use Rattle.flow_graph.proofs.Members.{In}

pub differ : {X : Type 0} (b : Bool) → b ≡ false → b ≡ true → X
differ true e f = absurd (cc e)
differ false e f = absurd (cc f)

pub true_or_false : (b : Bool) → (b ≡ true) ⊎ (b ≡ false)
true_or_false true = inl refl
true_or_false false = inr refl

-- ---- one element in front, or not

keep_head : (b : Bool) (y : ℕ) (rest : List ℕ) (x : ℕ) → b ≡ true → y ≡ x → In (cond b (y ∷ rest) rest) x
keep_head true y rest x e same = inl same
keep_head false y rest x e same = absurd (cc e)

keep_rest : (b : Bool) (y : ℕ) (rest : List ℕ) (x : ℕ) → In rest x → In (cond b (y ∷ rest) rest) x
keep_rest true y rest x there = inr there
keep_rest false y rest x there = there

kept_only : (b : Bool) (y : ℕ) (rest : List ℕ) (x : ℕ) → In (cond b (y ∷ rest) rest) x → ((b ≡ true) × (y ≡ x)) ⊎ In rest x
kept_only true y rest x (inl same) = inl (refl, same)
kept_only true y rest x (inr there) = inr there
kept_only false y rest x there = inr there

module _ (test : ℕ → Bool) where
  pub filter_in : (xs : List ℕ) (x : ℕ) → In xs x → test x ≡ true → In (filter test xs) x
  filter_in [] x none e = absurd none
  filter_in (y ∷ ys) x (inl same) e = keep_head (test y) y (filter test ys) x (ap test same ∙ e) same
  filter_in (y ∷ ys) x (inr there) e = keep_rest (test y) y (filter test ys) x (filter_in ys x there e)

  pub filter_only : (xs : List ℕ) (x : ℕ) → In (filter test xs) x → In xs x × (test x ≡ true)
  filter_only [] x none = absurd none
  filter_only (y ∷ ys) x there =
      ⊎_elim (λ h. (inl h.1, sym (ap test h.1) ∙ h.0)) (λ h. let more = filter_only ys x h in (inr more.0, more.1)) (kept_only (test y) y (filter test ys) x there)

-- ---- numbers in a row

here_or_more : (k q : ℕ) → k ≤ q → (k ≡ q) ⊎ (suc k ≤ q)
here_or_more zero zero low = inl refl
here_or_more zero (suc q) low = inr (omega arith)
here_or_more (suc k) zero low = absurd (omega arith)
here_or_more (suc k) (suc q) low = ⊎_elim (λ e. inl (ap suc e)) (λ l. inr (omega arith)) (here_or_more k q (omega arith))

pub numbers_in : (k n q : ℕ) → k ≤ q → q < k + n → In (numbers_from k n) q
numbers_in k zero q low high = absurd (omega arith)
numbers_in k (suc n) q low high = ⊎_elim (λ same. inl same) (λ more. inr (numbers_in (suc k) n q more (omega arith))) (here_or_more k q low)

pub numbers_only : (k n q : ℕ) → In (numbers_from k n) q → (k ≤ q) × (q < k + n)
numbers_only k zero q none = absurd none
numbers_only k (suc n) q (inl same) = (omega arith, omega arith)
numbers_only k (suc n) q (inr there) = let more = numbers_only (suc k) n q there in let low = more.0 in let high = more.1 in (omega arith, omega arith)
