-- How many columns some lines choose.
use Rattle.std.proofs.Common.{◌≡◌, ◌≢◌, ℕ, zero, suc, ◌+◌, ◌<◌, ◌≤◌, Bool, true, false, cond, refl, sym, ap, ◌∙◌, arith, ⊎_elim}
use Rattle.std.specs.Prelude.{nat_eq, not, ◌||◌}
use Rattle.std.proofs.lemmas.Bool.{cases_eq, eq-eqb, ne_eqb}
use Rattle.simplex.specs.Choices.{count_to}

-- a count in two parts
pub count_to-plus : (a b : ℕ) (p : ℕ → Bool) → count_to (a + b) p ≡ count_to a p + count_to b (λ k. p (a + k))
count_to-plus a zero p = (let e : a + 0 ≡ a = omega arith in ap (λ n. count_to n p) e) ∙ right (count_to a p)
  where
    right : (n : ℕ) → n ≡ n + 0
    right n = omega arith
count_to-plus a (suc b) p = (let e : a + suc b ≡ suc (a + b) = omega arith in ap (λ n. count_to n p) e) ∙ ap (λ n. n + cond (p (a + b)) 1 0) (count_to-plus a b p) ∙ group (count_to a p) (count_to b (λ k. p (a + k))) (cond (p (a + b)) 1 0)
  where
    group : (x y z : ℕ) → x + y + z ≡ x + (y + z)
    group x y z = omega arith

-- what passes and what does not are all
pub count_to-not : (n : ℕ) (p : ℕ → Bool) → count_to n p + count_to n (λ k. not (p k)) ≡ n
count_to-not zero p = refl
count_to-not (suc n) p = last (p n) (count_to-not n p)
  where
    last : (b : Bool) → count_to n p + count_to n (λ k. not (p k)) ≡ n → count_to n p + cond b 1 0 + (count_to n (λ k. not (p k)) + cond (not b) 1 0) ≡ suc n
    last true e = omega (arith, e)
    last false e = omega (arith, e)

pub count_to-all : (n : ℕ) (p : ℕ → Bool) → count_to n p ≤ n
count_to-all n p = let e : count_to n p + count_to n (λ k. not (p k)) ≡ n = count_to-not n p in omega (arith, e)

pub count_to-less : (n : ℕ) (p : ℕ → Bool) (c : ℕ) → c < n → p c ≡ false → count_to n p + 1 ≤ n
count_to-less zero p c h e = absurd (omega (arith, h))
count_to-less (suc n) p c h e =
    ⊎_elim (λ (s : c ≡ n). let g : p n ≡ false = ap p (sym s) ∙ e in let a : count_to n p ≤ n = count_to-all n p in rw g (omega (arith, a)))
    (λ other. more (p n) (count_to-less n p c (omega (arith, h, other)) e)) (cases_eq c n)
  where
    more : (b : Bool) → count_to n p + 1 ≤ n → count_to n p + cond b 1 0 + 1 ≤ suc n
    more true k = omega (arith, k)
    more false k = omega (arith, k)

-- at most one more passes where one more may pass
count_to-one_more : (n : ℕ) (p : ℕ → Bool) (c : ℕ) → count_to n (λ j. nat_eq c j || p j) ≤ count_to n p + 1
count_to-one_more zero p c = omega arith
count_to-one_more (suc n) p c =
    ⊎_elim (λ (s : c ≡ n). let g : count_to n (λ j. nat_eq c j || p j) ≡ count_to n p = unchanged n (omega (arith, s)) in rw (eq-eqb c n s) (small (p n) g))
    (λ other. rw (ne_eqb c n other) (let h : count_to n (λ j. nat_eq c j || p j) ≤ count_to n p + 1 = count_to-one_more n p c in omega (arith, h))) (cases_eq c n)
  where
    unchanged : (m : ℕ) → m ≤ c → count_to m (λ j. nat_eq c j || p j) ≡ count_to m p
    unchanged zero h = refl
    unchanged (suc m) h = rw (unchanged m (omega (arith, h)), ne_eqb c m (λ s. omega (arith, h, s))) refl

    small : (b : Bool) → count_to n (λ j. nat_eq c j || p j) ≡ count_to n p → count_to n (λ j. nat_eq c j || p j) + 1 ≤ count_to n p + cond b 1 0 + 1
    small b g = omega (arith, g)

-- some line other than i chooses the column
abbrev pub is_other : ℕ → ℕ → (ℕ → ℕ) → ℕ → Bool
is_other zero i chosen j = false
is_other (suc n) i chosen j = cond (nat_eq n i) (is_other n i chosen j) (nat_eq (chosen n) j || is_other n i chosen j)

pub is_other-at : (n i : ℕ) (chosen : ℕ → ℕ) (k : ℕ) → k < n → k ≢ i → is_other n i chosen (chosen k) ≡ true
is_other-at zero i chosen k h apart = absurd (omega (arith, h))
is_other-at (suc n) i chosen k h apart =
    ⊎_elim (λ (s : k ≡ n). rw (ne_eqb n i (λ t. apart (s ∙ t)), eq-eqb (chosen n) (chosen k) (ap chosen (sym s))) refl)
    (λ other. either (nat_eq n i) (nat_eq (chosen n) (chosen k)) (is_other-at n i chosen k (omega (arith, h, other)) apart)) (cases_eq k n)
  where
    either : (b c : Bool) → is_other n i chosen (chosen k) ≡ true → cond b (is_other n i chosen (chosen k)) (c || is_other n i chosen (chosen k)) ≡ true
    either true c e = e
    either false true e = refl
    either false false e = e

-- the other lines choose at most as many columns as they are
pub is_other-few : (columns n i : ℕ) (chosen : ℕ → ℕ) → i < n → count_to columns (is_other n i chosen) + 1 ≤ n
is_other-few columns zero i chosen h = absurd (omega (arith, h))
is_other-few columns (suc n) i chosen h =
    ⊎_elim (λ (s : i ≡ n). let known : count_to columns (is_other n i chosen) ≤ n = before n (omega (arith, s)) in let same : count_to columns (is_other (suc n) i chosen) ≡ count_to columns (is_other n i chosen) = opened n true (eq-eqb n i (sym s)) in omega (arith, known, same))
    (λ other. let known : count_to columns (is_other n i chosen) + 1 ≤ n = is_other-few columns n i chosen (omega (arith, h, other)) in
    let more : count_to columns (λ j. nat_eq (chosen n) j || is_other n i chosen j) ≤ count_to columns (is_other n i chosen) + 1 = count_to-one_more columns (is_other n i chosen) (chosen n) in
    let same : count_to columns (is_other (suc n) i chosen) ≡ count_to columns (λ j. nat_eq (chosen n) j || is_other n i chosen j) = opened n false (ne_eqb n i (λ t. other (sym t))) in
    omega (arith, known, more, same)) (cases_eq i n)
  where
    opened : (m : ℕ) (b : Bool) → nat_eq m i ≡ b → count_to columns (is_other (suc m) i chosen) ≡ count_to columns (λ j. cond b (is_other m i chosen j) (nat_eq (chosen m) j || is_other m i chosen j))
    opened m b e = ap (λ c. count_to columns (λ j. cond c (is_other m i chosen j) (nat_eq (chosen m) j || is_other m i chosen j))) e

    nothing : (m : ℕ) → count_to m (λ j. false) ≡ 0
    nothing zero = refl
    nothing (suc m) = rw (nothing m) refl

    before : (m : ℕ) → m ≤ i → count_to columns (is_other m i chosen) ≤ m
    before zero h = let e : count_to columns (λ j. false) ≡ 0 = nothing columns in omega (arith, e)
    before (suc m) h =
        let known : count_to columns (is_other m i chosen) ≤ m = before m (omega (arith, h)) in
        let more : count_to columns (λ j. nat_eq (chosen m) j || is_other m i chosen j) ≤ count_to columns (is_other m i chosen) + 1 = count_to-one_more columns (is_other m i chosen) (chosen m) in
        let same : count_to columns (is_other (suc m) i chosen) ≡ count_to columns (λ j. nat_eq (chosen m) j || is_other m i chosen j) = opened m false (ne_eqb m i (λ t. omega (arith, h, t))) in
        omega (arith, known, more, same)
