-- Among more numbers than there are values, two have the same value.
use Rattle.std.proofs.Common.{◌≡◌, ◌≢◌, ℕ, zero, suc, ◌+◌, ◌-◌, ◌<◌, ◌≤◌, Bool, true, false, cond, refl, sym, ap, ◌∙◌, arith, ⊎_elim, inl, inr}
use Rattle.std.specs.Prelude.{◌⊎◌, nat_lt}
use Rattle.std.proofs.lemmas.Bool.{cases_eq, cases_lt, lt-ltb, ltb-true, false≢true}

-- some number below n has the value, or none has
pub value_found : (n : ℕ) (f : ℕ → ℕ) (v : ℕ) → ((i : ℕ) × ((i < n) × (f i ≡ v))) ⊎ ((i : ℕ) → i < n → f i ≢ v)
value_found zero f v = inr (λ i h. absurd (omega (arith, h)))
value_found (suc n) f v =
    ⊎_elim (λ (e : f n ≡ v). inl (n, (omega arith, e)))
    (λ other. ⊎_elim (λ some. inl (some.0, (omega (arith, some.1.0), some.1.1)))
    (λ none. inr (λ i h. ⊎_elim (λ (e : i ≡ n). λ same. other (ap f (sym e) ∙ same)) (λ apart. none i (omega (arith, h, apart))) (cases_eq i n)))
    (value_found n f v)) (cases_eq (f n) v)

-- two numbers below n with one value
pub record HasTwins (n : ℕ) (f : ℕ → ℕ) : Type 0 where
  pub first : ℕ
  pub second : ℕ
  pub apart : first < second
  pub within : second < n
  pub same : f first ≡ f second

-- the values without v, closed up
closed_up : ℕ → ℕ → ℕ
closed_up v w = cond (nat_lt w v) w (w - 1)

unfolds : (v w : ℕ) → closed_up v w ≡ cond (nat_lt w v) w (w - 1)
unfolding closed_up
unfolds v w = refl

closed_up-cases : (v w : ℕ) → w ≢ v → ((w < v) × (closed_up v w ≡ w)) ⊎ ((v < w) × (closed_up v w + 1 ≡ w))
closed_up-cases v w other = go (nat_lt w v) refl
  where
    go : (b : Bool) → nat_lt w v ≡ b → ((w < v) × (closed_up v w ≡ w)) ⊎ ((v < w) × (closed_up v w + 1 ≡ w))
    go true e = inl (ltb-true w v e, unfolds v w ∙ ap (λ c. cond c w (w - 1)) e)
    go false e =
        ⊎_elim (λ (h : w < v). absurd (clash (sym e ∙ lt-ltb w v h)))
        (λ (h : v ≤ w). let above : v < w = omega (arith, h, other) in let is : closed_up v w ≡ w - 1 = unfolds v w ∙ ap (λ c. cond c w (w - 1)) e in inr (above, omega (arith, above, is))) (cases_lt w v)
      where
        clash : false ≡ true → ⊥
        clash p = absurd (false≢true p)

pub twins : (n m : ℕ) (f : ℕ → ℕ) → ((i : ℕ) → i < n → f i < m) → m < n → HasTwins n f
twins zero m f below few = absurd (omega (arith, few))
twins (suc n) zero f below few = absurd (let h : f 0 < 0 = below 0 (omega arith) in omega (arith, h))
twins (suc n) (suc m) f below few =
    ⊎_elim (λ some. record { first = some.0; second = n; apart = some.1.0; within = omega arith; same = some.1.1 })
    (λ none. lift none (twins n m (λ i. closed_up (f n) (f i)) (λ i h. smaller none i h) (omega (arith, few)))) (value_found n f (f n))
  where
    smaller : ((i : ℕ) → i < n → f i ≢ f n) → (i : ℕ) → i < n → closed_up (f n) (f i) < m
    smaller none i h =
        let a : f i < suc m = below i (omega (arith, h)) in
        let b : f n < suc m = below n (omega arith) in
        ⊎_elim (λ c. omega (arith, a, b, c.0, c.1)) (λ c. omega (arith, a, b, c.0, c.1)) (closed_up-cases (f n) (f i) (none i h))

    lift : ((i : ℕ) → i < n → f i ≢ f n) → HasTwins n (λ i. closed_up (f n) (f i)) → HasTwins (suc n) f
    lift none t = record {
      first = t.first;
      second = t.second;
      apart = t.apart;
      within = omega (arith, t.within);
      same =
          ⊎_elim (λ c. ⊎_elim (λ d. omega (arith, t.same, c.0, c.1, d.0, d.1)) (λ d. omega (arith, t.same, c.0, c.1, d.0, d.1)) (cases_of t.second t.within))
          (λ c. ⊎_elim (λ d. omega (arith, t.same, c.0, c.1, d.0, d.1)) (λ d. omega (arith, t.same, c.0, c.1, d.0, d.1)) (cases_of t.second t.within)) (cases_of t.first (omega (arith, t.apart, t.within)));
    }
      where
        cases_of : (i : ℕ) → i < n → ((f i < f n) × (closed_up (f n) (f i) ≡ f i)) ⊎ ((f n < f i) × (closed_up (f n) (f i) + 1 ≡ f i))
        cases_of i h = closed_up-cases (f n) (f i) (none i h)
