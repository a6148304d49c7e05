-- Lists of numbers as the digits of one number: digits at the places that pass a test, and 0 at the
-- others.
use Rattle.std.proofs.Common.{◌≡◌, ℕ, zero, suc, ◌+◌, ◌*◌, ◌<◌, ◌≤◌, Bool, true, false, cond, refl, sym, ap, subst, ◌∙◌, arith, ⊎_elim}
use Rattle.std.specs.Prelude.{nat_eq, ◌/◌, ◌%◌, ◌^◌}
use Rattle.std.proofs.lemmas.Bool.{cases_eq, eq-eqb, ne_eqb, eqb-true, false≢true}
use Rattle.std.proofs.lemmas.Nat.{div-add-mod', div-mul-add, mod-mul-add}
use Rattle.std.proofs.Math.Nat.{mod-lt, div-lt_iff_lt-mul, mul-le-mul_right, pow-suc, pow-zero}
use Rattle.simplex.specs.Choices.{count_to}

-- ---- reading digits

-- the digit at a place, of the number n in base b
abbrev pub digit : ℕ → (ℕ → Bool) → ℕ → ℕ → ℕ → ℕ
digit zero u b n j = 0
digit (suc p) u b n j = cond (u p) (cond (nat_eq j p) (n % b) (digit p u b (n / b) j)) (digit p u b n j)

pub digit-small : (p : ℕ) (u : ℕ → Bool) (b n j : ℕ) → 0 < b → digit p u b n j < b
digit-small zero u b n j h = h
digit-small (suc p) u b n j h = go (u p) (nat_eq j p) (digit-small p u b (n / b) j h) (digit-small p u b n j h)
  where
    go : (c d : Bool) → digit p u b (n / b) j < b → digit p u b n j < b → cond c (cond d (n % b) (digit p u b (n / b) j)) (digit p u b n j) < b
    go true true x y = mod-lt n h
    go true false x y = x
    go false d x y = y

pub digit-outside : (p : ℕ) (u : ℕ → Bool) (b n j : ℕ) → u j ≡ false → digit p u b n j ≡ 0
digit-outside zero u b n j e = refl
digit-outside (suc p) u b n j e = go (u p) refl (nat_eq j p) refl (digit-outside p u b (n / b) j e) (digit-outside p u b n j e)
  where
    go : (c : Bool) → u p ≡ c → (d : Bool) → nat_eq j p ≡ d → digit p u b (n / b) j ≡ 0 → digit p u b n j ≡ 0 → cond c (cond d (n % b) (digit p u b (n / b) j)) (digit p u b n j) ≡ 0
    go true f true g x y = absurd (false≢true (sym e ∙ ap u (eqb-true j p g) ∙ f))
    go true f false g x y = x
    go false f d g x y = y

-- numbers with the same digits are the same
pub digits-same : (p : ℕ) (u : ℕ → Bool) (b n m : ℕ) → 0 < b → n < b ^ count_to p u → m < b ^ count_to p u → ((j : ℕ) → j < p → digit p u b n j ≡ digit p u b m j) → n ≡ m
digits-same zero u b n m above h k same = let e : b ^ 0 ≡ 1 = pow-zero b in omega (arith, h, k, e)
digits-same (suc p) u b n m above h k same = go (u p) refl (digits-same p u b (n / b) (m / b) above) (digits-same p u b n m above)
  where
    step : (c : Bool) → u p ≡ c → (j : ℕ) → j < p → cond c (digit p u b (n / b) j) (digit p u b n j) ≡ cond c (digit p u b (m / b) j) (digit p u b m j)
    step c e j g =
        sym (at_place n c e) ∙ same j (omega (arith, g)) ∙ at_place m c e
      where
        at_place : (x : ℕ) (c : Bool) → u p ≡ c → digit (suc p) u b x j ≡ cond c (digit p u b (x / b) j) (digit p u b x j)
        at_place x c e = ap (λ d. cond d (cond (nat_eq j p) (x % b) (digit p u b (x / b) j)) (digit p u b x j)) e ∙ ap (λ d. cond c (cond d (x % b) (digit p u b (x / b) j)) (digit p u b x j)) (ne_eqb j p (λ f. omega (arith, g, f)))

    last : u p ≡ true → n % b ≡ m % b
    last e = sym (at_place n) ∙ same p (omega arith) ∙ at_place m
      where
        at_place : (x : ℕ) → digit (suc p) u b x p ≡ x % b
        at_place x = ap (λ d. cond d (cond (nat_eq p p) (x % b) (digit p u b (x / b) p)) (digit p u b x p)) e ∙ ap (λ d. cond d (x % b) (digit p u b (x / b) p)) (eq-eqb p p refl)

    power : (c : Bool) → u p ≡ c → b ^ count_to (suc p) u ≡ cond c (b ^ count_to p u * b) (b ^ count_to p u)
    power true e = ap (λ d. b ^ (count_to p u + cond d 1 0)) e ∙ ap (λ x. b ^ x) (more (count_to p u)) ∙ pow-suc b (count_to p u)
      where
        more : (x : ℕ) → x + 1 ≡ suc x
        more x = omega arith
    power false e = ap (λ d. b ^ (count_to p u + cond d 1 0)) e ∙ ap (λ x. b ^ x) (none (count_to p u))
      where
        none : (x : ℕ) → x + 0 ≡ x
        none x = omega arith

    go : (c : Bool) → u p ≡ c
        → (n / b < b ^ count_to p u → m / b < b ^ count_to p u → ((j : ℕ) → j < p → digit p u b (n / b) j ≡ digit p u b (m / b) j) → n / b ≡ m / b)
        → (n < b ^ count_to p u → m < b ^ count_to p u → ((j : ℕ) → j < p → digit p u b n j ≡ digit p u b m j) → n ≡ m) → n ≡ m
    go true e quotients whole =
        sym (div-add-mod' n b)
        ∙ ap (λ x. x * b + n % b) (quotients ((div-lt_iff_lt-mul above).1 (subst (λ x. n < x) (power true e) h)) ((div-lt_iff_lt-mul above).1 (subst (λ x. m < x) (power true e) k)) (step true e))
        ∙ ap (λ x. m / b * b + x) (last e) ∙ div-add-mod' m b
    go false e quotients whole = whole (subst (λ x. n < x) (power false e) h) (subst (λ x. m < x) (power false e) k) (step false e)

-- ---- making a number of values

-- the values at the places that pass, as digits in base r
abbrev pub code : ℕ → (ℕ → Bool) → ℕ → (ℕ → ℕ) → ℕ
code zero e r value = 0
code (suc q) e r value = cond (e q) (code q e r value * r + value q) (code q e r value)

pub code-below : (q : ℕ) (e : ℕ → Bool) (r : ℕ) (value : ℕ → ℕ) → ((i : ℕ) → i < q → value i < r) → code q e r value < r ^ count_to q e
code-below zero e r value below = let f : r ^ 0 ≡ 1 = pow-zero r in omega (arith, f)
code-below (suc q) e r value below = go (e q) refl (code-below q e r value (λ i h. below i (omega (arith, h))))
  where
    go : (c : Bool) → e q ≡ c → code q e r value < r ^ count_to q e → code (suc q) e r value < r ^ count_to (suc q) e
    go true f known =
        let here : code (suc q) e r value ≡ code q e r value * r + value q = ap (λ d. cond d (code q e r value * r + value q) (code q e r value)) f in
        let there : r ^ count_to (suc q) e ≡ r ^ count_to q e * r = ap (λ d. r ^ (count_to q e + cond d 1 0)) f ∙ ap (λ x. r ^ x) (more (count_to q e)) ∙ pow-suc r (count_to q e) in
        let product : suc (code q e r value) * r ≤ r ^ count_to q e * r = mul-le-mul_right r known in
        let opened : suc (code q e r value) * r ≡ code q e r value * r + r = omega arith in
        let small : value q < r = below q (omega arith) in
        omega (arith, here, there, product, opened, small)
      where
        more : (x : ℕ) → x + 1 ≡ suc x
        more x = omega arith
    go false f known =
        let here : code (suc q) e r value ≡ code q e r value = ap (λ d. cond d (code q e r value * r + value q) (code q e r value)) f in
        let there : r ^ count_to (suc q) e ≡ r ^ count_to q e = ap (λ d. r ^ (count_to q e + cond d 1 0)) f ∙ ap (λ x. r ^ x) (none (count_to q e)) in
        omega (arith, here, there, known)
      where
        none : (x : ℕ) → x + 0 ≡ x
        none x = omega arith

-- codes that are the same have the same values
pub code-same : (q : ℕ) (e : ℕ → Bool) (r : ℕ) (value other : ℕ → ℕ) → ((i : ℕ) → i < q → value i < r) → ((i : ℕ) → i < q → other i < r) → code q e r value ≡ code q e r other → (i : ℕ) → i < q → e i ≡ true → value i ≡ other i
code-same zero e r value other below above same i h passes = absurd (omega (arith, h))
code-same (suc q) e r value other below above same i h passes =
    go (e q) refl (λ f g. code-same q e r value other (λ k l. below k (omega (arith, l))) (λ k l. above k (omega (arith, l))) f i g passes)
  where
    go : (c : Bool) → e q ≡ c → (code q e r value ≡ code q e r other → i < q → value i ≡ other i) → value i ≡ other i
    go true f shorter =
        let here : code q e r value * r + value q ≡ code q e r other * r + other q = sym (ap (λ d. cond d (code q e r value * r + value q) (code q e r value)) f) ∙ same ∙ ap (λ d. cond d (code q e r other * r + other q) (code q e r other)) f in
        let front : code q e r value ≡ code q e r other = sym (div-mul-add (code q e r value) r (value q) (below q (omega arith))) ∙ ap (λ x. x / r) here ∙ div-mul-add (code q e r other) r (other q) (above q (omega arith)) in
        let end : value q ≡ other q = sym (mod-mul-add (code q e r value) r (value q) (below q (omega arith))) ∙ ap (λ x. x % r) here ∙ mod-mul-add (code q e r other) r (other q) (above q (omega arith)) in
        ⊎_elim (λ (g : i ≡ q). ap value g ∙ end ∙ ap other (sym g)) (λ apart. shorter front (omega (arith, h, apart))) (cases_eq i q)
    go false f shorter =
        ⊎_elim (λ (g : i ≡ q). absurd (false≢true (sym f ∙ ap e (sym g) ∙ passes)))
        (λ apart. shorter (sym (ap (λ d. cond d (code q e r value * r + value q) (code q e r value)) f) ∙ same ∙ ap (λ d. cond d (code q e r other * r + other q) (code q e r other)) f) (omega (arith, h, apart))) (cases_eq i q)
