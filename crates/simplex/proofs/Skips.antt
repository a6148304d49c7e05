-- One more element at a place of a list, and how the places behind it move.
use Rattle.std.proofs.Common.{◌≡◌, ◌≢◌, ◌⊎◌, inl, inr, ℕ, zero, suc, ◌+◌, ◌<◌, ◌≤◌, List, [], ◌∷◌, ◌++◌, length, get_or, refl, sym, ap, ◌∙◌, arith, ⊎_elim, ℤ, pos, ◌+ℤ◌}
use Rattle.std.specs.Prelude.{unsigned_abs}
use Rattle.std.proofs.lemmas.Int.{ints}
use Rattle.std.proofs.lemmas.Bool.{cases_eq, cases_lt}
use Rattle.whole_numbers.specs.Divisors.{gcd_of, gcd_of_all}
use Rattle.whole_numbers.proofs.CommonDivisors.{gcd_of_comm, gcd_of_assoc}
use Rattle.farkas_check.specs.Frames.{sum_below}
use Rattle.simplex.proofs.Lines.{one-gcd_of}
use Rattle.simplex.proofs.Sums.{sum_below-same}

-- an element put in at a place
abbrev pub put : {X : Type 0} → ℕ → X → List X → List X
put zero x xs = x ∷ xs
put (suc k) x [] = x ∷ []
put (suc k) x (y ∷ ys) = y ∷ put k x ys

-- where what stood at j stands then
abbrev pub skip : ℕ → ℕ → ℕ
skip zero j = suc j
skip (suc k) zero = zero
skip (suc k) (suc j) = suc (skip k j)

pub put-length : {X : Type 0} (k : ℕ) (x : X) (xs : List X) → length (put k x xs) ≡ length xs + 1
put-length zero x xs = omega arith
put-length (suc k) x [] = omega arith
put-length (suc k) x (y ∷ ys) = let e : length (put k x ys) ≡ length ys + 1 = put-length k x ys in omega (arith, e)

pub put-here : {X : Type 0} (k : ℕ) (x : X) (xs : List X) (d : X) → k ≤ length xs → get_or (put k x xs) k d ≡ x
put-here zero x xs d h = refl
put-here (suc k) x [] d h = absurd (omega (arith, h))
put-here (suc k) x (y ∷ ys) d h = put-here k x ys d (omega (arith, h))

pub put-skip : {X : Type 0} (k : ℕ) (x : X) (xs : List X) (j : ℕ) (d : X) → k ≤ length xs → get_or (put k x xs) (skip k j) d ≡ get_or xs j d
put-skip zero x xs j d h = refl
put-skip (suc k) x [] j d h = absurd (omega (arith, h))
put-skip (suc k) x (y ∷ ys) zero d h = refl
put-skip (suc k) x (y ∷ ys) (suc j) d h = put-skip k x ys j d (omega (arith, h))

pub put-front : {X : Type 0} (front : List X) (x : X) (xs : List X) → put (length front) x (front ++ xs) ≡ front ++ x ∷ xs
put-front [] x xs = refl
put-front (y ∷ front) x xs = ap (λ zs. y ∷ zs) (put-front front x xs)

pub skip-below : (k j : ℕ) → j < k → skip k j ≡ j
skip-below zero j h = absurd (omega (arith, h))
skip-below (suc k) zero h = refl
skip-below (suc k) (suc j) h = ap (λ (n : ℕ). suc n) (skip-below k j (omega (arith, h)))

pub skip-above : (k j : ℕ) → k ≤ j → skip k j ≡ j + 1
skip-above zero j h = omega arith
skip-above (suc k) zero h = absurd (omega (arith, h))
skip-above (suc k) (suc j) h = let e : skip k j ≡ j + 1 = skip-above k j (omega (arith, h)) in omega (arith, e)

-- a place that moves comes to another one than that of the new element, and no two to one
pub skip-apart : (k j : ℕ) → skip k j ≢ k
skip-apart k j e = ⊎_elim (λ (h : j < k). let f : skip k j ≡ j = skip-below k j h in absurd (omega (arith, e, f, h))) (λ (h : k ≤ j). let f : skip k j ≡ j + 1 = skip-above k j h in absurd (omega (arith, e, f, h))) (cases_lt j k)

pub skip-same : (k i j : ℕ) → skip k i ≡ skip k j → i ≡ j
skip-same zero i j e = omega (arith, e)
skip-same (suc k) zero zero e = refl
skip-same (suc k) zero (suc j) e = absurd (omega (arith, e))
skip-same (suc k) (suc i) zero e = absurd (omega (arith, e))
skip-same (suc k) (suc i) (suc j) e = let f : i ≡ j = skip-same k i j (omega (arith, e)) in omega (arith, f)

pub skip-less : (n k j : ℕ) → j < n → skip k j < n + 1
skip-less n k j h = ⊎_elim (λ (g : j < k). let f : skip k j ≡ j = skip-below k j g in omega (arith, f, h)) (λ (g : k ≤ j). let f : skip k j ≡ j + 1 = skip-above k j g in omega (arith, f, h)) (cases_lt j k)

pub less-skip : (n k j : ℕ) → k ≤ n → skip k j < n + 1 → j < n
less-skip n k j m h = ⊎_elim (λ (g : j < k). omega (arith, g, m)) (λ (g : k ≤ j). let f : skip k j ≡ j + 1 = skip-above k j g in omega (arith, f, h)) (cases_lt j k)

-- a place behind that of the new element
pub skip-unit : (k units l : ℕ) → k ≤ units → skip k (units + l) ≡ units + 1 + l
skip-unit k units l h = let e : skip k (units + l) ≡ units + l + 1 = skip-above k (units + l) (omega (arith, h)) in omega (arith, e)

-- each place is that of the new element, or one to which another one moved
pub skipped : (n k j : ℕ) → k ≤ n → j < n + 1 → (j ≡ k) ⊎ ((i : ℕ) × ((i < n) × (j ≡ skip k i)))
skipped n k j m h = ⊎_elim (λ (g : j < k). inr (j, (omega (arith, g, m), sym (skip-below k j g))))
    (λ (g : k ≤ j). ⊎_elim (λ (same : j ≡ k). inl same) (λ other. inr (later j h g other)) (cases_eq j k)) (cases_lt j k)
  where
    later : (j : ℕ) → j < n + 1 → k ≤ j → j ≢ k → (i : ℕ) × ((i < n) × (j ≡ skip k i))
    later zero h g other = absurd (omega (arith, g, other))
    later (suc j) h g other = (j, (omega (arith, h), (let e : skip k j ≡ j + 1 = skip-above k j (omega (arith, g, other)) in omega (arith, e))))

pub sum_skip : (n k : ℕ) (f : ℕ → ℤ) → k ≤ n → sum_below (suc n) f ≡ sum_below n (λ j. f (skip k j)) +ℤ f k
sum_skip zero k f h = let e : 0 ≡ k = omega (arith, h) in ap (λ (m : ℕ). pos 0 +ℤ f m) e
sum_skip (suc n) k f h = ⊎_elim (λ (g : n < k). last (omega (arith, h, g))) (λ (g : k ≤ n). before g (sum_skip n k f g)) (cases_lt n k)
  where
    regroup : (s a b : ℤ) → s +ℤ a +ℤ b ≡ s +ℤ b +ℤ a
    regroup s a b = omega (arith, ints)

    before : k ≤ n → sum_below (suc n) f ≡ sum_below n (λ j. f (skip k j)) +ℤ f k → sum_below (suc (suc n)) f ≡ sum_below (suc n) (λ j. f (skip k j)) +ℤ f k
    before g known =
        let e : suc n ≡ skip k n = (let x : skip k n ≡ n + 1 = skip-above k n g in omega (arith, x)) in
        ap (λ z. z +ℤ f (suc n)) known ∙ regroup (sum_below n (λ j. f (skip k j))) (f k) (f (suc n))
        ∙ ap (λ (m : ℕ). sum_below n (λ j. f (skip k j)) +ℤ f m +ℤ f k) e

    last : k ≡ suc n → sum_below (suc (suc n)) f ≡ sum_below (suc n) (λ j. f (skip k j)) +ℤ f k
    last e =
        ap (λ z. z +ℤ f (suc n)) (sum_below-same (suc n) f (λ j. f (skip k j)) (λ j g. ap f (sym (skip-below k j (omega (arith, g, e))))))
        ∙ ap (λ (m : ℕ). sum_below (suc n) (λ j. f (skip k j)) +ℤ f m) (sym e)

pub gcd-put : (k : ℕ) (z : ℤ) (zs : List ℤ) → gcd_of_all (put k z zs) ≡ gcd_of (unsigned_abs z) (gcd_of_all zs)
gcd-put zero z zs = refl
gcd-put (suc k) z [] = refl
gcd-put (suc k) z (y ∷ ys) =
    ap (gcd_of (unsigned_abs y)) (gcd-put k z ys)
    ∙ sym (gcd_of_assoc (unsigned_abs y) (unsigned_abs z) (gcd_of_all ys))
    ∙ ap (λ (d : ℕ). gcd_of d (gcd_of_all ys)) (gcd_of_comm (unsigned_abs y) (unsigned_abs z))
    ∙ gcd_of_assoc (unsigned_abs z) (unsigned_abs y) (gcd_of_all ys)

pub primitive-put : (k : ℕ) (z : ℤ) (zs : List ℤ) → gcd_of_all zs ≡ 1 → gcd_of_all (put k z zs) ≡ 1
primitive-put k z zs e = gcd-put k z zs ∙ ap (gcd_of (unsigned_abs z)) e ∙ gcd_of_comm (unsigned_abs z) 1 ∙ one-gcd_of (unsigned_abs z)
