-- What the code makes of lines: their lengths and their numbers.
use Rattle.std.proofs.Common.{◌≡◌, ℕ, zero, suc, ◌+◌, ◌<◌, ◌≤◌, Bool, true, false, cond, List, [], ◌∷◌, length, drop, get_or, refl, sym, ap, ◌∙◌, arith, Ok, Err, ℤ, pos, negsuc, ◌+ℤ◌, ◌*ℤ◌}
use Rattle.std.specs.Prelude.{unsigned_abs, int_lt, int_div, nat_eq, map, Result}
use Rattle.std.proofs.Math.IntN.{*ℤ_comm, zero-*ℤ}
use Rattle.std.proofs.Math.Nat.{one-dvd}
use Rattle.std.proofs.lemmas.Int.{ints}
use Rattle.std.proofs.lemmas.List.{drop_more, drop_all, get_or_read}
use Rattle.items.specs.Gives.{◌>>=◌}
use Rattle.items.proofs.Gives.{on_ok}
use Rattle.whole_numbers.specs.Fits.{fits, sum_of, product_of}
use Rattle.whole_numbers.specs.Divisors.{gcd_of, gcd_of_all}
use Rattle.whole_numbers.specs.declared.wide.Wide as Step
use Rattle.whole_numbers.proofs.CommonDivisors.{gcd_of_assoc, gcd_of-zero, gcd_of-unique, zero-gcd_of}
use Rattle.whole_numbers.proofs.Quotients.{int_div-*ℤ}
use Rattle.whole_numbers.proofs.Ring.{*ℤ-one}
use Rattle.simplex.specs.Exchange.{sum_of_products, line_multiple, reduced_line, upright_line}
use Rattle.farkas_check.specs.Relations.{entry}

-- ---- the greatest common divisor

pub divisor-next : (d : ℕ) (line : List ℤ) (i : ℕ) (z : ℤ) → i < length line → z ≡ get_or line i z → gcd_of (gcd_of d (unsigned_abs z)) (gcd_of_all (drop (i + 1) line)) ≡ gcd_of d (gcd_of_all (drop i line))
divisor-next d line i z h e =
    gcd_of_assoc d (unsigned_abs z) (gcd_of_all (drop (i + 1) line))
    ∙ ap (λ zs. gcd_of d (gcd_of_all zs)) (sym (drop_more line i z h ∙ ap (λ y. y ∷ drop (i + 1) line) (sym e)))

pub divisor-end : (d : ℕ) (line : List ℤ) (i : ℕ) → length line ≤ i → gcd_of d (gcd_of_all (drop i line)) ≡ d
divisor-end d line i h = let e : drop i line ≡ [] = drop_all i line h in ap (λ zs. gcd_of d (gcd_of_all zs)) e ∙ gcd_of-zero d

pub ruleset divisors = (zero-gcd_of)

-- 0 has all divisors
pub gcd_of-nothing : (d : ℕ) (z : ℤ) → z ≡ pos 0 → d ≡ gcd_of d (unsigned_abs z)
gcd_of-nothing d z e = sym (ap (λ w. gcd_of d (unsigned_abs w)) e ∙ gcd_of-zero d)

pub ruleset zero_divisors = (gcd_of-nothing)

-- no number has a greater divisor with 1
pub one-gcd_of : (n : ℕ) → gcd_of 1 n ≡ 1
one-gcd_of n = gcd_of-unique 1 n 1 (one-dvd 1, one-dvd n, λ d p q. p)

quotient-one : (z : ℤ) → int_div z (pos 1) ≡ z
quotient-one z = sym (*ℤ-one (int_div z (pos 1))) ∙ int_div-*ℤ z 1 (one-dvd (unsigned_abs z))

quotients-one : (line : List ℤ) → map (λ z. int_div z (pos 1)) line ≡ line
quotients-one [] = refl
quotients-one (z ∷ line) = cc_of (quotient-one z) (quotients-one line)
  where
    cc_of : {a b : ℤ} {xs ys : List ℤ} → a ≡ b → xs ≡ ys → a ∷ xs ≡ b ∷ ys
    cc_of e f = cc

-- a line whose divisor is 1, or that is 0, stays as it is
pub reduced-short : (line : List ℤ) → gcd_of_all line ≤ 1 → line ≡ reduced_line line
reduced-short line h = go (gcd_of_all line) refl h
  where
    go : (d : ℕ) → gcd_of_all line ≡ d → d ≤ 1 → line ≡ cond (nat_eq d 0) line (map (λ z. int_div z (pos d)) line)
    go zero e k = refl
    go (suc zero) e k = sym (quotients-one line)
    go (suc (suc d)) e k = absurd (omega (arith, k))

pub ruleset short_lines = (reduced-short)

-- ---- sums in which a number is 0

zero_product : (p z : ℤ) → z ≡ pos 0 → product_of p z ≡ Ok (pos 0)
zero_product p z e = ap (product_of p) e ∙ ap (λ w. cond (fits w) (Ok w) (Err record { left = p; right = pos 0; times = true })) (*ℤ_comm p (pos 0) ∙ zero-*ℤ p)

-- no multiple of 0 is another number
pub multiple_of_nothing : (z by : ℤ) → z ≡ pos 0 → Ok (pos 0) ≡ product_of z by
multiple_of_nothing z by e = sym (ap (λ w. product_of w by) e ∙ ap (λ w. cond (fits w) (Ok w) (Err record { left = pos 0; right = by; times = true })) (zero-*ℤ by))

pub ruleset nothing_made = (multiple_of_nothing)

-- a product is a number of 128 bits, so nothing more leaves them
added : (q b : ℤ) → (product_of q b >>= λ y. sum_of (pos 0) y) ≡ product_of q b
added q b = go (fits (q *ℤ b)) refl
  where
    go : (c : Bool) → fits (q *ℤ b) ≡ c → (cond c (Ok (q *ℤ b)) (Err record { left = q; right = b; times = true }) >>= λ y. sum_of (pos 0) y) ≡ cond c (Ok (q *ℤ b)) (Err record { left = q; right = b; times = true })
    go true e = ap (λ w. cond (fits w) (Ok w) (Err record { left = pos 0; right = q *ℤ b; times = false })) (plain (q *ℤ b)) ∙ ap (λ c. cond c (Ok (q *ℤ b)) (Err record { left = pos 0; right = q *ℤ b; times = false })) e
      where
        plain : (z : ℤ) → pos 0 +ℤ z ≡ z
        plain z = omega (arith, ints)
    go false e = refl

left_alone : (p a : ℤ) → (product_of p a >>= λ x. sum_of x (pos 0)) ≡ product_of p a
left_alone p a = go (fits (p *ℤ a)) refl
  where
    go : (c : Bool) → fits (p *ℤ a) ≡ c → (cond c (Ok (p *ℤ a)) (Err record { left = p; right = a; times = true }) >>= λ x. sum_of x (pos 0)) ≡ cond c (Ok (p *ℤ a)) (Err record { left = p; right = a; times = true })
    go true e = ap (λ w. cond (fits w) (Ok w) (Err record { left = p *ℤ a; right = pos 0; times = false })) (plain (p *ℤ a)) ∙ ap (λ c. cond c (Ok (p *ℤ a)) (Err record { left = p *ℤ a; right = pos 0; times = false })) e
      where
        plain : (z : ℤ) → z +ℤ pos 0 ≡ z
        plain z = omega (arith, ints)
    go false e = refl

pub first_nothing : (p a q b : ℤ) → a ≡ pos 0 → product_of q b ≡ sum_of_products p a q b
first_nothing p a q b e = sym (ap (λ r. r >>= λ x. product_of q b >>= λ y. sum_of x y) (zero_product p a e) ∙ added q b)

pub second_nothing : (p a q b : ℤ) → b ≡ pos 0 → product_of p a ≡ sum_of_products p a q b
second_nothing p a q b e = sym (ap (λ r. product_of p a >>= λ x. r >>= λ y. sum_of x y) (zero_product q b e) ∙ left_alone p a)

pub both_nothing : (p a q b : ℤ) → a ≡ pos 0 → b ≡ pos 0 → Ok (pos 0) ≡ sum_of_products p a q b
both_nothing p a q b e f = sym (zero_product q b f) ∙ first_nothing p a q b e

pub ruleset nothing_added = (first_nothing, second_nothing, both_nothing)

-- ---- lengths

lines_ok : List ℤ → Result (List ℤ) Step.Wide
lines_ok zs = Ok zs

pub line_multiple-length : (line : List ℤ) (by : ℤ) (made : List ℤ) → line_multiple line by ≡ Ok made → length made ≡ length line
line_multiple-length [] by made e = let same : [] ≡ made = cc in ap length (sym same)
line_multiple-length (a ∷ line) by made e =
    on_ok (product_of a by) (λ z. line_multiple line by >>= λ more. Ok (z ∷ more)) made e
    (λ z f g. on_ok (line_multiple line by) (λ more. Ok (z ∷ more)) made g
    (λ more h k. let is = chain z more (cc) (line_multiple-length line by more h) in omega (arith, is)))
  where
    chain : (z : ℤ) (more : List ℤ) → z ∷ more ≡ made → length more ≡ length line → length made ≡ length line + 1
    chain z more e f = let h : length (z ∷ more) ≡ length made = ap length e in omega (arith, h, f)

pub upright-length : (column : ℕ) (line made : List ℤ) → upright_line column line ≡ Ok made → length made ≡ length line
upright-length column line made e = go (int_lt (entry line column) (pos 0)) e
  where
    go : (b : Bool) → cond b (line_multiple line (negsuc 0)) (Ok line) ≡ Ok made → length made ≡ length line
    go true f = line_multiple-length line (negsuc 0) made f
    go false f = let same : line ≡ made = cc in ap length (sym same)

-- the pivot has a number for each column
pub pivot-length : (columns : ℕ) (lines : List (List ℤ)) (line column : ℕ) (own pivot : List ℤ) → ((i : ℕ) → i < length lines → length (get_or lines i []) ≡ columns) → line < length lines → own ≡ get_or lines line own → upright_line column own ≡ Ok pivot → length pivot ≡ columns
pivot-length columns lines line column own pivot wide h e f =
    upright-length column own pivot f ∙ ap length (get_or_read lines line own h e []) ∙ wide line h
