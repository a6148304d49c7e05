-- Lines stay without common divisor.
use Rattle.std.proofs.Common.{◌≡◌, ℕ, zero, suc, ◌+◌, ◌<◌, ◌≤◌, Bool, true, false, cond, List, [], ◌∷◌, length, map, get_or, refl, sym, ap, subst, ◌∙◌, arith, Ok, ℤ, pos, negsuc, ◌*ℤ◌, ◌<ℤ◌}
use Rattle.std.specs.Prelude.{int_lt, int_div, nat_eq, Result, slice_set, unsigned_abs}
use Rattle.std.specs.Int.{◌∣◌}
use Rattle.std.specs.Ordering.{int_eq}
use Rattle.std.proofs.lemmas.Int.{ints}
use Rattle.std.proofs.lemmas.Bool.{eqb-true, false≢true}
use Rattle.std.proofs.Math.Nat.{eq-zero_of_zero-dvd}
use Rattle.std.proofs.lemmas.Nat.Gcd.{le_of_dvd}
use Rattle.items.specs.Gives.{◌>>=◌}
use Rattle.items.proofs.Gives.{on_ok}
use Rattle.whole_numbers.specs.Fits.{product_of}
use Rattle.whole_numbers.specs.Divisors.{gcd_of, gcd_of_all}
use Rattle.whole_numbers.specs.declared.wide.Wide as Step
use Rattle.whole_numbers.proofs.CommonDivisors.{DividesEach, DividesEach-gcd_of_all}
use Rattle.whole_numbers.proofs.Quotients.{gcd_of_all-reduced}
use Rattle.simplex.specs.declared.tableau.Tableau.{Tableau}
use Rattle.simplex.specs.Exchange.{sum_of_lines, line_multiple, reduced_line, upright_line, line_without, line_without_at, lines_without, exchange, numbers_of, choices_of, IsTableauOf, ArePrimitive}
use Rattle.farkas_check.specs.Relations.{entry}
use Rattle.simplex.proofs.Numbers.{AreCleared, lines_without-is, product_of-value, exchange-keeps, tableau_ok}

abbrev lines_ok : List ℤ → Result (List ℤ) Step.Wide
lines_ok zs = Ok zs

-- ---- the pivot

line_multiple-divisor : (line made : List ℤ) → line_multiple line (negsuc 0) ≡ Ok made → gcd_of_all made ≡ gcd_of_all line
line_multiple-divisor [] made e = let same : [] ≡ made = cc in ap gcd_of_all (sym same)
line_multiple-divisor (a ∷ line) made e =
    on_ok (product_of a (negsuc 0)) (λ z. line_multiple line (negsuc 0) >>= λ more. lines_ok (z ∷ more)) made e
    (λ z f g. on_ok (line_multiple line (negsuc 0)) (λ more. lines_ok (z ∷ more)) made g
    (λ more h k. let is : z ∷ more ≡ made = cc in
    ap gcd_of_all (sym is) ∙ ap (λ d. gcd_of (unsigned_abs z) d) (line_multiple-divisor line more h) ∙ ap (λ d. gcd_of d (gcd_of_all line)) (ap unsigned_abs (product_of-value a (negsuc 0) z f) ∙ size a)))
  where
    size : (a : ℤ) → unsigned_abs (a *ℤ negsuc 0) ≡ unsigned_abs a
    size a = omega (arith, ints)

upright-divisor : (column : ℕ) (line made : List ℤ) → upright_line column line ≡ Ok made → gcd_of_all made ≡ gcd_of_all line
upright-divisor column line made e = go (int_lt (entry line column) (pos 0)) e
  where
    go : (b : Bool) → cond b (line_multiple line (negsuc 0)) (Ok line) ≡ Ok made → gcd_of_all made ≡ gcd_of_all line
    go true f = line_multiple-divisor line made f
    go false f = let same : line ≡ made = cc in ap gcd_of_all (sym same)

-- ---- the other lines

-- where 0 divides each, each is 0
all_zero : (line : List ℤ) → DividesEach 0 line → (j : ℕ) → entry line j ≡ pos 0
all_zero [] h j = refl
all_zero (z ∷ line) h zero = zero_size z (eq-zero_of_zero-dvd h.0)
  where
    zero_size : (z : ℤ) → unsigned_abs z ≡ 0 → z ≡ pos 0
    zero_size z e = omega (arith, ints, e)
all_zero (z ∷ line) h (suc j) = all_zero line h.1 j

reduced-primitive : (line : List ℤ) (j : ℕ) → (entry (reduced_line line) j ≡ pos 0 → ⊥) → gcd_of_all (reduced_line line) ≡ 1
reduced-primitive line j n = go (nat_eq (gcd_of_all line) 0) refl n
  where
    some : (d : ℕ) → nat_eq d 0 ≡ false → 0 < d
    some zero e = absurd (false≢true (sym e))
    some (suc d) e = omega arith

    none : (d : ℕ) → nat_eq d 0 ≡ true → d ≡ 0
    none d e = eqb-true d 0 e

    go : (b : Bool) → nat_eq (gcd_of_all line) 0 ≡ b → (entry (cond b line (map (λ z. int_div z (pos (gcd_of_all line))) line)) j ≡ pos 0 → ⊥) → gcd_of_all (cond b line (map (λ z. int_div z (pos (gcd_of_all line))) line)) ≡ 1
    go true e n = absurd (n (all_zero line (subst (λ (d : ℕ). DividesEach d line) (none (gcd_of_all line) e) (DividesEach-gcd_of_all line)) j))
    go false e n = gcd_of_all-reduced line (some (gcd_of_all line) e)

pub line_without-primitive : (column : ℕ) (pivot line made : List ℤ) (j : ℕ) → gcd_of_all line ≡ 1 → line_without column pivot line ≡ Ok made → (entry made j ≡ pos 0 → ⊥) → gcd_of_all made ≡ 1
line_without-primitive column pivot line made j p e n = go (int_eq (entry line column) (pos 0)) e
  where
    go : (b : Bool) → cond b (lines_ok line) (product_of (entry line column) (negsuc 0) >>= λ q. sum_of_lines (entry pivot column) line q pivot >>= λ zs. lines_ok (reduced_line zs)) ≡ Ok made → gcd_of_all made ≡ 1
    go true g = let same : line ≡ made = cc in ap gcd_of_all (sym same) ∙ p
    go false g =
        on_ok (product_of (entry line column) (negsuc 0)) (λ q. sum_of_lines (entry pivot column) line q pivot >>= λ zs. lines_ok (reduced_line zs)) made g
        (λ q h k. on_ok (sum_of_lines (entry pivot column) line q pivot) (λ zs. lines_ok (reduced_line zs)) made k
        (λ zs m o. let same : reduced_line zs ≡ made = cc in ap gcd_of_all (sym same) ∙ reduced-primitive zs j (λ z. n (ap (λ ys. entry ys j) (sym same) ∙ z))))

-- ---- an exchange

pub exchange-primitive : (units : ℕ) (frame : ℕ → ℕ → ℤ) (before after : Tableau) (line column : ℕ) → IsTableauOf units frame before → line < length before.lines → column < units + length before.lines → (numbers_of before line column ≡ pos 0 → ⊥) → ArePrimitive before → exchange before line column ≡ Ok after → ArePrimitive after
exchange-primitive units frame before after line column t here in_range n p e =
    on_ok (upright_line column (get_or before.lines line [])) (λ pivot. lines_without column pivot line 0 before.lines >>= λ lines. tableau_ok (record { lines = lines; chosen = slice_set before.chosen line column })) after e
    (λ pivot f g. on_ok (lines_without column pivot line 0 before.lines) (λ lines. tableau_ok (record { lines = lines; chosen = slice_set before.chosen line column })) after g
    (λ lines h k. let same : record { lines = lines; chosen = slice_set before.chosen line column } ≡ after = cc in
    made pivot lines same (upright-divisor column (get_or before.lines line []) pivot f ∙ p line here) (lines_without-is column pivot line 0 before.lines lines h)
    (exchange-keeps units frame before after line column t here in_range n e)))
  where
    not_zero : (z : ℤ) → pos 0 <ℤ z → z ≡ pos 0 → ⊥
    not_zero z q f = omega (arith, ints)

    made : (pivot : List ℤ) (lines : List (List ℤ)) → record { lines = lines; chosen = slice_set before.chosen line column } ≡ after → gcd_of_all pivot ≡ 1 → AreCleared column pivot line 0 before.lines lines → IsTableauOf units frame after → ArePrimitive after
    made pivot lines same one c s i h = ap (λ (u : Tableau). gcd_of_all (get_or u.lines i [])) (sym same) ∙ at (nat_eq i line) (from_zero (c.each i inside))
      where
        inside : i < length before.lines
        inside = subst (λ (m : ℕ). i < m) c.many (subst (λ (u : Tableau). i < length u.lines) (sym same) h)

        from_zero : line_without_at column pivot line (0 + i) (get_or before.lines i []) ≡ Ok (get_or lines i []) → line_without_at column pivot line i (get_or before.lines i []) ≡ Ok (get_or lines i [])
        from_zero e = let z : 0 + i ≡ i = omega arith in rw z at e

        at : (b : Bool) → cond b (lines_ok pivot) (line_without column pivot (get_or before.lines i [])) ≡ Ok (get_or lines i []) → gcd_of_all (get_or lines i []) ≡ 1
        at true f = let is : pivot ≡ get_or lines i [] = cc in ap gcd_of_all (sym is) ∙ one
        at false f = line_without-primitive column pivot (get_or before.lines i []) (get_or lines i []) (choices_of after i) (p i inside) f
            (λ z. not_zero (numbers_of after i (choices_of after i)) (s.is.own i h) (ap (λ (u : Tableau). entry (get_or u.lines i []) (choices_of after i)) (sym same) ∙ z))

-- ---- a line with a 1

divides_at : (d : ℕ) (line : List ℤ) → DividesEach d line → (j : ℕ) → entry line j ≡ pos 1 → d ∣ 1
divides_at d [] h j e = absurd (zero_one e)
  where
    zero_one : pos 0 ≡ pos 1 → ⊥
    zero_one f = omega (arith, ints, f)
divides_at d (z ∷ line) h zero e = subst (λ (m : ℕ). d ∣ m) (ap unsigned_abs e) h.0
divides_at d (z ∷ line) h (suc j) e = divides_at d line h.1 j e

at_most_one : (d : ℕ) → d ∣ 1 → d ≡ 1
at_most_one zero h = let z : 1 ≡ 0 = eq-zero_of_zero-dvd h in absurd (omega (arith, z))
at_most_one (suc d) h = let m : suc d ≤ 1 = le_of_dvd (omega arith) h in omega (arith, m)

pub one-primitive : (line : List ℤ) (j : ℕ) → entry line j ≡ pos 1 → gcd_of_all line ≡ 1
one-primitive line j e = at_most_one (gcd_of_all line) (divides_at (gcd_of_all line) line (DividesEach-gcd_of_all line) j e)
