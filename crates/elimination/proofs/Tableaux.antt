-- Tableaux of a frame with few columns before its units, and small numbers: each line and each
-- column of multiples is proportional to whole numbers that are small.
use Rattle.std.proofs.Common.{◌≡◌, ◌≢◌, ℕ, suc, ◌+◌, ◌*◌, ◌-◌, ◌<◌, ◌≤◌, Bool, true, false, refl, sym, ap, ◌∙◌, arith, ⊎_elim, ℤ, pos, ◌*ℤ◌, ◌<ℤ◌}
use Rattle.std.specs.Prelude.{◌^◌, not, unsigned_abs}
use Rattle.std.proofs.lemmas.Int.{ints}
use Rattle.std.proofs.lemmas.Bool.{cases_lt}
use Rattle.std.proofs.Math.Nat.{mul-pos, mul_assoc, pow-succ', pow-le-pow_right}
use Rattle.std.proofs.Math.IntN.{*ℤ_comm, zero-*ℤ}
use Rattle.whole_numbers.proofs.Ring.{one-*ℤ, *ℤ_assoc}
use Rattle.farkas_check.specs.Frames.{sum_below}
use Rattle.simplex.specs.Choices.{count_to}
use Rattle.simplex.proofs.Corners.{single}
use Rattle.simplex.proofs.Exchanges.{times_zero, zero_factor}
use Rattle.simplex.proofs.Sums.{sum_below-same}
use Rattle.elimination.proofs.Counts.{count_to-plus, count_to-not, count_to-all, count_to-less, is_other, is_other-at, is_other-few}
use Rattle.elimination.proofs.DoubleSums.{sum_below-order, sum_below-times, sum_of_products-small}
use Rattle.elimination.proofs.Solutions.{HasSolution, solution}

-- lines of numbers up to a size, with unit columns behind them
pub record HasUnits (size lines units : ℕ) (frame : ℕ → ℕ → ℤ) : Type 0 where
  pub unit : (l : ℕ) → l < lines → frame l (units + l) ≡ pos 1
  pub nothing : (l k : ℕ) → l < lines → k < lines → l ≢ k → frame l (units + k) ≡ pos 0
  pub small : (l j : ℕ) → l < lines → j < units → unsigned_abs (frame l j) ≤ size

-- each column is a sum of multiples of the chosen ones
pub record Writes (lines units : ℕ) (frame : ℕ → ℕ → ℤ) (chosen : ℕ → ℕ) (over : ℤ) (multiple : ℕ → ℕ → ℤ) : Type 0 where
  pub within : (k : ℕ) → k < lines → chosen k < units + lines
  pub positive : pos 0 <ℤ over
  pub writes : (l j : ℕ) → l < lines → j < units + lines → over *ℤ frame l j ≡ sum_below lines (λ k. multiple k j *ℤ frame l (chosen k))

-- ---- lines

-- whole numbers that are proportional to a line of multiples
pub record HasLine (most lines units : ℕ) (frame : ℕ → ℕ → ℤ) (chosen : ℕ → ℕ) (over : ℤ) (multiple : ℕ → ℕ → ℤ) (i : ℕ) : Type 0 where
  pub by : ℕ → ℤ
  pub others : (k : ℕ) → k < lines → k ≢ i → sum_below lines (λ l. frame l (chosen k) *ℤ by l) ≡ pos 0
  pub own : sum_below lines (λ l. frame l (chosen i) *ℤ by l) ≡ pos 0 → ⊥
  pub small : (j : ℕ) → j < units + lines → unsigned_abs (sum_below lines (λ l. frame l j *ℤ by l)) ≤ most
  pub is : (j : ℕ) → j < units + lines → over *ℤ sum_below lines (λ l. frame l j *ℤ by l) ≡ sum_below lines (λ l. frame l (chosen i) *ℤ by l) *ℤ multiple i j

-- a combination of the lines, at a unit column
at_unit : (size lines units : ℕ) (frame : ℕ → ℕ → ℤ) (by : ℕ → ℤ) (l : ℕ) → HasUnits size lines units frame → l < lines → sum_below lines (λ k. frame k (units + l) *ℤ by k) ≡ by l
at_unit size lines units frame by l u h =
    single lines (λ k. frame k (units + l) *ℤ by k) l h (λ k g other. ap (λ z. z *ℤ by k) (u.nothing k l g h other) ∙ zero-*ℤ (by k))
    ∙ ap (λ z. z *ℤ by l) (u.unit l h) ∙ one-*ℤ (by l)

-- a combination over one denominator, by the multiples
combined : (lines units : ℕ) (frame : ℕ → ℕ → ℤ) (chosen : ℕ → ℕ) (over : ℤ) (multiple : ℕ → ℕ → ℤ) (by : ℕ → ℤ) (j : ℕ) → Writes lines units frame chosen over multiple → j < units + lines
    → over *ℤ sum_below lines (λ l. frame l j *ℤ by l) ≡ sum_below lines (λ k. multiple k j *ℤ sum_below lines (λ l. frame l (chosen k) *ℤ by l))
combined lines units frame chosen over multiple by j w h =
    sum_below-times lines over (λ l. frame l j *ℤ by l)
    ∙ sum_below-same lines (λ l. over *ℤ (frame l j *ℤ by l)) (λ l. sum_below lines (λ k. multiple k j *ℤ (frame l (chosen k) *ℤ by l))) (λ l g. one l g)
    ∙ sum_below-order lines lines (λ l k. multiple k j *ℤ (frame l (chosen k) *ℤ by l))
    ∙ sum_below-same lines (λ k. sum_below lines (λ l. multiple k j *ℤ (frame l (chosen k) *ℤ by l))) (λ k. multiple k j *ℤ sum_below lines (λ l. frame l (chosen k) *ℤ by l)) (λ k g. sym (sum_below-times lines (multiple k j) (λ l. frame l (chosen k) *ℤ by l)))
  where
    one : (l : ℕ) → l < lines → over *ℤ (frame l j *ℤ by l) ≡ sum_below lines (λ k. multiple k j *ℤ (frame l (chosen k) *ℤ by l))
    one l g =
        sym (*ℤ_assoc over (frame l j) (by l))
        ∙ ap (λ z. z *ℤ by l) (w.writes l j g h)
        ∙ *ℤ_comm (sum_below lines (λ k. multiple k j *ℤ frame l (chosen k))) (by l)
        ∙ sum_below-times lines (by l) (λ k. multiple k j *ℤ frame l (chosen k))
        ∙ sum_below-same lines (λ k. by l *ℤ (multiple k j *ℤ frame l (chosen k))) (λ k. multiple k j *ℤ (frame l (chosen k) *ℤ by l)) (λ k m. *ℤ_comm (by l) (multiple k j *ℤ frame l (chosen k)) ∙ *ℤ_assoc (multiple k j) (frame l (chosen k)) (by l))

not_both : (over z : ℤ) → pos 0 <ℤ over → over *ℤ z ≡ pos 0 → z ≡ pos 0
not_both over z p e = zero_factor z over (*ℤ_comm z over ∙ e) (λ q. above over p q)
  where
    above : (z : ℤ) → pos 0 <ℤ z → z ≡ pos 0 → ⊥
    above z p e = omega (arith, ints, p, e)

pub line_of_tableau : (size lines units : ℕ) (frame : ℕ → ℕ → ℤ) (chosen : ℕ → ℕ) (over : ℤ) (multiple : ℕ → ℕ → ℤ) (i : ℕ) → HasUnits size lines units frame → Writes lines units frame chosen over multiple → 0 < size → i < lines
    → HasLine ((lines * size) ^ units) lines units frame chosen over multiple i
line_of_tableau size lines units frame chosen over multiple i u w above here =
    made (solution lines units size (λ l. not (is_other lines i chosen (units + l))) (is_other lines i chosen) (λ c l. frame l c) room fewer (λ c l h g. u.small l c g h))
  where
    room : 0 < lines * size
    room = mul-pos (omega (arith, here)) above

    fewer : count_to units (is_other lines i chosen) < count_to lines (λ l. not (is_other lines i chosen (units + l)))
    fewer =
        let few : count_to (units + lines) (is_other lines i chosen) + 1 ≤ lines = is_other-few (units + lines) lines i chosen here in
        let parts : count_to (units + lines) (is_other lines i chosen) ≡ count_to units (is_other lines i chosen) + count_to lines (λ l. is_other lines i chosen (units + l)) = count_to-plus units lines (is_other lines i chosen) in
        let all : count_to lines (λ l. is_other lines i chosen (units + l)) + count_to lines (λ l. not (is_other lines i chosen (units + l))) ≡ lines = count_to-not lines (λ l. is_other lines i chosen (units + l)) in
        omega (arith, few, parts, all)

    made : HasSolution lines units (λ l. not (is_other lines i chosen (units + l))) (is_other lines i chosen) (λ c l. frame l c) ((lines * size) ^ count_to units (is_other lines i chosen)) → HasLine ((lines * size) ^ units) lines units frame chosen over multiple i
    made s = record {
      by = s.x;
      others = others;
      own = own;
      small = small;
      is = is;
    }
      where
        line : ℕ → ℤ
        line j = sum_below lines (λ l. frame l j *ℤ s.x l)

        at_other : (j : ℕ) → j < units + lines → is_other lines i chosen j ≡ true → sum_below lines (λ l. frame l j *ℤ s.x l) ≡ pos 0
        at_other j h e = ⊎_elim (λ (g : j < units). s.solves j g e) (λ (g : units ≤ j). behind (j - units) (omega (arith, g)) (omega (arith, g, h))) (cases_lt j units)
          where
            behind : (l : ℕ) → j ≡ units + l → l < lines → sum_below lines (λ k. frame k j *ℤ s.x k) ≡ pos 0
            behind l f g = ap (λ c. sum_below lines (λ k. frame k c *ℤ s.x k)) f ∙ at_unit size lines units frame s.x l u g ∙ s.outside l (ap not (ap (is_other lines i chosen) (sym f) ∙ e))

        others : (k : ℕ) → k < lines → k ≢ i → sum_below lines (λ l. frame l (chosen k) *ℤ s.x l) ≡ pos 0
        others k h apart = at_other (chosen k) (w.within k h) (is_other-at lines i chosen k h apart)

        is : (j : ℕ) → j < units + lines → over *ℤ sum_below lines (λ l. frame l j *ℤ s.x l) ≡ sum_below lines (λ l. frame l (chosen i) *ℤ s.x l) *ℤ multiple i j
        is j h =
            combined lines units frame chosen over multiple s.x j w h
            ∙ single lines (λ k. multiple k j *ℤ sum_below lines (λ l. frame l (chosen k) *ℤ s.x l)) i here (λ k g apart. ap (λ z. multiple k j *ℤ z) (others k g apart) ∙ times_zero (multiple k j))
            ∙ *ℤ_comm (multiple i j) (sum_below lines (λ l. frame l (chosen i) *ℤ s.x l))

        own : sum_below lines (λ l. frame l (chosen i) *ℤ s.x l) ≡ pos 0 → ⊥
        own e = s.not_zero (sym (at_unit size lines units frame s.x s.place u s.here) ∙ not_both over (sum_below lines (λ l. frame l (units + s.place) *ℤ s.x l)) w.positive (is (units + s.place) (omega (arith, s.here)) ∙ ap (λ z. z *ℤ multiple i (units + s.place)) e ∙ zero-*ℤ (multiple i (units + s.place))))

        most : ℕ → ℕ
        most e = (lines * size) ^ e

        small : (j : ℕ) → j < units + lines → unsigned_abs (sum_below lines (λ l. frame l j *ℤ s.x l)) ≤ (lines * size) ^ units
        small j h = ⊎_elim (λ (g : j < units). before g (is_other lines i chosen j) refl) (λ (g : units ≤ j). behind (j - units) (omega (arith, g)) (omega (arith, g, h))) (cases_lt j units)
          where
            nothing : (z : ℤ) (n : ℕ) → z ≡ pos 0 → unsigned_abs z ≤ n
            nothing z n e = omega (arith, ints, e)

            behind : (l : ℕ) → j ≡ units + l → l < lines → unsigned_abs (sum_below lines (λ k. frame k j *ℤ s.x k)) ≤ (lines * size) ^ units
            behind l f g =
                let same : unsigned_abs (sum_below lines (λ k. frame k j *ℤ s.x k)) ≡ unsigned_abs (s.x l) = ap unsigned_abs (ap (λ c. sum_below lines (λ k. frame k c *ℤ s.x k)) f ∙ at_unit size lines units frame s.x l u g) in
                let up : unsigned_abs (s.x l) ≤ (lines * size) ^ count_to units (is_other lines i chosen) = s.small l in
                let more : (lines * size) ^ count_to units (is_other lines i chosen) ≤ (lines * size) ^ units = pow-le-pow_right {n = lines * size} room (count_to-all units (is_other lines i chosen)) in
                omega (arith, same, up, more)

            before : j < units → (b : Bool) → is_other lines i chosen j ≡ b → unsigned_abs (sum_below lines (λ l. frame l j *ℤ s.x l)) ≤ (lines * size) ^ units
            before g true e = nothing (sum_below lines (λ l. frame l j *ℤ s.x l)) ((lines * size) ^ units) (at_other j h e)
            before g false e =
                let sum : unsigned_abs (sum_below lines (λ l. frame l j *ℤ s.x l)) ≤ lines * (size * (lines * size) ^ count_to units (is_other lines i chosen)) = sum_of_products-small lines size ((lines * size) ^ count_to units (is_other lines i chosen)) (λ l. frame l j) s.x (λ l k. u.small l j k g) (λ l k. s.small l) in
                let next : (lines * size) ^ suc (count_to units (is_other lines i chosen)) ≡ lines * size * (lines * size) ^ count_to units (is_other lines i chosen) = pow-succ' (lines * size) (count_to units (is_other lines i chosen)) in
                let group : lines * size * (lines * size) ^ count_to units (is_other lines i chosen) ≡ lines * (size * (lines * size) ^ count_to units (is_other lines i chosen)) = mul_assoc lines size ((lines * size) ^ count_to units (is_other lines i chosen)) in
                let less : count_to units (is_other lines i chosen) + 1 ≤ units = count_to-less units (is_other lines i chosen) j g e in
                let more : (lines * size) ^ suc (count_to units (is_other lines i chosen)) ≤ (lines * size) ^ units = pow-le-pow_right {n = lines * size} room (omega (arith, less)) in
                omega (arith, sum, next, group, more)
