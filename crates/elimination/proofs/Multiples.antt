-- Tableaux of a frame with few columns before its units, and small numbers: each column of
-- multiples is proportional to whole numbers that are small.
use Rattle.std.proofs.Common.{◌≡◌, ◌≢◌, ℕ, suc, ◌+◌, ◌*◌, ◌-◌, ◌<◌, ◌≤◌, Bool, true, false, cond, refl, sym, ap, subst, ◌∙◌, arith, ⊎_elim, ℤ, pos, ◌+ℤ◌, ◌-ℤ◌, ◌*ℤ◌, ◌<ℤ◌}
use Rattle.std.specs.Prelude.{◌||◌, ◌^◌, nat_eq, nat_lt, not, unsigned_abs, neg_ℤ}
use Rattle.std.proofs.lemmas.Int.{ints}
use Rattle.std.proofs.lemmas.Bool.{cases_eq, cases_lt, eq-eqb, ne_eqb, eqb-true, lt-ltb, ltb-true, false≢true}
use Rattle.std.proofs.Math.Nat.{mul-pos, mul_assoc, pow-succ', pow-le-pow_right, one-le-pow}
use Rattle.std.proofs.Math.IntN.{*ℤ_comm, zero-*ℤ}
use Rattle.whole_numbers.proofs.Ring.{ring, one-*ℤ, *ℤ_assoc}
use Rattle.farkas_check.specs.Frames.{sum_below}
use Rattle.simplex.specs.Choices.{count_to}
use Rattle.simplex.specs.Frames.{is_chosen}
use Rattle.simplex.proofs.ColumnChoices.{is_chosen-at, chosen_by, count_to-more, count_to-chosen}
use Rattle.simplex.proofs.Corners.{none, single}
use Rattle.simplex.proofs.Exchanges.{times_zero, zero_factor}
use Rattle.simplex.proofs.RowCorners.{sum_below-plus}
use Rattle.simplex.proofs.Sums.{sum_below-same}
use Rattle.elimination.proofs.Counts.{count_to-plus, count_to-not, count_to-all}
use Rattle.elimination.proofs.DoubleSums.{sum_below-order, sum_below-times, sum_of_pair, sum_of_products-small}
use Rattle.elimination.proofs.Solutions.{HasSolution, solution}
use Rattle.elimination.proofs.Tableaux.{HasUnits, Writes, HasLine, line_of_tableau}

-- whole numbers that are proportional to a column of multiples, and the denominator
pub record HasColumn (most lines : ℕ) (over : ℤ) (multiple : ℕ → ℕ → ℤ) (j : ℕ) : Type 0 where
  pub bottom : ℤ
  pub top : ℕ → ℤ
  pub apart : bottom ≡ pos 0 → ⊥
  pub is : (k : ℕ) → k < lines → over *ℤ top k ≡ bottom *ℤ multiple k j
  pub bottom_small : unsigned_abs bottom ≤ most
  pub top_small : (k : ℕ) → k < lines → unsigned_abs (top k) ≤ most

same_of_zero : (a b : ℤ) → a -ℤ b ≡ pos 0 → a ≡ b
same_of_zero a b e = omega (arith, ints, e)

-- a factor that is not 0 on both sides
cancel : (d a b : ℤ) → (d ≡ pos 0 → ⊥) → d *ℤ a ≡ d *ℤ b → a ≡ b
cancel d a b n e = same_of_zero a b (zero_factor (a -ℤ b) d (level d a b ∙ ap (λ z. z -ℤ d *ℤ b) e ∙ nothing (d *ℤ b)) n)
  where
    level : (d a b : ℤ) → (a -ℤ b) *ℤ d ≡ d *ℤ a -ℤ d *ℤ b
    level d a b = simp ring (omega (arith, ints))

    nothing : (z : ℤ) → z -ℤ z ≡ pos 0
    nothing z = omega (arith, ints)

-- a column that a line chooses
chosen_column : (most size lines units : ℕ) (frame : ℕ → ℕ → ℤ) (chosen : ℕ → ℕ) (over : ℤ) (multiple : ℕ → ℕ → ℤ) (l : ℕ) → Writes lines units frame chosen over multiple
    → ((i : ℕ) → i < lines → HasLine most lines units frame chosen over multiple i) → 1 ≤ size → l < lines → HasColumn size lines over multiple (chosen l)
chosen_column most size lines units frame chosen over multiple l w line above here = record {
  bottom = pos 1;
  top = λ k. cond (nat_eq k l) (pos 1) (pos 0);
  apart = λ e. absurd (omega (arith, ints, e));
  is = λ k h. ⊎_elim (λ (s : k ≡ l). ap (λ b. over *ℤ cond b (pos 1) (pos 0)) (eq-eqb k l s) ∙ at_own k h s) (λ other. ap (λ b. over *ℤ cond b (pos 1) (pos 0)) (ne_eqb k l other) ∙ elsewhere k h other) (cases_eq k l);
  bottom_small = above;
  top_small = λ k h. small (nat_eq k l);
}
  where
    small : (b : Bool) → unsigned_abs (cond b (pos 1) (pos 0)) ≤ size
    small true = above
    small false = omega (arith, above)

    at_own : (k : ℕ) → k < lines → k ≡ l → over *ℤ pos 1 ≡ pos 1 *ℤ multiple k (chosen l)
    at_own k h s =
        cancel (sum_below lines (λ i. frame i (chosen k) *ℤ (line k h).by i)) (over *ℤ pos 1) (pos 1 *ℤ multiple k (chosen l)) (line k h).own
        (turned (sum_below lines (λ i. frame i (chosen k) *ℤ (line k h).by i)) over ∙ (line k h).is (chosen k) (w.within k h) ∙ ap (λ c. sum_below lines (λ i. frame i (chosen k) *ℤ (line k h).by i) *ℤ multiple k (chosen c)) s ∙ one (sum_below lines (λ i. frame i (chosen k) *ℤ (line k h).by i)) (multiple k (chosen l)))
      where
        turned : (d o : ℤ) → d *ℤ (o *ℤ pos 1) ≡ o *ℤ d
        turned d o = simp ring (omega (arith, ints))

        one : (d m : ℤ) → d *ℤ m ≡ d *ℤ (pos 1 *ℤ m)
        one d m = simp ring (omega (arith, ints))

    elsewhere : (k : ℕ) → k < lines → k ≢ l → over *ℤ pos 0 ≡ pos 1 *ℤ multiple k (chosen l)
    elsewhere k h other =
        times_zero over
        ∙ sym (one-*ℤ (multiple k (chosen l)) ∙ zero_factor (multiple k (chosen l)) (sum_below lines (λ i. frame i (chosen k) *ℤ (line k h).by i))
        (*ℤ_comm (multiple k (chosen l)) (sum_below lines (λ i. frame i (chosen k) *ℤ (line k h).by i)) ∙ sym ((line k h).is (chosen l) (w.within l here)) ∙ ap (λ z. over *ℤ z) ((line k h).others l here (λ e. other (sym e))) ∙ times_zero over) (line k h).own)

-- a column that no line chooses
free_column : (most size lines units : ℕ) (frame : ℕ → ℕ → ℤ) (chosen : ℕ → ℕ) (over : ℤ) (multiple : ℕ → ℕ → ℤ) (j : ℕ) → HasUnits size lines units frame → Writes lines units frame chosen over multiple
    → ((i : ℕ) → i < lines → HasLine most lines units frame chosen over multiple i) → 0 < units * size → j < units + lines → is_chosen lines chosen j ≡ false → HasColumn ((units * size) ^ units) lines over multiple j
free_column most size lines units frame chosen over multiple j u w line room here unchosen =
    made (solution units lines size (λ c. nat_eq j c || is_chosen lines chosen c) (λ l. not (nat_eq j (units + l) || is_chosen lines chosen (units + l))) frame room fewer (λ l c h g. u.small l c h g))
  where
    grown : ℕ → Bool
    grown c = nat_eq j c || is_chosen lines chosen c

    distinct : (i k : ℕ) → i < lines → k < lines → i ≢ k → chosen i ≢ chosen k
    distinct i k h g other e = (line i h).own (ap (λ c. sum_below lines (λ l. frame l c *ℤ (line i h).by l)) e ∙ (line i h).others k g (λ s. other (sym s)))

    as_many : count_to (units + lines) (λ c. nat_eq j c || is_chosen lines chosen c) ≡ lines + 1
    as_many =
        count_to-more (units + lines) (is_chosen lines chosen) (λ c. nat_eq j c || is_chosen lines chosen c) j here unchosen
        (ap (λ b. b || is_chosen lines chosen j) (eq-eqb j j refl)) (λ c other. ap (λ b. b || is_chosen lines chosen c) (ne_eqb j c (λ s. other (sym s))))
        ∙ ap (λ n. n + 1) (count_to-chosen (units + lines) lines chosen w.within distinct)

    fewer : count_to lines (λ l. not (nat_eq j (units + l) || is_chosen lines chosen (units + l))) < count_to units (λ c. nat_eq j c || is_chosen lines chosen c)
    fewer =
        let parts : count_to (units + lines) (λ c. nat_eq j c || is_chosen lines chosen c) ≡ count_to units (λ c. nat_eq j c || is_chosen lines chosen c) + count_to lines (λ l. nat_eq j (units + l) || is_chosen lines chosen (units + l)) = count_to-plus units lines (λ c. nat_eq j c || is_chosen lines chosen c) in
        let all : count_to lines (λ l. nat_eq j (units + l) || is_chosen lines chosen (units + l)) + count_to lines (λ l. not (nat_eq j (units + l) || is_chosen lines chosen (units + l))) ≡ lines = count_to-not lines (λ l. nat_eq j (units + l) || is_chosen lines chosen (units + l)) in
        omega (arith, parts, all, as_many)

    made : HasSolution units lines (λ c. nat_eq j c || is_chosen lines chosen c) (λ l. not (nat_eq j (units + l) || is_chosen lines chosen (units + l))) frame ((units * size) ^ count_to lines (λ l. not (nat_eq j (units + l) || is_chosen lines chosen (units + l))))
        → HasColumn ((units * size) ^ units) lines over multiple j
    made s = record {
      bottom = whole j;
      top = λ k. neg_ℤ (whole (chosen k));
      apart = apart;
      is = is;
      bottom_small = small j here;
      top_small = λ k h. let a : unsigned_abs (whole (chosen k)) ≤ (units * size) ^ units = small (chosen k) (w.within k h) in let b : unsigned_abs (neg_ℤ (whole (chosen k))) ≡ unsigned_abs (whole (chosen k)) = flipped (whole (chosen k)) in omega (arith, a, b);
    }
      where
        flipped : (z : ℤ) → unsigned_abs (neg_ℤ z) ≡ unsigned_abs z
        flipped z = omega (arith, ints)

        -- what the frame's own columns leave a line
        left : ℕ → ℤ
        left l = sum_below units (λ c. frame l c *ℤ s.x c)

        -- the solution at all columns
        whole : ℕ → ℤ
        whole q = cond (nat_lt q units) (s.x q) (neg_ℤ (sum_below units (λ c. frame (q - units) c *ℤ s.x c)))

        before : (q : ℕ) → q < units → whole q ≡ s.x q
        before q h = ap (λ b. cond b (s.x q) (neg_ℤ (sum_below units (λ c. frame (q - units) c *ℤ s.x c)))) (lt-ltb q units h)

        behind : (l : ℕ) → whole (units + l) ≡ neg_ℤ (sum_below units (λ c. frame l c *ℤ s.x c))
        behind l = ap (λ b. cond b (s.x (units + l)) (neg_ℤ (sum_below units (λ c. frame (units + l - units) c *ℤ s.x c)))) (not_before (nat_lt (units + l) units) refl) ∙ (let e : units + l - units ≡ l = omega arith in ap (λ n. neg_ℤ (sum_below units (λ c. frame n c *ℤ s.x c))) e)
          where
            not_before : (b : Bool) → nat_lt (units + l) units ≡ b → b ≡ false
            not_before true e = absurd (let h : units + l < units = ltb-true (units + l) units e in omega (arith, h))
            not_before false e = refl

        solves : (l : ℕ) → l < lines → sum_below (units + lines) (λ q. frame l q *ℤ whole q) ≡ pos 0
        solves l h =
            sum_below-plus units lines (λ q. frame l q *ℤ whole q)
            ∙ ap (λ z. z +ℤ sum_below lines (λ k. frame l (units + k) *ℤ whole (units + k))) (sum_below-same units (λ q. frame l q *ℤ whole q) (λ q. frame l q *ℤ s.x q) (λ q g. ap (λ z. frame l q *ℤ z) (before q g)))
            ∙ ap (λ z. sum_below units (λ q. frame l q *ℤ s.x q) +ℤ z)
            (single lines (λ k. frame l (units + k) *ℤ whole (units + k)) l h (λ k g other. ap (λ z. z *ℤ whole (units + k)) (u.nothing l k h g (λ e. other (sym e))) ∙ zero-*ℤ (whole (units + k)))
            ∙ ap (λ z. z *ℤ whole (units + l)) (u.unit l h) ∙ one-*ℤ (whole (units + l)) ∙ behind l)
            ∙ level (sum_below units (λ q. frame l q *ℤ s.x q))
          where
            level : (z : ℤ) → z +ℤ neg_ℤ z ≡ pos 0
            level z = omega (arith, ints)

        nothing : (q : ℕ) → q < units + lines → (nat_eq j q || is_chosen lines chosen q) ≡ false → whole q ≡ pos 0
        nothing q h e = ⊎_elim (λ (g : q < units). before q g ∙ s.outside q e) (λ (g : units ≤ q). at_unit (q - units) (omega (arith, g)) (omega (arith, g, h))) (cases_lt q units)
          where
            at_unit : (l : ℕ) → q ≡ units + l → l < lines → whole q ≡ pos 0
            at_unit l f g = ap whole f ∙ behind l ∙ ap neg_ℤ (s.solves l g (ap not (ap (λ c. nat_eq j c || is_chosen lines chosen c) (sym f) ∙ e)))

        -- a line's combination is 0 on the solution
        level_on : (k : ℕ) (h : k < lines) → sum_below (units + lines) (λ q. sum_below lines (λ l. frame l q *ℤ (line k h).by l) *ℤ whole q) ≡ pos 0
        level_on k h =
            sum_below-same (units + lines) (λ q. sum_below lines (λ l. frame l q *ℤ (line k h).by l) *ℤ whole q) (λ q. sum_below lines (λ l. (line k h).by l *ℤ (frame l q *ℤ whole q))) (λ q g. inner q)
            ∙ sum_below-order (units + lines) lines (λ q l. (line k h).by l *ℤ (frame l q *ℤ whole q))
            ∙ none lines (λ l. sum_below (units + lines) (λ q. (line k h).by l *ℤ (frame l q *ℤ whole q))) (λ l g. sym (sum_below-times (units + lines) ((line k h).by l) (λ q. frame l q *ℤ whole q)) ∙ ap (λ z. (line k h).by l *ℤ z) (solves l g) ∙ times_zero ((line k h).by l))
          where
            inner : (q : ℕ) → sum_below lines (λ l. frame l q *ℤ (line k h).by l) *ℤ whole q ≡ sum_below lines (λ l. (line k h).by l *ℤ (frame l q *ℤ whole q))
            inner q =
                *ℤ_comm (sum_below lines (λ l. frame l q *ℤ (line k h).by l)) (whole q)
                ∙ sum_below-times lines (whole q) (λ l. frame l q *ℤ (line k h).by l)
                ∙ sum_below-same lines (λ l. whole q *ℤ (frame l q *ℤ (line k h).by l)) (λ l. (line k h).by l *ℤ (frame l q *ℤ whole q)) (λ l g. moved (whole q) (frame l q) ((line k h).by l))
              where
                moved : (x f y : ℤ) → x *ℤ (f *ℤ y) ≡ y *ℤ (f *ℤ x)
                moved x f y = simp ring (omega (arith, ints))

        two_left : (k : ℕ) (h : k < lines) → sum_below lines (λ l. frame l (chosen k) *ℤ (line k h).by l) *ℤ whole (chosen k) +ℤ sum_below lines (λ l. frame l j *ℤ (line k h).by l) *ℤ whole j ≡ pos 0
        two_left k h =
            sym (sum_of_pair (units + lines) (λ q. sum_below lines (λ l. frame l q *ℤ (line k h).by l) *ℤ whole q) (chosen k) j (w.within k h) here differ (λ q g far other. rest q g far other (nat_eq j q || is_chosen lines chosen q) refl))
            ∙ level_on k h
          where
            differ : chosen k ≢ j
            differ e = absurd (false≢true (sym unchosen ∙ ap (is_chosen lines chosen) (sym e) ∙ is_chosen-at lines chosen k h))

            rest : (q : ℕ) → q < units + lines → q ≢ chosen k → q ≢ j → (b : Bool) → (nat_eq j q || is_chosen lines chosen q) ≡ b → sum_below lines (λ l. frame l q *ℤ (line k h).by l) *ℤ whole q ≡ pos 0
            rest q g far other false e = ap (λ z. sum_below lines (λ l. frame l q *ℤ (line k h).by l) *ℤ z) (nothing q g e) ∙ times_zero (sum_below lines (λ l. frame l q *ℤ (line k h).by l))
            rest q g far other true e =
                let by = chosen_by lines chosen q (ap (λ b. b || is_chosen lines chosen q) (sym (ne_eqb j q (λ s. other (sym s)))) ∙ e) in
                ap (λ z. z *ℤ whole q) (ap (λ c. sum_below lines (λ l. frame l c *ℤ (line k h).by l)) (sym by.1.1) ∙ (line k h).others by.0 by.1.0 (λ s. far (sym by.1.1 ∙ ap chosen s))) ∙ zero-*ℤ (whole q)

        is : (k : ℕ) → k < lines → over *ℤ neg_ℤ (whole (chosen k)) ≡ whole j *ℤ multiple k j
        is k h =
            cancel own (over *ℤ neg_ℤ (whole (chosen k))) (whole j *ℤ multiple k j) (line k h).own
            (first own (whole (chosen k)) (sum_below lines (λ l. frame l j *ℤ (line k h).by l)) (whole j) (two_left k h) ∙ ap (λ z. z *ℤ whole j) ((line k h).is j here) ∙ last own (multiple k j) (whole j))
          where
            own : ℤ
            own = sum_below lines (λ l. frame l (chosen k) *ℤ (line k h).by l)

            first : (d a n b : ℤ) → d *ℤ a +ℤ n *ℤ b ≡ pos 0 → d *ℤ (over *ℤ neg_ℤ a) ≡ over *ℤ n *ℤ b
            first d a n b e = opened d a ∙ ap (λ z. over *ℤ z) (let f : neg_ℤ (d *ℤ a) ≡ n *ℤ b = omega (arith, ints, e) in f) ∙ sym (*ℤ_assoc over n b)
              where
                opened : (d a : ℤ) → d *ℤ (over *ℤ neg_ℤ a) ≡ over *ℤ neg_ℤ (d *ℤ a)
                opened d a = simp ring (omega (arith, ints))

            last : (d m b : ℤ) → d *ℤ m *ℤ b ≡ d *ℤ (b *ℤ m)
            last d m b = simp ring (omega (arith, ints))

        apart : whole j ≡ pos 0 → ⊥
        apart e = s.not_zero (at_place (nat_eq j s.place) refl (is_chosen lines chosen s.place) refl)
          where
            over_not_zero : (z : ℤ) → pos 0 <ℤ z → z ≡ pos 0 → ⊥
            over_not_zero z p f = omega (arith, ints, p, f)

            none_chosen : (k : ℕ) → k < lines → whole (chosen k) ≡ pos 0
            none_chosen k h = back (whole (chosen k)) (zero_factor (neg_ℤ (whole (chosen k))) over (*ℤ_comm (neg_ℤ (whole (chosen k))) over ∙ is k h ∙ ap (λ z. z *ℤ multiple k j) e ∙ zero-*ℤ (multiple k j)) (over_not_zero over w.positive))
              where
                back : (z : ℤ) → neg_ℤ z ≡ pos 0 → z ≡ pos 0
                back z f = omega (arith, ints, f)

            at_place : (b : Bool) → nat_eq j s.place ≡ b → (c : Bool) → is_chosen lines chosen s.place ≡ c → s.x s.place ≡ pos 0
            at_place true f c g = sym (before s.place s.here) ∙ ap whole (sym (eqb-true j s.place f)) ∙ e
            at_place false f true g = let by = chosen_by lines chosen s.place g in sym (before s.place s.here) ∙ ap whole (sym by.1.1) ∙ none_chosen by.0 by.1.0
            at_place false f false g = s.outside s.place (ap (λ b. b || is_chosen lines chosen s.place) f ∙ g)

        small : (q : ℕ) → q < units + lines → unsigned_abs (whole q) ≤ (units * size) ^ units
        small q h = ⊎_elim (λ (g : q < units). in_front g) (λ (g : units ≤ q). at_unit (q - units) (omega (arith, g)) (omega (arith, g, h))) (cases_lt q units)
          where
            count : ℕ
            count = count_to lines (λ l. not (nat_eq j (units + l) || is_chosen lines chosen (units + l)))

            few : count + 1 ≤ units
            few = let a : count_to units (λ c. nat_eq j c || is_chosen lines chosen c) ≤ units = count_to-all units (λ c. nat_eq j c || is_chosen lines chosen c) in let b : count < count_to units (λ c. nat_eq j c || is_chosen lines chosen c) = fewer in omega (arith, a, b)

            in_front : q < units → unsigned_abs (whole q) ≤ (units * size) ^ units
            in_front g =
                let same : unsigned_abs (whole q) ≡ unsigned_abs (s.x q) = ap unsigned_abs (before q g) in
                let up : unsigned_abs (s.x q) ≤ (units * size) ^ count = s.small q in
                let more : (units * size) ^ count ≤ (units * size) ^ units = pow-le-pow_right {n = units * size} room (omega (arith, few)) in
                omega (arith, same, up, more)

            at_unit : (l : ℕ) → q ≡ units + l → l < lines → unsigned_abs (whole q) ≤ (units * size) ^ units
            at_unit l f g =
                let same : unsigned_abs (whole q) ≡ unsigned_abs (sum_below units (λ c. frame l c *ℤ s.x c)) = ap unsigned_abs (ap whole f ∙ behind l) ∙ flipped (sum_below units (λ c. frame l c *ℤ s.x c)) in
                let sum : unsigned_abs (sum_below units (λ c. frame l c *ℤ s.x c)) ≤ units * (size * (units * size) ^ count) = sum_of_products-small units size ((units * size) ^ count) (λ c. frame l c) s.x (λ c k. u.small l c g k) (λ c k. s.small c) in
                let next : (units * size) ^ suc count ≡ units * size * (units * size) ^ count = pow-succ' (units * size) count in
                let group : units * size * (units * size) ^ count ≡ units * (size * (units * size) ^ count) = mul_assoc units size ((units * size) ^ count) in
                let more : (units * size) ^ suc count ≤ (units * size) ^ units = pow-le-pow_right {n = units * size} room (omega (arith, few)) in
                omega (arith, same, sum, next, group, more)

pub column_of_tableau : (size lines units : ℕ) (frame : ℕ → ℕ → ℤ) (chosen : ℕ → ℕ) (over : ℤ) (multiple : ℕ → ℕ → ℤ) (j : ℕ) → HasUnits size lines units frame → Writes lines units frame chosen over multiple → 0 < size → 0 < units → j < units + lines
    → HasColumn ((units * size) ^ units) lines over multiple j
column_of_tableau size lines units frame chosen over multiple j u w above some here = go (is_chosen lines chosen j) refl
  where
    line : (i : ℕ) → i < lines → HasLine ((lines * size) ^ units) lines units frame chosen over multiple i
    line i h = line_of_tableau size lines units frame chosen over multiple i u w above h

    room : 0 < units * size
    room = mul-pos some above

    go : (b : Bool) → is_chosen lines chosen j ≡ b → HasColumn ((units * size) ^ units) lines over multiple j
    go true e = let by = chosen_by lines chosen j e in subst (λ c. HasColumn ((units * size) ^ units) lines over multiple c) by.1.1 (chosen_column ((lines * size) ^ units) ((units * size) ^ units) lines units frame chosen over multiple by.0 w line (one-le-pow units (units * size) room) by.1.0)
    go false e = free_column ((lines * size) ^ units) size lines units frame chosen over multiple j u w line room here e
