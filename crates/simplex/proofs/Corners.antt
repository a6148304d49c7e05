-- A corner and a ray are solutions of the frame: what is minus a column's numbers at the chosen
-- columns, over a common denominator.
use Rattle.std.proofs.Common.{◌≡◌, ◌≢◌, ℕ, zero, suc, ◌<◌, cond, refl, sym, ap, ◌∙◌, arith, ⊎_elim, ℤ, pos, ◌+ℤ◌, ◌-ℤ◌, ◌*ℤ◌}
use Rattle.std.specs.Prelude.{nat_eq}
use Rattle.std.proofs.lemmas.Int.{ints}
use Rattle.std.proofs.lemmas.Bool.{cases_eq, eq-eqb, ne_eqb}
use Rattle.std.proofs.Math.IntN.{*ℤ_comm, zero-*ℤ}
use Rattle.whole_numbers.proofs.Ring.{ring, *ℤ_assoc, *ℤ-+ℤ}
use Rattle.simplex.specs.Frames.{IsWholeTableau}
use Rattle.farkas_check.specs.Frames.{sum_below}
use Rattle.simplex.proofs.Sums.{sum_below-same}
use Rattle.simplex.proofs.Exchanges.{times_zero}

-- ---- sums

pub none : (n : ℕ) (f : ℕ → ℤ) → ((j : ℕ) → j < n → f j ≡ pos 0) → sum_below n f ≡ pos 0
none zero f e = refl
none (suc n) f e = rw (none n f (λ j h. e j (omega arith)), e n (omega arith)) refl

-- a sum with one part that is not 0
pub single : (n : ℕ) (f : ℕ → ℤ) (c : ℕ) → c < n → ((j : ℕ) → j < n → j ≢ c → f j ≡ pos 0) → sum_below n f ≡ f c
single zero f c h e = absurd (omega arith)
single (suc n) f c h e =
    ⊎_elim (λ (same : c ≡ n). first same) (λ other. second other (single n f c (omega arith) (λ j k. e j (omega arith)))) (cases_eq c n)
  where
    first : c ≡ n → sum_below n f +ℤ f n ≡ f c
    first same = ap (λ z. z +ℤ f n) (none n f (λ j k. e j (omega arith) (λ is. absurd (omega arith)))) ∙ left (f n) ∙ ap f (sym same)
      where
        left : (z : ℤ) → pos 0 +ℤ z ≡ z
        left z = omega (arith, ints)

    second : c ≢ n → sum_below n f ≡ f c → sum_below n f +ℤ f n ≡ f c
    second other known = rw (e n (omega arith) (λ is. other (sym is))) (right (sum_below n f)) ∙ known
      where
        right : (z : ℤ) → z +ℤ pos 0 ≡ z
        right z = omega (arith, ints)

pub plus : (n : ℕ) (f g : ℕ → ℤ) → sum_below n (λ j. f j +ℤ g j) ≡ sum_below n f +ℤ sum_below n g
plus zero f g = refl
plus (suc n) f g = ap (λ z. z +ℤ (f n +ℤ g n)) (plus n f g) ∙ swap (sum_below n f) (sum_below n g) (f n) (g n)
  where
    swap : (a b c d : ℤ) → a +ℤ b +ℤ (c +ℤ d) ≡ a +ℤ c +ℤ (b +ℤ d)
    swap a b c d = omega (arith, ints)

pub swapped : (n m : ℕ) (f : ℕ → ℕ → ℤ) → sum_below n (λ j. sum_below m (λ k. f j k)) ≡ sum_below m (λ k. sum_below n (λ j. f j k))
swapped zero m f = sym (none m (λ k. pos 0) (λ j h. refl))
swapped (suc n) m f = ap (λ z. z +ℤ sum_below m (λ k. f n k)) (swapped n m f) ∙ sym (plus m (λ k. sum_below n (λ j. f j k)) (f n))

pub factored : (n : ℕ) (c : ℤ) (f : ℕ → ℤ) → c *ℤ sum_below n f ≡ sum_below n (λ j. c *ℤ f j)
factored zero c f = times_zero c
factored (suc n) c f = *ℤ-+ℤ c (sum_below n f) (f n) ∙ ap (λ z. z +ℤ c *ℤ f n) (factored n c f)

-- ---- denominators

-- the product of the first d's
abbrev pub over : ℕ → (ℕ → ℤ) → ℤ
over zero d = pos 1
over (suc n) d = over n d *ℤ d n

-- the same product without one of them
abbrev pub share : ℕ → (ℕ → ℤ) → ℕ → ℤ
share zero d i = pos 1
share (suc n) d i = cond (nat_eq i n) (over n d) (share n d i *ℤ d n)

pub share-over : (n : ℕ) (d : ℕ → ℤ) (i : ℕ) → i < n → d i *ℤ share n d i ≡ over n d
share-over zero d i h = absurd (omega arith)
share-over (suc n) d i h = ⊎_elim (λ (e : i ≡ n). here e) (λ other. elsewhere other (share-over n d i (omega arith))) (cases_eq i n)
  where
    here : i ≡ n → d i *ℤ cond (nat_eq i n) (over n d) (share n d i *ℤ d n) ≡ over n d *ℤ d n
    here e = rw (eq-eqb i n e) (ap (λ k. d k *ℤ over n d) e ∙ *ℤ_comm (d n) (over n d))

    elsewhere : i ≢ n → d i *ℤ share n d i ≡ over n d → d i *ℤ cond (nat_eq i n) (over n d) (share n d i *ℤ d n) ≡ over n d *ℤ d n
    elsewhere other known = rw (ne_eqb i n other) (sym (*ℤ_assoc (d i) (share n d i) (d n)) ∙ ap (λ z. z *ℤ d n) known)

-- ---- solutions

-- the numbers that line k's choice gives to a column
abbrev pub part : (ℕ → ℕ) → (ℕ → ℤ) → ℕ → ℕ → ℤ
part chosen value j k = cond (nat_eq (chosen k) j) (value k) (pos 0)

-- a column grows by the common denominator, and each chosen column gives way
abbrev pub moved : ℕ → (ℕ → ℕ → ℤ) → (ℕ → ℕ) → ℕ → ℕ → ℤ
moved lines numbers chosen column j = cond (nat_eq column j) (over lines (λ k. numbers k (chosen k))) (pos 0) -ℤ sum_below lines (λ k. part chosen (λ k. numbers k column *ℤ share lines (λ k. numbers k (chosen k)) k) j k)

minus : (n : ℕ) (f g : ℕ → ℤ) → sum_below n (λ j. f j -ℤ g j) ≡ sum_below n f -ℤ sum_below n g
minus zero f g = refl
minus (suc n) f g = ap (λ z. z +ℤ (f n -ℤ g n)) (minus n f g) ∙ swap (sum_below n f) (sum_below n g) (f n) (g n)
  where
    swap : (a b c d : ℤ) → a -ℤ b +ℤ (c -ℤ d) ≡ a +ℤ c -ℤ (b +ℤ d)
    swap a b c d = omega (arith, ints)

-- a line's number at one column, times what stands there
at_one : (n : ℕ) (w : ℕ → ℤ) (c : ℕ) (v : ℤ) → c < n → sum_below n (λ j. w j *ℤ cond (nat_eq c j) v (pos 0)) ≡ w c *ℤ v
at_one n w c v h =
    single n (λ j. w j *ℤ cond (nat_eq c j) v (pos 0)) c h (λ j k other. ap (λ b. w j *ℤ cond b v (pos 0)) (ne_eqb c j (λ e. other (sym e))) ∙ times_zero (w j))
    ∙ ap (λ b. w c *ℤ cond b v (pos 0)) (eq-eqb c c refl)

-- what a line is worth where a column has moved
pub moved-sum : (lines columns : ℕ) (numbers : ℕ → ℕ → ℤ) (chosen : ℕ → ℕ) (column : ℕ) (w : ℕ → ℤ) → column < columns → ((k : ℕ) → k < lines → chosen k < columns)
    → sum_below columns (λ j. w j *ℤ moved lines numbers chosen column j) ≡ w column *ℤ over lines (λ k. numbers k (chosen k)) -ℤ sum_below lines (λ k. w (chosen k) *ℤ (numbers k column *ℤ share lines (λ k. numbers k (chosen k)) k))
moved-sum lines columns numbers chosen column w h ranges =
    sum_below-same columns (λ j. w j *ℤ moved lines numbers chosen column j) (λ j. w j *ℤ cond (nat_eq column j) (over lines d) (pos 0) -ℤ sum_below lines (λ k. w j *ℤ part chosen value j k))
    (λ j _. apart (w j) (cond (nat_eq column j) (over lines d) (pos 0)) (sum_below lines (λ k. part chosen value j k)) ∙ ap (λ z. w j *ℤ cond (nat_eq column j) (over lines d) (pos 0) -ℤ z) (factored lines (w j) (λ k. part chosen value j k)))
    ∙ minus columns (λ j. w j *ℤ cond (nat_eq column j) (over lines d) (pos 0)) (λ j. sum_below lines (λ k. w j *ℤ part chosen value j k))
    ∙ ap (λ z. z -ℤ sum_below columns (λ j. sum_below lines (λ k. w j *ℤ part chosen value j k))) (at_one columns w column (over lines d) h)
    ∙ ap (λ z. w column *ℤ over lines d -ℤ z)
    (swapped columns lines (λ j k. w j *ℤ part chosen value j k)
    ∙ sum_below-same lines (λ k. sum_below columns (λ j. w j *ℤ part chosen value j k)) (λ k. w (chosen k) *ℤ value k) (λ k kh. at_one columns w (chosen k) (value k) (ranges k kh)))
  where
    d : ℕ → ℤ
    d k = numbers k (chosen k)

    value : ℕ → ℤ
    value k = numbers k column *ℤ share lines (λ k. numbers k (chosen k)) k

    apart : (a b c : ℤ) → a *ℤ (b -ℤ c) ≡ a *ℤ b -ℤ a *ℤ c
    apart a b c = simp ring (omega (arith, ints))

pub moved-solves : (lines units columns : ℕ) (frame numbers : ℕ → ℕ → ℤ) (chosen : ℕ → ℕ) (column : ℕ) → IsWholeTableau lines units columns frame numbers chosen → column < columns → ((k : ℕ) → k < lines → chosen k < columns)
    → (l : ℕ) → l < lines → sum_below columns (λ j. frame l j *ℤ moved lines numbers chosen column j) ≡ pos 0
moved-solves lines units columns frame numbers chosen column t h ranges = t.solutions (moved lines numbers chosen column) zero_at
  where
    zero_at : (i : ℕ) → i < lines → sum_below columns (λ j. numbers i j *ℤ moved lines numbers chosen column j) ≡ pos 0
    zero_at i g =
        sum_below-same columns (λ j. numbers i j *ℤ moved lines numbers chosen column j) (λ j. numbers i j *ℤ cond (nat_eq column j) (over lines d) (pos 0) -ℤ sum_below lines (λ k. numbers i j *ℤ part chosen value j k))
        (λ j _. apart (numbers i j) (cond (nat_eq column j) (over lines d) (pos 0)) (sum_below lines (λ k. part chosen value j k)) ∙ ap (λ z. numbers i j *ℤ cond (nat_eq column j) (over lines d) (pos 0) -ℤ z) (factored lines (numbers i j) (λ k. part chosen value j k)))
        ∙ minus columns (λ j. numbers i j *ℤ cond (nat_eq column j) (over lines d) (pos 0)) (λ j. sum_below lines (λ k. numbers i j *ℤ part chosen value j k))
        ∙ ap (λ z. z -ℤ sum_below columns (λ j. sum_below lines (λ k. numbers i j *ℤ part chosen value j k))) (at_one columns (numbers i) column (over lines d) h)
        ∙ ap (λ z. numbers i column *ℤ over lines d -ℤ z) (chosen_sum ∙ own)
        ∙ level (numbers i column *ℤ over lines d)
      where
        d : ℕ → ℤ
        d k = numbers k (chosen k)

        value : ℕ → ℤ
        value k = numbers k column *ℤ share lines (λ k. numbers k (chosen k)) k

        apart : (a b c : ℤ) → a *ℤ (b -ℤ c) ≡ a *ℤ b -ℤ a *ℤ c
        apart a b c = simp ring (omega (arith, ints))

        level : (z : ℤ) → z -ℤ z ≡ pos 0
        level z = omega (arith, ints)

        chosen_sum : sum_below columns (λ j. sum_below lines (λ k. numbers i j *ℤ part chosen value j k)) ≡ numbers i (chosen i) *ℤ value i
        chosen_sum =
            swapped columns lines (λ j k. numbers i j *ℤ part chosen value j k)
            ∙ sum_below-same lines (λ k. sum_below columns (λ j. numbers i j *ℤ part chosen value j k)) (λ k. numbers i (chosen k) *ℤ value k) (λ k kh. at_one columns (numbers i) (chosen k) (value k) (ranges k kh))
            ∙ single lines (λ k. numbers i (chosen k) *ℤ value k) i g (λ k kh other. ap (λ z. z *ℤ value k) (t.others i k g kh (λ e. other (sym e))) ∙ zero-*ℤ (value k))

        own : numbers i (chosen i) *ℤ value i ≡ numbers i column *ℤ over lines d
        own = regroup (numbers i (chosen i)) (numbers i column) (share lines d i) ∙ ap (λ z. numbers i column *ℤ z) (share-over lines d i g)
          where
            regroup : (a b c : ℤ) → a *ℤ (b *ℤ c) ≡ b *ℤ (a *ℤ c)
            regroup a b c = simp ring (omega (arith, ints))
