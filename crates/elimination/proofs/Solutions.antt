-- Fewer equations than unknowns, with small numbers, have a small solution that is not 0 (Siegel's
-- lemma).
use Rattle.std.proofs.Common.{◌≡◌, ◌≢◌, ℕ, zero, suc, ◌+◌, ◌*◌, ◌-◌, ◌<◌, ◌≤◌, Bool, true, false, sym, ap, ◌∙◌, arith, ⊎_elim, inl, inr, ℤ, pos, negsuc, ◌+ℤ◌, ◌-ℤ◌, ◌*ℤ◌}
use Rattle.std.specs.Prelude.{◌⊎◌, ◌^◌, unsigned_abs, neg_ℤ}
use Rattle.std.proofs.lemmas.Int.{ints}
use Rattle.std.proofs.lemmas.Bool.{cases_eq}
use Rattle.std.proofs.lemmas.Nat.{mul-pow}
use Rattle.std.proofs.Math.Nat.{mul-le-mul_left, mul-le-mul_right, pow-suc, pow-le-pow_left, pow-le-pow_right, one-le-pow, mul-suc, mul_comm, mul_assoc}
use Rattle.std.proofs.Math.IntN.{pos-*ℤ-pos}
use Rattle.whole_numbers.proofs.Ring.{ring}
use Rattle.farkas_check.specs.Frames.{sum_below}
use Rattle.simplex.specs.Choices.{count_to}
use Rattle.elimination.proofs.Pigeons.{HasTwins, twins}
use Rattle.elimination.proofs.Digits.{digit, digit-small, digit-outside, digits-same, code, code-below, code-same}

-- ---- a value of an equation, from 0 on

-- one term, as far above its least value as its unknown goes up to b
abbrev cell : ℤ → ℕ → ℕ → ℕ
cell (pos a) b d = a * d
cell (negsuc a) b d = suc a * (b - d)

cell-difference : (z : ℤ) (b d c : ℕ) → d ≤ b → c ≤ b → pos (cell z b d) -ℤ pos (cell z b c) ≡ z *ℤ (pos d -ℤ pos c)
cell-difference (pos a) b d c h k = rw (sym (pos-*ℤ-pos a d), sym (pos-*ℤ-pos a c)) (level (pos a) (pos d) (pos c))
  where
    level : (x y z : ℤ) → x *ℤ y -ℤ x *ℤ z ≡ x *ℤ (y -ℤ z)
    level x y z = simp ring (omega (arith, ints))
cell-difference (negsuc a) b d c h k =
    let x : pos (suc a * (b - d)) ≡ pos (suc a) *ℤ (pos b -ℤ pos d) = sym (pos-*ℤ-pos (suc a) (b - d)) ∙ ap (λ z. pos (suc a) *ℤ z) (less d h) in
    let y : pos (suc a * (b - c)) ≡ pos (suc a) *ℤ (pos b -ℤ pos c) = sym (pos-*ℤ-pos (suc a) (b - c)) ∙ ap (λ z. pos (suc a) *ℤ z) (less c k) in
    ap (λ z. z -ℤ pos (suc a * (b - c))) x ∙ ap (λ z. pos (suc a) *ℤ (pos b -ℤ pos d) -ℤ z) y ∙ level (pos (suc a)) (pos b) (pos d) (pos c)
  where
    less : (e : ℕ) → e ≤ b → pos (b - e) ≡ pos b -ℤ pos e
    less e h = omega (arith, ints, h)

    level : (s b d c : ℤ) → s *ℤ (b -ℤ d) -ℤ s *ℤ (b -ℤ c) ≡ neg_ℤ s *ℤ (d -ℤ c)
    level s b d c = simp ring (omega (arith, ints))

cell-small : (z : ℤ) (b d : ℕ) → d ≤ b → cell z b d ≤ unsigned_abs z * b
cell-small (pos a) b d h = mul-le-mul_left a h
cell-small (negsuc a) b d h = mul-le-mul_left (suc a) (omega arith)

-- the value of an equation
abbrev value : ℕ → (ℕ → ℤ) → ℕ → (ℕ → ℕ) → ℕ
value zero f b v = 0
value (suc p) f b v = value p f b v + cell (f p) b (v p)

value-small : (p a : ℕ) (f : ℕ → ℤ) (b : ℕ) (v : ℕ → ℕ) → ((j : ℕ) → v j ≤ b) → ((j : ℕ) → j < p → unsigned_abs (f j) ≤ a) → value p f b v ≤ p * (a * b)
value-small zero a f b v h small = omega arith
value-small (suc p) a f b v h small =
    let x : value p f b v ≤ p * (a * b) = value-small p a f b v h (λ j k. small j (omega (arith, k))) in
    let y : cell (f p) b (v p) ≤ unsigned_abs (f p) * b = cell-small (f p) b (v p) (h p) in
    let z : unsigned_abs (f p) * b ≤ a * b = mul-le-mul_right b (small p (omega arith)) in
    let w : suc p * (a * b) ≡ p * (a * b) + a * b = omega arith in
    omega (arith, x, y, z, w)

value-difference : (p : ℕ) (f : ℕ → ℤ) (b : ℕ) (v w : ℕ → ℕ) → ((j : ℕ) → v j ≤ b) → ((j : ℕ) → w j ≤ b) → pos (value p f b v) -ℤ pos (value p f b w) ≡ sum_below p (λ j. f j *ℤ (pos (v j) -ℤ pos (w j)))
value-difference zero f b v w h k = omega (arith, ints)
value-difference (suc p) f b v w h k =
    apart (value p f b v) (cell (f p) b (v p)) (value p f b w) (cell (f p) b (w p))
    ∙ ap (λ z. z +ℤ (pos (cell (f p) b (v p)) -ℤ pos (cell (f p) b (w p)))) (value-difference p f b v w h k)
    ∙ ap (λ z. sum_below p (λ j. f j *ℤ (pos (v j) -ℤ pos (w j))) +ℤ z) (cell-difference (f p) b (v p) (w p) (h p) (k p))
  where
    apart : (a b c d : ℕ) → pos (a + b) -ℤ pos (c + d) ≡ (pos a -ℤ pos c) +ℤ (pos b -ℤ pos d)
    apart a b c d = omega (arith, ints)

-- ---- solutions

-- a small solution of the equations that pass, 0 at the unknowns that do not pass, and not 0 at all
-- places
pub record HasSolution (p q : ℕ) (unknown equation : ℕ → Bool) (f : ℕ → ℕ → ℤ) (most : ℕ) : Type 0 where
  pub x : ℕ → ℤ
  pub outside : (j : ℕ) → unknown j ≡ false → x j ≡ pos 0
  pub small : (j : ℕ) → unsigned_abs (x j) ≤ most
  pub place : ℕ
  pub here : place < p
  pub not_zero : x place ≡ pos 0 → ⊥
  pub solves : (i : ℕ) → i < q → equation i ≡ true → sum_below p (λ j. f i j *ℤ x j) ≡ pos 0

-- two lists of digits differ at some place, or are the same
differ_at : (p : ℕ) (v w : ℕ → ℕ) → ((j : ℕ) × ((j < p) × (v j ≢ w j))) ⊎ ((j : ℕ) → j < p → v j ≡ w j)
differ_at zero v w = inr (λ j h. absurd (omega (arith, h)))
differ_at (suc p) v w =
    ⊎_elim (λ (e : v p ≡ w p). ⊎_elim (λ some. inl (some.0, (omega (arith, some.1.0), some.1.1)))
    (λ all. inr (λ j h. ⊎_elim (λ (same : j ≡ p). ap v same ∙ e ∙ ap w (sym same)) (λ other. all j (omega (arith, h, other))) (cases_eq j p)))
    (differ_at p v w)) (λ other. inl (p, (omega arith, other))) (cases_eq (v p) (w p))

-- there are more lists of digits than values of the equations
more_lists : (s k n : ℕ) → 0 < s → k < n → suc (s * s ^ k) ^ k < suc (s ^ k) ^ n
more_lists s k n above fewer =
    let x : suc (s * s ^ k) ^ k ≤ (s * suc (s ^ k)) ^ k = pow-le-pow_left (let a : s * suc (s ^ k) ≡ s * s ^ k + s = omega arith in omega (arith, a, above)) k in
    let y : (s * suc (s ^ k)) ^ k ≡ s ^ k * suc (s ^ k) ^ k = mul-pow s (suc (s ^ k)) k in
    let z : suc (s ^ k) ^ suc k ≡ suc (s ^ k) ^ k * suc (s ^ k) = pow-suc (suc (s ^ k)) k in
    let w : suc (s ^ k) ^ k * suc (s ^ k) ≡ s ^ k * suc (s ^ k) ^ k + suc (s ^ k) ^ k = turned (s ^ k) (suc (s ^ k) ^ k) in
    let one : 1 ≤ suc (s ^ k) ^ k = one-le-pow k (suc (s ^ k)) (omega arith) in
    let more : suc (s ^ k) ^ suc k ≤ suc (s ^ k) ^ n = pow-le-pow_right {n = suc (s ^ k)} (omega arith) (omega (arith, fewer)) in
    omega (arith, x, y, z, w, one, more)
  where
    turned : (a b : ℕ) → b * suc a ≡ a * b + b
    turned a b = mul-suc b a ∙ ap (λ c. c + b) (mul_comm b a)

pub solution : (p q a : ℕ) (unknown equation : ℕ → Bool) (f : ℕ → ℕ → ℤ) → 0 < p * a → count_to q equation < count_to p unknown → ((i j : ℕ) → i < q → j < p → unsigned_abs (f i j) ≤ a) → HasSolution p q unknown equation f ((p * a) ^ count_to q equation)
solution p q a unknown equation f above fewer small = solved (twins (suc b ^ count_to p unknown) (r ^ count_to q equation) code_of (λ n h. code-below q equation r (value_of n) (λ i k. value-below n i k)) enough)
  where
    b : ℕ
    b = (p * a) ^ count_to q equation

    r : ℕ
    r = suc (p * a * b)

    digits : ℕ → ℕ → ℕ
    digits n = digit p unknown (suc b) n

    digits-small : (n j : ℕ) → digits n j ≤ b
    digits-small n j = let h : digit p unknown (suc b) n j < suc b = digit-small p unknown (suc b) n j (omega arith) in omega (arith, h)

    value_of : ℕ → ℕ → ℕ
    value_of n i = value p (f i) b (digits n)

    code_of : ℕ → ℕ
    code_of n = code q equation r (value_of n)

    value-below : (n i : ℕ) → i < q → value_of n i < r
    value-below n i h =
        let g : value p (f i) b (digits n) ≤ p * (a * b) = value-small p a (f i) b (digits n) (λ j. digits-small n j) (λ j k. small i j h k) in
        let e : p * (a * b) ≡ p * a * b = sym (mul_assoc p a b) in omega (arith, g, e)

    enough : r ^ count_to q equation < suc b ^ count_to p unknown
    enough = more_lists (p * a) (count_to q equation) (count_to p unknown) above fewer

    solved : HasTwins (suc b ^ count_to p unknown) code_of → HasSolution p q unknown equation f b
    solved t = ⊎_elim (λ some. made some.0 some.1.0 some.1.1) (λ same. absurd (clash same)) (differ_at p (digits t.first) (digits t.second))
      where
        clash : ((j : ℕ) → j < p → digits t.first j ≡ digits t.second j) → ⊥
        clash same = let e : t.first ≡ t.second = digits-same p unknown (suc b) t.first t.second (omega arith) (omega (arith, t.apart, t.within)) t.within same in omega (arith, e, t.apart)

        made : (j : ℕ) → j < p → digits t.first j ≢ digits t.second j → HasSolution p q unknown equation f b
        made j h other = record {
          x = λ i. pos (digits t.first i) -ℤ pos (digits t.second i);
          outside = λ i e. rw (digit-outside p unknown (suc b) t.first i e, digit-outside p unknown (suc b) t.second i e) (omega (arith, ints));
          small = λ i. let g : digits t.first i ≤ b = digits-small t.first i in let k : digits t.second i ≤ b = digits-small t.second i in between (digits t.first i) (digits t.second i) g k;
          place = j;
          here = h;
          not_zero = λ e. other (level (digits t.first j) (digits t.second j) e);
          solves = λ i k passes. sym (value-difference p (f i) b (digits t.first) (digits t.second) (λ l. digits-small t.first l) (λ l. digits-small t.second l))
              ∙ ap (λ n. pos n -ℤ pos (value_of t.second i)) (code-same q equation r (value_of t.first) (value_of t.second) (λ l m. value-below t.first l m) (λ l m. value-below t.second l m) t.same i k passes) ∙ none (value_of t.second i);
        }
          where
            between : (c d : ℕ) → c ≤ b → d ≤ b → unsigned_abs (pos c -ℤ pos d) ≤ b
            between c d g k = omega (arith, ints, g, k)

            level : (c d : ℕ) → pos c -ℤ pos d ≡ pos 0 → c ≡ d
            level c d e = omega (arith, ints, e)

            none : (n : ℕ) → pos n -ℤ pos n ≡ pos 0
            none n = omega (arith, ints)
