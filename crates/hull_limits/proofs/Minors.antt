-- A vector of the search on which two lines are 0 has minors of these lines as its numbers, up to a
-- factor: so it is small where it has no common divisor.
use Rattle.std.proofs.Common.{◌≡◌, ◌≢◌, ℕ, zero, suc, ◌+◌, ◌*◌, ◌<◌, ◌≤◌, refl, sym, ap, subst, ◌∙◌, arith, List, [], ◌∷◌, map, ℤ, pos, negsuc, ◌+ℤ◌, ◌-ℤ◌, ◌*ℤ◌}
use Rattle.std.specs.Prelude.{neg_ℤ, unsigned_abs}
use Rattle.std.specs.Int.{◌∣◌}
use Rattle.std.proofs.lemmas.Int.{ints, unsigned_abs-mul}
use Rattle.std.proofs.lemmas.Nat.Gcd.{le_of_dvd}
use Rattle.std.proofs.Math.Nat.{dvd-mul_right, le_of_mul-le-mul_left, mul-add, mul-le-mul_left, mul-le-mul_right, one-mul}
use Rattle.whole_numbers.specs.Dot.{dot}
use Rattle.whole_numbers.proofs.CommonDivisors.{DividesEach, gcd_of_all-greatest}
use Rattle.whole_numbers.proofs.Ring.{ring}
use Rattle.cones.proofs.Clears.{IsMoved}
use Rattle.cones.proofs.Numbers.{above_not_zero, not_zero-*ℤ, times_zero, vanishes_above}
use Rattle.cones.proofs.Primitive.{IsPrimitive}
use Rattle.hull_limits.proofs.Magnitudes.{IsWithin, AreWithin, total, multiple-divisor, product-within, sum-within}

-- ---- how great a line is on a vector

dot-within : (n : ℕ) (line v : List ℤ) → AreWithin n line → IsWithin (n * total v) (dot line v)
dot-within n [] v h = omega arith
dot-within n (x ∷ line) [] h = omega arith
dot-within n (x ∷ line) (y ∷ v) h =
    let parts : n * (unsigned_abs y + total v) ≡ n * unsigned_abs y + n * total v = mul-add n (unsigned_abs y) (total v) in
    let whole : IsWithin (n * unsigned_abs y + n * total v) (x *ℤ y +ℤ dot line v) = sum-within (x *ℤ y) (dot line v) (n * unsigned_abs y) (n * total v) (product-within x y n (unsigned_abs y) h.0 (omega arith)) (dot-within n line v h.1) in
    omega (arith, parts, whole)

-- on a vector of at most one number, 1 or -1, a line is no greater than its numbers
unit-within : (n : ℕ) (line u : List ℤ) → AreWithin n line → total u ≤ 1 → IsWithin n (dot line u)
unit-within n line u h k =
    let up : n * total u ≤ n * 1 = mul-le-mul_left n k in
    omega (arith, up, dot-within n line u h)

-- ---- the total of a vector, read off by a line

-- 1 with the sign of a number
abbrev sign_of : ℤ → ℤ
sign_of (pos n) = pos 1
sign_of (negsuc n) = negsuc 0

signs-within : (v : List ℤ) → AreWithin 1 (map sign_of v)
signs-within [] = tt
signs-within (pos n ∷ v) = (omega arith, signs-within v)
signs-within (negsuc n ∷ v) = (omega arith, signs-within v)

signs-total : (v : List ℤ) → dot (map sign_of v) v ≡ pos (total v)
signs-total [] = refl
signs-total (z ∷ v) = ap (λ s. sign_of z *ℤ z +ℤ s) (signs-total v) ∙ step z (total v)
  where
    step : (z : ℤ) (n : ℕ) → sign_of z *ℤ z +ℤ pos n ≡ pos (unsigned_abs z + n)
    step (pos m) n = omega (arith, ints)
    step (negsuc m) n = omega (arith, ints)

-- ---- multiples

each-multiple : (m n : ℤ) (v : List ℤ) (f : List ℤ → ℤ) → ((line : List ℤ) → m *ℤ dot line v ≡ n *ℤ f line) → DividesEach (unsigned_abs n) (map (λ z. m *ℤ z) v)
each-multiple m n [] f h = tt
each-multiple m n (z ∷ v) f h = (
  subst (λ k. unsigned_abs n ∣ k) (sym (ap unsigned_abs (ap (λ x. m *ℤ x) (first z) ∙ h (pos 1 ∷ [])) ∙ unsigned_abs-mul n (f (pos 1 ∷ [])))) (dvd-mul_right (unsigned_abs n) (unsigned_abs (f (pos 1 ∷ [])))),
  each-multiple m n v (λ line. f (pos 0 ∷ line)) (λ line. ap (λ x. m *ℤ x) (later z (dot line v)) ∙ h (pos 0 ∷ line)),
)
  where
    first : (z : ℤ) → z ≡ pos 1 *ℤ z +ℤ pos 0
    first z = omega (arith, ints)

    later : (z s : ℤ) → s ≡ pos 0 *ℤ z +ℤ s
    later z s = omega (arith, ints)

some_size : (m : ℤ) → m ≢ pos 0 → 0 < unsigned_abs m
some_size (pos zero) h = absurd (h refl)
some_size (pos (suc n)) h = omega arith
some_size (negsuc n) h = omega arith

-- A vector without common divisor is the least of all that are along it: where a multiple of it is
-- one of another vector too, and that has at most so much on lines of numbers up to 1, its own total
-- is at most so much. The other vector is seen by what lines have on it.
pub primitive-least : (m n : ℤ) (v : List ℤ) (f : List ℤ → ℤ) (most : ℕ) → IsPrimitive v → m ≢ pos 0 → ((line : List ℤ) → m *ℤ dot line v ≡ n *ℤ f line) → ((line : List ℤ) → AreWithin 1 line → IsWithin most (f line)) → total v ≤ most
primitive-least m n v f most primitive some is small = go (total v) refl
  where
    signs : List ℤ
    signs = map sign_of v

    go : (k : ℕ) → total v ≡ k → total v ≤ most
    go zero e = omega (arith, e)
    go (suc k) e = le_of_mul-le-mul_left whole (some_size m some)
      where
        seen : dot signs v ≢ pos 0
        seen q = clash (total v) e (sym (signs-total v) ∙ q)
          where
            clash : (t : ℕ) → t ≡ suc k → pos t ≡ pos 0 → ⊥
            clash t e q = omega (arith, ints)

        divides : unsigned_abs n ∣ unsigned_abs m
        divides =
            subst (λ d. unsigned_abs n ∣ d) (multiple-divisor m v (some_size m some) ∙ ap (λ d. d * unsigned_abs m) (primitive signs seen) ∙ one-mul (unsigned_abs m))
            (gcd_of_all-greatest (unsigned_abs n) (map (λ z. m *ℤ z) v) (each-multiple m n v f is))

        least : unsigned_abs n ≤ unsigned_abs m
        least = le_of_dvd (some_size m some) divides

        same : unsigned_abs m * total v ≡ unsigned_abs n * unsigned_abs (f signs)
        same = sym (unsigned_abs-mul m (pos (total v))) ∙ ap (λ z. unsigned_abs (m *ℤ z)) (sym (signs-total v)) ∙ ap unsigned_abs (is signs) ∙ unsigned_abs-mul n (f signs)

        whole : unsigned_abs m * total v ≤ unsigned_abs m * most
        whole =
            let low : unsigned_abs n * unsigned_abs (f signs) ≤ unsigned_abs n * most = mul-le-mul_left (unsigned_abs n) (small signs (signs-within v)) in
            let high : unsigned_abs n * most ≤ unsigned_abs m * most = mul-le-mul_right most least in
            omega (arith, same, low, high)

-- ---- two lines that are 0

-- a vector of at most one number, 1 or -1, that was moved along the pivot to where the line is 0
pub record IsMovedUnit (line pivot v : List ℤ) : Type 0 where
  pub unit : List ℤ
  pub small : total unit ≤ 1
  pub moved : IsMoved line pivot unit v

vanishing-sum : (n k x y : ℤ) → x ≡ pos 0 → y ≡ pos 0 → n *ℤ x +ℤ k *ℤ y ≡ pos 0
vanishing-sum n k x y e f = sum (n *ℤ x) (k *ℤ y) (ap (λ z. n *ℤ z) e ∙ times_zero n) (ap (λ z. k *ℤ z) f ∙ times_zero k)
  where
    sum : (s t : ℤ) → s ≡ pos 0 → t ≡ pos 0 → s +ℤ t ≡ pos 0
    sum s t e f = omega (arith, ints)

-- numbers that have the sum 0 with two rows are as the minors of the rows
second-is_minor : (a b c p q r x y z : ℤ) → a *ℤ p +ℤ b *ℤ q +ℤ c *ℤ r ≡ pos 0 → a *ℤ x +ℤ b *ℤ y +ℤ c *ℤ z ≡ pos 0 → (r *ℤ y -ℤ q *ℤ z) *ℤ b ≡ a *ℤ (p *ℤ z -ℤ r *ℤ x)
second-is_minor a b c p q r x y z e f = meet ((r *ℤ y -ℤ q *ℤ z) *ℤ b) (a *ℤ (p *ℤ z -ℤ r *ℤ x)) (same a b c p q r x y z ∙ vanishing-sum r (neg_ℤ z) (a *ℤ x +ℤ b *ℤ y +ℤ c *ℤ z) (a *ℤ p +ℤ b *ℤ q +ℤ c *ℤ r) f e)
  where
    meet : (s t : ℤ) → s -ℤ t ≡ pos 0 → s ≡ t
    meet s t e = omega (arith, ints)

    same : (a b c p q r x y z : ℤ) → (r *ℤ y -ℤ q *ℤ z) *ℤ b -ℤ a *ℤ (p *ℤ z -ℤ r *ℤ x) ≡ r *ℤ (a *ℤ x +ℤ b *ℤ y +ℤ c *ℤ z) +ℤ neg_ℤ z *ℤ (a *ℤ p +ℤ b *ℤ q +ℤ c *ℤ r)
    same a b c p q r x y z = simp ring (omega (arith, ints))

third-is_minor : (a b c p q r x y z : ℤ) → a *ℤ p +ℤ b *ℤ q +ℤ c *ℤ r ≡ pos 0 → a *ℤ x +ℤ b *ℤ y +ℤ c *ℤ z ≡ pos 0 → (r *ℤ y -ℤ q *ℤ z) *ℤ c ≡ a *ℤ (q *ℤ x -ℤ p *ℤ y)
third-is_minor a b c p q r x y z e f = turned (second-is_minor a c b p r q x z y (swap (a *ℤ p) (b *ℤ q) (c *ℤ r) ∙ e) (swap (a *ℤ x) (b *ℤ y) (c *ℤ z) ∙ f))
  where
    swap : (s t u : ℤ) → s +ℤ u +ℤ t ≡ s +ℤ t +ℤ u
    swap s t u = omega (arith, ints)

    turned : (q *ℤ z -ℤ r *ℤ y) *ℤ c ≡ a *ℤ (p *ℤ y -ℤ q *ℤ x) → (r *ℤ y -ℤ q *ℤ z) *ℤ c ≡ a *ℤ (q *ℤ x -ℤ p *ℤ y)
    turned h = left r y q z c ∙ ap neg_ℤ h ∙ right a p y q x
      where
        left : (r y q z c : ℤ) → (r *ℤ y -ℤ q *ℤ z) *ℤ c ≡ neg_ℤ ((q *ℤ z -ℤ r *ℤ y) *ℤ c)
        left r y q z c = simp ring (omega (arith, ints))

        right : (a p y q x : ℤ) → neg_ℤ (a *ℤ (p *ℤ y -ℤ q *ℤ x)) ≡ a *ℤ (q *ℤ x -ℤ p *ℤ y)
        right a p y q x = simp ring (omega (arith, ints))

minor-within : (most : ℕ) (p q r s : ℤ) → IsWithin most p → IsWithin most q → IsWithin most r → IsWithin most s → IsWithin (2 * (most * most)) (p *ℤ q -ℤ r *ℤ s)
minor-within most p q r s h k l m = apart (p *ℤ q) (r *ℤ s) (product-within p q most most h k) (product-within r s most most l m)
  where
    apart : (x y : ℤ) → IsWithin (most * most) x → IsWithin (most * most) y → IsWithin (2 * (most * most)) (x -ℤ y)
    apart x y h k = omega (arith, ints, h, k)

-- Of two units that were moved to where one line is 0, the first is moved along the second to where
-- another line is 0 too: its numbers are the minors of the lines at the three units.
module _ (most : ℕ) (first second pivot v u made : List ℤ) (within_first : AreWithin most first) (within_second : AreWithin most second) (small : total pivot ≤ 1) (seen : dot first pivot ≢ pos 0)
    (one : IsMovedUnit first pivot v) (other : IsMovedUnit first pivot u) (seen_second : dot second u ≢ pos 0) (m : IsMoved second u v made) (primitive : IsPrimitive made) where
  -- How often the unit that is moved is taken, the other one and the pivot, and how often the vector
  -- that is made.
  abbrev unit_times : ℤ
  unit_times = m.own *ℤ (other.moved.factor *ℤ one.moved.own)

  abbrev other_times : ℤ
  other_times = m.by *ℤ (one.moved.factor *ℤ other.moved.own)

  abbrev pivot_times : ℤ
  pivot_times = m.own *ℤ (other.moved.factor *ℤ one.moved.by) +ℤ m.by *ℤ (one.moved.factor *ℤ other.moved.by)

  abbrev made_times : ℤ
  made_times = one.moved.factor *ℤ (other.moved.factor *ℤ m.factor)

  made-on : (line : List ℤ) → made_times *ℤ dot line made ≡ unit_times *ℤ dot line one.unit +ℤ other_times *ℤ dot line other.unit +ℤ pivot_times *ℤ dot line pivot
  made-on line =
      apart one.moved.factor other.moved.factor m.factor (dot line made)
      ∙ ap (λ z. one.moved.factor *ℤ (other.moved.factor *ℤ z)) (m.is line)
      ∙ spread one.moved.factor other.moved.factor m.own m.by (dot line v) (dot line u)
      ∙ (λ i. m.own *ℤ (other.moved.factor *ℤ one.moved.is line i) +ℤ m.by *ℤ (one.moved.factor *ℤ other.moved.is line i))
      ∙ group m.own m.by one.moved.factor other.moved.factor one.moved.own one.moved.by other.moved.own other.moved.by (dot line one.unit) (dot line other.unit) (dot line pivot)
    where
      apart : (f g h x : ℤ) → f *ℤ (g *ℤ h) *ℤ x ≡ f *ℤ (g *ℤ (h *ℤ x))
      apart f g h x = simp ring refl

      spread : (f g n k x y : ℤ) → f *ℤ (g *ℤ (n *ℤ x +ℤ k *ℤ y)) ≡ n *ℤ (g *ℤ (f *ℤ x)) +ℤ k *ℤ (f *ℤ (g *ℤ y))
      spread f g n k x y = simp ring (omega (arith, ints))

      group : (n k f g p q r s x y z : ℤ) → n *ℤ (g *ℤ (p *ℤ x +ℤ q *ℤ z)) +ℤ k *ℤ (f *ℤ (r *ℤ y +ℤ s *ℤ z)) ≡ n *ℤ (g *ℤ p) *ℤ x +ℤ k *ℤ (f *ℤ r) *ℤ y +ℤ (n *ℤ (g *ℤ q) +ℤ k *ℤ (f *ℤ s)) *ℤ z
      group n k f g p q r s x y z = simp ring (omega (arith, ints))

  zero_first : unit_times *ℤ dot first one.unit +ℤ other_times *ℤ dot first other.unit +ℤ pivot_times *ℤ dot first pivot ≡ pos 0
  zero_first = sym (made-on first) ∙ ap (λ z. made_times *ℤ z) (vanishes_above m.factor (dot first made) m.positive (m.is first ∙ vanishing-sum m.own m.by (dot first v) (dot first u) one.moved.zero_there other.moved.zero_there)) ∙ times_zero made_times

  zero_second : unit_times *ℤ dot second one.unit +ℤ other_times *ℤ dot second other.unit +ℤ pivot_times *ℤ dot second pivot ≡ pos 0
  zero_second = sym (made-on second) ∙ ap (λ z. made_times *ℤ z) m.zero_there ∙ times_zero made_times

  -- the minors of the lines at the three units
  abbrev first_minor : ℤ
  first_minor = dot first pivot *ℤ dot second other.unit -ℤ dot first other.unit *ℤ dot second pivot

  abbrev second_minor : ℤ
  second_minor = dot first one.unit *ℤ dot second pivot -ℤ dot first pivot *ℤ dot second one.unit

  abbrev third_minor : ℤ
  third_minor = dot first other.unit *ℤ dot second one.unit -ℤ dot first one.unit *ℤ dot second other.unit

  -- what a line has on the vector of the minors
  abbrev minors_on : List ℤ → ℤ
  minors_on line = first_minor *ℤ dot line one.unit +ℤ second_minor *ℤ dot line other.unit +ℤ third_minor *ℤ dot line pivot

  minors-along : (line : List ℤ) → first_minor *ℤ made_times *ℤ dot line made ≡ unit_times *ℤ minors_on line
  minors-along line =
      apart first_minor made_times (dot line made) ∙ ap (λ z. first_minor *ℤ z) (made-on line)
      ∙ spread first_minor unit_times other_times pivot_times (dot line one.unit) (dot line other.unit) (dot line pivot)
      ∙ (λ i. unit_times *ℤ (first_minor *ℤ dot line one.unit)
      +ℤ second-is_minor unit_times other_times pivot_times (dot first one.unit) (dot first other.unit) (dot first pivot) (dot second one.unit) (dot second other.unit) (dot second pivot) zero_first zero_second i *ℤ dot line other.unit
      +ℤ third-is_minor unit_times other_times pivot_times (dot first one.unit) (dot first other.unit) (dot first pivot) (dot second one.unit) (dot second other.unit) (dot second pivot) zero_first zero_second i *ℤ dot line pivot)
      ∙ group unit_times first_minor second_minor third_minor (dot line one.unit) (dot line other.unit) (dot line pivot)
    where
      apart : (d t x : ℤ) → d *ℤ t *ℤ x ≡ d *ℤ (t *ℤ x)
      apart d t x = simp ring refl

      spread : (d a b c x y z : ℤ) → d *ℤ (a *ℤ x +ℤ b *ℤ y +ℤ c *ℤ z) ≡ a *ℤ (d *ℤ x) +ℤ d *ℤ b *ℤ y +ℤ d *ℤ c *ℤ z
      spread d a b c x y z = simp ring (omega (arith, ints))

      group : (a d e f x y z : ℤ) → a *ℤ (d *ℤ x) +ℤ a *ℤ e *ℤ y +ℤ a *ℤ f *ℤ z ≡ a *ℤ (d *ℤ x +ℤ e *ℤ y +ℤ f *ℤ z)
      group a d e f x y z = simp ring (omega (arith, ints))

  first_minor-seen : first_minor ≢ pos 0
  first_minor-seen e =
      not_zero-*ℤ (dot first pivot) (other.moved.factor *ℤ dot second u) seen (not_zero-*ℤ other.moved.factor (dot second u) (above_not_zero other.moved.factor other.moved.positive) seen_second)
      (ap (λ z. dot first pivot *ℤ z) (other.moved.is second)
      ∙ same (dot first pivot) other.moved.own other.moved.by (dot second other.unit) (dot second pivot) (dot first other.unit)
      ∙ vanishing-sum other.moved.own (dot second pivot) first_minor (other.moved.own *ℤ dot first other.unit +ℤ other.moved.by *ℤ dot first pivot) e
      (sym (other.moved.is first) ∙ ap (λ z. other.moved.factor *ℤ z) other.moved.zero_there ∙ times_zero other.moved.factor))
    where
      same : (r n k y z q : ℤ) → r *ℤ (n *ℤ y +ℤ k *ℤ z) ≡ n *ℤ (r *ℤ y -ℤ q *ℤ z) +ℤ z *ℤ (n *ℤ q +ℤ k *ℤ r)
      same r n k y z q = simp ring (omega (arith, ints))

  minors-within : (line : List ℤ) → AreWithin 1 line → IsWithin (6 * (most * most)) (minors_on line)
  minors-within line h =
      let whole : IsWithin (2 * (most * most) * 1 + 2 * (most * most) * 1 + 2 * (most * most) * 1) (minors_on line) =
      three (2 * (most * most) * 1) (first_minor *ℤ dot line one.unit) (second_minor *ℤ dot line other.unit) (third_minor *ℤ dot line pivot)
      (product-within first_minor (dot line one.unit) (2 * (most * most)) 1 (minor-within most (dot first pivot) (dot second other.unit) (dot first other.unit) (dot second pivot) (at_first pivot small) (at_second other.unit other.small) (at_first other.unit other.small) (at_second pivot small)) (unit-within 1 line one.unit h one.small))
      (product-within second_minor (dot line other.unit) (2 * (most * most)) 1 (minor-within most (dot first one.unit) (dot second pivot) (dot first pivot) (dot second one.unit) (at_first one.unit one.small) (at_second pivot small) (at_first pivot small) (at_second one.unit one.small)) (unit-within 1 line other.unit h other.small))
      (product-within third_minor (dot line pivot) (2 * (most * most)) 1 (minor-within most (dot first other.unit) (dot second one.unit) (dot first one.unit) (dot second other.unit) (at_first other.unit other.small) (at_second one.unit one.small) (at_first one.unit one.small) (at_second other.unit other.small)) (unit-within 1 line pivot h small)) in
      omega (arith, whole)
    where
      at_first : (w : List ℤ) → total w ≤ 1 → IsWithin most (dot first w)
      at_first w k = unit-within most first w within_first k

      at_second : (w : List ℤ) → total w ≤ 1 → IsWithin most (dot second w)
      at_second w k = unit-within most second w within_second k

      three : (part : ℕ) (x y z : ℤ) → IsWithin part x → IsWithin part y → IsWithin part z → IsWithin (part + part + part) (x +ℤ y +ℤ z)
      three part x y z h k l = sum-within (x +ℤ y) z (part + part) part (sum-within x y part part h k) l

  -- so it is at most six products of two numbers of the lines
  pub twice_moved-total : total made ≤ 6 * (most * most)
  twice_moved-total =
      primitive-least (first_minor *ℤ made_times) unit_times made minors_on (6 * (most * most)) primitive
      (not_zero-*ℤ first_minor made_times first_minor-seen (not_zero-*ℤ one.moved.factor (other.moved.factor *ℤ m.factor) (above_not_zero one.moved.factor one.moved.positive) (not_zero-*ℤ other.moved.factor m.factor (above_not_zero other.moved.factor other.moved.positive) (above_not_zero m.factor m.positive))))
      minors-along minors-within
