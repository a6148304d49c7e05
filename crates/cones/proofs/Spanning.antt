-- What vectors span: sums, multiples, and what vanishes on a line.
use Rattle.std.proofs.Common.{◌≡◌, ◌≢◌, sym, ap, ◌∙◌, arith, List, [], ◌∷◌, ℤ, pos, ◌+ℤ◌, ◌-ℤ◌, ◌*ℤ◌}
use Rattle.std.proofs.lemmas.Int.{ints}
use Rattle.std.proofs.Math.IntN.{zero-*ℤ}
use Rattle.std.specs.List.{AllByRecursion}
use Rattle.whole_numbers.proofs.Ring.{ring, *ℤ_assoc, one-*ℤ}
use Rattle.whole_numbers.specs.Dot.{dot}
use Rattle.cones.specs.Spans.{Values, IsSpanned}
use Rattle.cones.proofs.Numbers.{times_zero, vanishes, not_zero-*ℤ, above_not_zero}

one_not_zero : pos 1 ≢ pos 0
one_not_zero = above_not_zero (pos 1) (omega (arith, ints))

pub same_spanned : (vs : List (List ℤ)) (f g : Values) → ((line : List ℤ) → f line ≡ g line) → IsSpanned vs f → IsSpanned vs g
same_spanned [] f g e h = λ line. sym (e line) ∙ h line
same_spanned (v ∷ vs) f g e h = (
  h.0,
  h.1,
  h.2,
  same_spanned vs (λ line. h.0 *ℤ f line -ℤ h.1 *ℤ dot line v) (λ line. h.0 *ℤ g line -ℤ h.1 *ℤ dot line v)
      (λ line. ap (λ z. h.0 *ℤ z -ℤ h.1 *ℤ dot line v) (e line)) h.3,
)

pub zero_spanned : (vs : List (List ℤ)) (f : Values) → ((line : List ℤ) → f line ≡ pos 0) → IsSpanned vs f
zero_spanned [] f e = e
zero_spanned (v ∷ vs) f e =
    (pos 1, pos 0, one_not_zero, zero_spanned vs (λ line. pos 1 *ℤ f line -ℤ pos 0 *ℤ dot line v) (λ line. step (pos 1 *ℤ f line) (pos 0 *ℤ dot line v) (ap (λ z. pos 1 *ℤ z) (e line)) (zero-*ℤ (dot line v))))
  where
    step : (x y : ℤ) → x ≡ pos 0 → y ≡ pos 0 → x -ℤ y ≡ pos 0
    step x y e f = omega (arith, ints)

pub behind_spanned : (v : List ℤ) (vs : List (List ℤ)) (f : Values) → IsSpanned vs f → IsSpanned (v ∷ vs) f
behind_spanned v vs f h =
    (pos 1, pos 0, one_not_zero, same_spanned vs f (λ line. pos 1 *ℤ f line -ℤ pos 0 *ℤ dot line v) (λ line. step (f line) (pos 1 *ℤ f line) (pos 0 *ℤ dot line v) (one-*ℤ (f line)) (zero-*ℤ (dot line v))) h)
  where
    step : (z x y : ℤ) → x ≡ z → y ≡ pos 0 → z ≡ x -ℤ y
    step z x y e f = omega (arith, ints)

pub first_spanned : (v : List ℤ) (vs : List (List ℤ)) → IsSpanned (v ∷ vs) (λ line. dot line v)
first_spanned v vs =
    (pos 1, pos 1, one_not_zero, zero_spanned vs (λ line. pos 1 *ℤ dot line v -ℤ pos 1 *ℤ dot line v) (λ line. none (pos 1 *ℤ dot line v)))
  where
    none : (z : ℤ) → z -ℤ z ≡ pos 0
    none z = omega (arith, ints)

pub each_spanned : (vs : List (List ℤ)) → AllByRecursion (λ v. IsSpanned vs (λ line. dot line v)) vs
each_spanned [] = tt
each_spanned (v ∷ vs) = (first_spanned v vs, lift vs (each_spanned vs))
  where
    lift : (us : List (List ℤ)) → AllByRecursion (λ u. IsSpanned vs (λ line. dot line u)) us → AllByRecursion (λ u. IsSpanned (v ∷ vs) (λ line. dot line u)) us
    lift [] h = tt
    lift (u ∷ us) h = (behind_spanned v vs (λ line. dot line u) h.0, lift us h.1)

pub sum_spanned : (vs : List (List ℤ)) (f g : Values) (a b : ℤ) → IsSpanned vs f → IsSpanned vs g → IsSpanned vs (λ line. a *ℤ f line +ℤ b *ℤ g line)
sum_spanned [] f g a b h k = λ line. none (a *ℤ f line) (b *ℤ g line) (ap (λ z. a *ℤ z) (h line) ∙ times_zero a) (ap (λ z. b *ℤ z) (k line) ∙ times_zero b)
  where
    none : (x y : ℤ) → x ≡ pos 0 → y ≡ pos 0 → x +ℤ y ≡ pos 0
    none x y e f = omega (arith, ints)
sum_spanned (v ∷ vs) f g a b h k = (
  h.0 *ℤ k.0,
  a *ℤ (k.0 *ℤ h.1) +ℤ b *ℤ (h.0 *ℤ k.1),
  not_zero-*ℤ h.0 k.0 h.2 k.2,
  same_spanned vs (λ line. a *ℤ k.0 *ℤ (h.0 *ℤ f line -ℤ h.1 *ℤ dot line v) +ℤ b *ℤ h.0 *ℤ (k.0 *ℤ g line -ℤ k.1 *ℤ dot line v))
      (λ line. h.0 *ℤ k.0 *ℤ (a *ℤ f line +ℤ b *ℤ g line) -ℤ (a *ℤ (k.0 *ℤ h.1) +ℤ b *ℤ (h.0 *ℤ k.1)) *ℤ dot line v)
      (λ line. step a b h.0 h.1 k.0 k.1 (f line) (g line) (dot line v))
      (sum_spanned vs (λ line. h.0 *ℤ f line -ℤ h.1 *ℤ dot line v) (λ line. k.0 *ℤ g line -ℤ k.1 *ℤ dot line v) (a *ℤ k.0) (b *ℤ h.0) h.3 k.3),
)
  where
    step : (a b m c n e x y d : ℤ) → a *ℤ n *ℤ (m *ℤ x -ℤ c *ℤ d) +ℤ b *ℤ m *ℤ (n *ℤ y -ℤ e *ℤ d) ≡ m *ℤ n *ℤ (a *ℤ x +ℤ b *ℤ y) -ℤ (a *ℤ (n *ℤ c) +ℤ b *ℤ (m *ℤ e)) *ℤ d
    step a b m c n e x y d = simp ring (omega (arith, ints))

-- a factor that is not 0 can be taken away
pub scaled_spanned : (vs : List (List ℤ)) (f : Values) (m : ℤ) → m ≢ pos 0 → IsSpanned vs (λ line. m *ℤ f line) → IsSpanned vs f
scaled_spanned [] f m n h = λ line. vanishes m (f line) n (h line)
scaled_spanned (v ∷ vs) f m n h = (
  h.0 *ℤ m,
  h.1,
  not_zero-*ℤ h.0 m h.2 n,
  same_spanned vs (λ line. h.0 *ℤ (m *ℤ f line) -ℤ h.1 *ℤ dot line v) (λ line. h.0 *ℤ m *ℤ f line -ℤ h.1 *ℤ dot line v)
      (λ line. ap (λ z. z -ℤ h.1 *ℤ dot line v) (sym (*ℤ_assoc h.0 m (f line)))) h.3,
)

-- what is 0 on each of the vectors is so on what they span
pub vanishes_on : (vs : List (List ℤ)) (f : Values) (line : List ℤ) → AllByRecursion (λ v. dot line v ≡ pos 0) vs → IsSpanned vs f → f line ≡ pos 0
vanishes_on [] f line e h = h line
vanishes_on (v ∷ vs) f line e h =
    vanishes h.0 (f line) h.2
    (step (h.0 *ℤ f line) (h.1 *ℤ dot line v) (vanishes_on vs (λ line. h.0 *ℤ f line -ℤ h.1 *ℤ dot line v) line e.1 h.3) (ap (λ z. h.1 *ℤ z) e.0 ∙ times_zero h.1))
  where
    step : (x y : ℤ) → x -ℤ y ≡ pos 0 → y ≡ pos 0 → x ≡ pos 0
    step x y e f = omega (arith, ints)

-- vectors that are spanned span no more
pub lifted_spanned : (vs us : List (List ℤ)) (f : Values) → AllByRecursion (λ v. IsSpanned us (λ line. dot line v)) vs → IsSpanned vs f → IsSpanned us f
lifted_spanned [] us f e h = zero_spanned us f h
lifted_spanned (v ∷ vs) us f e h =
    scaled_spanned us f h.0 h.2
    (same_spanned us (λ line. pos 1 *ℤ (h.0 *ℤ f line -ℤ h.1 *ℤ dot line v) +ℤ h.1 *ℤ dot line v) (λ line. h.0 *ℤ f line)
    (λ line. step (h.0 *ℤ f line) (h.1 *ℤ dot line v))
    (sum_spanned us (λ line. h.0 *ℤ f line -ℤ h.1 *ℤ dot line v) (λ line. dot line v) (pos 1) h.1
    (lifted_spanned vs us (λ line. h.0 *ℤ f line -ℤ h.1 *ℤ dot line v) e.1 h.3) e.0))
  where
    step : (x y : ℤ) → pos 1 *ℤ (x -ℤ y) +ℤ y ≡ x
    step x y = rw (one-*ℤ (x -ℤ y)) (plain x y)
      where
        plain : (x y : ℤ) → x -ℤ y +ℤ y ≡ x
        plain x y = omega (arith, ints)
