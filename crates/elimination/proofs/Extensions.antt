-- What a space and one more vector span.
use Rattle.std.proofs.Common.{◌≡◌, zero, suc, refl, sym, ap, ◌∙◌, arith, ℤ, pos, negsuc, ◌+ℤ◌, ◌-ℤ◌, ◌*ℤ◌}
use Rattle.std.specs.Prelude.{neg_ℤ, ◌^◌}
use Rattle.std.proofs.lemmas.Int.{ints}
use Rattle.std.proofs.Math.IntN.{*ℤ_comm, zero-*ℤ}
use Rattle.whole_numbers.proofs.Ring.{ring}
use Rattle.simplex.proofs.Exchanges.{times_zero, zero_factor}
use Rattle.elimination.specs.declared.vectors.Vector.{Vector}
use Rattle.elimination.specs.declared.spaces.Space.{Space}
use Rattle.elimination.specs.declared.spaces.Space.TheVariants.{Origin, Line, Plane, Whole}
use Rattle.elimination.specs.Spaces.{IsZero, IsUpTo, IsSome, IsIn, IsProper, IsSum, Extends, cross, vector_dot}

-- ---- single numbers

pub one_some : pos 1 ≡ pos 0 → ⊥
one_some e = omega (arith, ints, e)

-- a number is 0 or not
pub zero_or : {P : Type 0} (z : ℤ) → (z ≡ pos 0 → P) → ((z ≡ pos 0 → ⊥) → P) → P
zero_or (pos zero) none some = none refl
zero_or (pos (suc n)) none some = some (λ e. omega (arith, ints, e))
zero_or (negsuc n) none some = some (λ e. omega (arith, ints, e))

level : (x y : ℤ) → x -ℤ y ≡ pos 0 → x ≡ y
level x y e = omega (arith, ints, e)

self_less : (x : ℤ) → x -ℤ x ≡ pos 0
self_less x = omega (arith, ints)

-- a number that a factor other than 0 brings to 0
pub zero_of_product : (factor x : ℤ) → (factor ≡ pos 0 → ⊥) → factor *ℤ x ≡ pos 0 → x ≡ pos 0
zero_of_product factor x some e = zero_factor x factor (*ℤ_comm x factor ∙ e) some

-- ---- 0 in a space

zero_less : (a b u t : ℤ) → u ≡ pos 0 → t ≡ pos 0 → a *ℤ u -ℤ b *ℤ t ≡ pos 0
zero_less a b u t e f = rw (e, f, times_zero a, times_zero b) refl

cross-zero : (p w : Vector) → IsZero w → IsZero (cross p w)
cross-zero p w h = record { x = zero_less p.y p.z w.z w.y h.z h.y; y = zero_less p.z p.x w.x w.z h.x h.z; z = zero_less p.x p.y w.y w.x h.y h.x }

dot-zero : (n w : Vector) → IsZero w → vector_dot n w ≡ pos 0
dot-zero n w h = rw (h.x, h.y, h.z, times_zero n.x, times_zero n.y, times_zero n.z) refl

pub zero_in : (space : Space) (w : Vector) → IsZero w → IsIn space w
zero_in Origin w h = h
zero_in (Line p) w h = cross-zero p w h
zero_in (Plane n) w h = dot-zero n w h
zero_in Whole w h = tt

-- ---- sums in a space

sum_of_none : (a b x y : ℤ) → x ≡ pos 0 → y ≡ pos 0 → a *ℤ x +ℤ b *ℤ y ≡ pos 0
sum_of_none a b x y e f = rw (e, f, times_zero a, times_zero b) refl

-- one condition of a line on two numbers
pair_closed : (c d fu fv su sv wu wv a b t : ℤ) → (t ≡ pos 0 → ⊥) → t *ℤ wu ≡ a *ℤ fu +ℤ b *ℤ su → t *ℤ wv ≡ a *ℤ fv +ℤ b *ℤ sv
    → c *ℤ fu -ℤ d *ℤ fv ≡ pos 0 → c *ℤ su -ℤ d *ℤ sv ≡ pos 0 → c *ℤ wu -ℤ d *ℤ wv ≡ pos 0
pair_closed c d fu fv su sv wu wv a b t some eu ev f s =
    zero_of_product t (c *ℤ wu -ℤ d *ℤ wv) some
    (inward t c wu d wv ∙ ap (λ z. c *ℤ z -ℤ d *ℤ (t *ℤ wv)) eu ∙ ap (λ z. c *ℤ (a *ℤ fu +ℤ b *ℤ su) -ℤ d *ℤ z) ev ∙ regroup ∙ sum_of_none a b (c *ℤ fu -ℤ d *ℤ fv) (c *ℤ su -ℤ d *ℤ sv) f s)
  where
    inward : (t c u d v : ℤ) → t *ℤ (c *ℤ u -ℤ d *ℤ v) ≡ c *ℤ (t *ℤ u) -ℤ d *ℤ (t *ℤ v)
    inward t c u d v = simp ring (omega (arith, ints))

    regroup : c *ℤ (a *ℤ fu +ℤ b *ℤ su) -ℤ d *ℤ (a *ℤ fv +ℤ b *ℤ sv) ≡ a *ℤ (c *ℤ fu -ℤ d *ℤ fv) +ℤ b *ℤ (c *ℤ su -ℤ d *ℤ sv)
    regroup = simp ring (omega (arith, ints))

-- the condition of a plane
dot_closed : (n f s w : Vector) (a b t : ℤ) → (t ≡ pos 0 → ⊥) → t *ℤ w.x ≡ a *ℤ f.x +ℤ b *ℤ s.x → t *ℤ w.y ≡ a *ℤ f.y +ℤ b *ℤ s.y → t *ℤ w.z ≡ a *ℤ f.z +ℤ b *ℤ s.z
    → vector_dot n f ≡ pos 0 → vector_dot n s ≡ pos 0 → vector_dot n w ≡ pos 0
dot_closed n f s w a b t some ex ey ez hf hs =
    zero_of_product t (vector_dot n w) some (inward t n.x n.y n.z w.x w.y w.z ∙ rw (ex, ey, ez) (regroup a b n.x n.y n.z f.x f.y f.z s.x s.y s.z ∙ sum_of_none a b (vector_dot n f) (vector_dot n s) hf hs))
  where
    inward : (t c d e u v o : ℤ) → t *ℤ (c *ℤ u +ℤ d *ℤ v +ℤ e *ℤ o) ≡ c *ℤ (t *ℤ u) +ℤ d *ℤ (t *ℤ v) +ℤ e *ℤ (t *ℤ o)
    inward t c d e u v o = simp ring (omega (arith, ints))

    regroup : (a b c d e fu fv fo su sv so : ℤ)
        → c *ℤ (a *ℤ fu +ℤ b *ℤ su) +ℤ d *ℤ (a *ℤ fv +ℤ b *ℤ sv) +ℤ e *ℤ (a *ℤ fo +ℤ b *ℤ so) ≡ a *ℤ (c *ℤ fu +ℤ d *ℤ fv +ℤ e *ℤ fo) +ℤ b *ℤ (c *ℤ su +ℤ d *ℤ sv +ℤ e *ℤ so)
    regroup a b c d e fu fv fo su sv so = simp ring (omega (arith, ints))

-- a vector of which a multiple is a sum of multiples of two others
pub sum_in : (space : Space) (f s w : Vector) (a b t : ℤ) → (t ≡ pos 0 → ⊥) → t *ℤ w.x ≡ a *ℤ f.x +ℤ b *ℤ s.x → t *ℤ w.y ≡ a *ℤ f.y +ℤ b *ℤ s.y → t *ℤ w.z ≡ a *ℤ f.z +ℤ b *ℤ s.z
    → IsIn space f → IsIn space s → IsIn space w
sum_in Origin f s w a b t some ex ey ez hf hs = record {
  x = zero_of_product t w.x some (ex ∙ sum_of_none a b f.x s.x hf.x hs.x);
  y = zero_of_product t w.y some (ey ∙ sum_of_none a b f.y s.y hf.y hs.y);
  z = zero_of_product t w.z some (ez ∙ sum_of_none a b f.z s.z hf.z hs.z);
}
sum_in (Line p) f s w a b t some ex ey ez hf hs = record {
  x = pair_closed p.y p.z f.z f.y s.z s.y w.z w.y a b t some ez ey hf.x hs.x;
  y = pair_closed p.z p.x f.x f.z s.x s.z w.x w.z a b t some ex ez hf.y hs.y;
  z = pair_closed p.x p.y f.y f.x s.y s.x w.y w.x a b t some ey ex hf.z hs.z;
}
sum_in (Plane n) f s w a b t some ex ey ez hf hs = dot_closed n f s w a b t some ex ey ez hf hs
sum_in Whole f s w a b t some ex ey ez hf hs = tt

-- ---- multiples of one vector

-- a multiple of one vector is a multiple of another
pub record IsProportional (p w : Vector) : Type 0 where
  pub q : ℤ
  pub r : ℤ
  pub apart : q ≡ pos 0 → ⊥
  pub x : q *ℤ w.x ≡ r *ℤ p.x
  pub y : q *ℤ w.y ≡ r *ℤ p.y
  pub z : q *ℤ w.z ≡ r *ℤ p.z

pub proportional : (p w : Vector) → (IsZero p → ⊥) → IsZero (cross p w) → IsProportional p w
proportional p w some h =
    zero_or p.x (λ ex. zero_or p.y (λ ey. zero_or p.z (λ ez. absurd (some (record { x = ex; y = ey; z = ez })))
    by_z) by_y) by_x
  where
    ahead : (a b c d : ℤ) → a *ℤ b -ℤ c *ℤ d ≡ pos 0 → a *ℤ b ≡ d *ℤ c
    ahead a b c d e = level (a *ℤ b) (c *ℤ d) e ∙ *ℤ_comm c d

    behind : (a b c d : ℤ) → a *ℤ b -ℤ c *ℤ d ≡ pos 0 → c *ℤ d ≡ b *ℤ a
    behind a b c d e = sym (level (a *ℤ b) (c *ℤ d) e) ∙ *ℤ_comm a b

    by_x : (p.x ≡ pos 0 → ⊥) → IsProportional p w
    by_x n = record { q = p.x; r = w.x; apart = n; x = *ℤ_comm p.x w.x; y = ahead p.x w.y p.y w.x h.z; z = behind p.z w.x p.x w.z h.y }

    by_y : (p.y ≡ pos 0 → ⊥) → IsProportional p w
    by_y n = record { q = p.y; r = w.y; apart = n; x = behind p.x w.y p.y w.x h.z; y = *ℤ_comm p.y w.y; z = ahead p.y w.z p.z w.y h.x }

    by_z : (p.z ≡ pos 0 → ⊥) → IsProportional p w
    by_z n = record { q = p.z; r = w.z; apart = n; x = ahead p.z w.x p.x w.z h.y; y = behind p.y w.z p.z w.y h.x; z = *ℤ_comm p.z w.z }

-- ---- a vector that the space has

alone : (x v : ℤ) → pos 1 *ℤ x ≡ x +ℤ pos 0 *ℤ v
alone x v = omega (arith, ints, zero-*ℤ v)

same : (space : Space) (v : Vector) → IsProper space → IsIn space v → Extends space v space
same space v proper own = record {
  proper = proper;
  kept = λ w h. h;
  own = own;
  made = λ w h. record { part = w; by = pos 0; times = pos 1; apart = one_some; within = h; x = alone w.x v.x; y = alone w.y v.y; z = alone w.z v.z };
}

-- ---- 0 and a vector

swapped : (a b : ℤ) → a *ℤ b -ℤ b *ℤ a ≡ pos 0
swapped a b = ap (λ z. z -ℤ b *ℤ a) (*ℤ_comm a b) ∙ self_less (b *ℤ a)

pub cross_self : (v : Vector) → IsZero (cross v v)
cross_self v = record { x = swapped v.y v.z; y = swapped v.z v.x; z = swapped v.x v.y }

no_part : (x y : ℤ) → x ≡ y → x ≡ pos 0 +ℤ y
no_part x y e = omega (arith, ints, e)

pub origin_kept : (v : Vector) → IsZero v → Extends Origin v Origin
origin_kept v h = same Origin v tt h

pub origin_to_line : (v : Vector) → (IsZero v → ⊥) → IsUpTo (2 ^ 18) v → Extends Origin v (Line v)
origin_to_line v some small = record {
  proper = record { some = some; small = small };
  kept = λ w h. cross-zero v w h;
  own = cross_self v;
  made = λ w h. made w (proportional v w some h);
}
  where
    made : (w : Vector) → IsProportional v w → IsSum Origin v w
    made w p = record {
      part = record { x = pos 0; y = pos 0; z = pos 0 };
      by = p.r;
      times = p.q;
      apart = p.apart;
      within = record { x = refl; y = refl; z = refl };
      x = no_part (p.q *ℤ w.x) (p.r *ℤ v.x) p.x;
      y = no_part (p.q *ℤ w.y) (p.r *ℤ v.y) p.y;
      z = no_part (p.q *ℤ w.z) (p.r *ℤ v.z) p.z;
    }

-- ---- a line and a vector

pub line_kept : (p v : Vector) → IsSome (2 ^ 18) p → IsZero (cross p v) → Extends (Line p) v (Line p)
line_kept p v proper h = same (Line p) v proper h

-- the product of three vectors, in two orders
triple : (p v w : Vector) → vector_dot (cross p v) w ≡ neg_ℤ (vector_dot (cross p w) v)
triple p v w = plain p.x p.y p.z v.x v.y v.z w.x w.y w.z
  where
    plain : (a b c d e f g h i : ℤ)
        → (b *ℤ f -ℤ c *ℤ e) *ℤ g +ℤ (c *ℤ d -ℤ a *ℤ f) *ℤ h +ℤ (a *ℤ e -ℤ b *ℤ d) *ℤ i ≡ neg_ℤ ((b *ℤ i -ℤ c *ℤ h) *ℤ d +ℤ (c *ℤ g -ℤ a *ℤ i) *ℤ e +ℤ (a *ℤ h -ℤ b *ℤ g) *ℤ f)
    plain a b c d e f g h i = simp ring (omega (arith, ints))

zero-dot : (n w : Vector) → IsZero n → vector_dot n w ≡ pos 0
zero-dot n w h = rw (h.x, h.y, h.z, zero-*ℤ w.x, zero-*ℤ w.y, zero-*ℤ w.z) refl

cross-dot : (p v : Vector) → vector_dot (cross p v) v ≡ pos 0
cross-dot p v = plain p.x p.y p.z v.x v.y v.z
  where
    plain : (a b c d e f : ℤ) → (b *ℤ f -ℤ c *ℤ e) *ℤ d +ℤ (c *ℤ d -ℤ a *ℤ f) *ℤ e +ℤ (a *ℤ e -ℤ b *ℤ d) *ℤ f ≡ pos 0
    plain a b c d e f = simp ring (omega (arith, ints))

-- a multiple of a vector lies on its line
cross-times : (p : Vector) (c : ℤ) → IsZero (cross p (record { x = c *ℤ p.x; y = c *ℤ p.y; z = c *ℤ p.z }))
cross-times p c = record { x = none p.y p.z; y = none p.z p.x; z = none p.x p.y }
  where
    none : (a b : ℤ) → a *ℤ (c *ℤ b) -ℤ b *ℤ (c *ℤ a) ≡ pos 0
    none a b = simp ring (omega (arith, ints))

-- Of two vectors that are not proportional at two places, a vector that is orthogonal to their
-- product is a sum: its numbers at these places, and at the third.
at_first : (a b d e g h : ℤ) → (a *ℤ e -ℤ b *ℤ d) *ℤ g ≡ (g *ℤ e -ℤ h *ℤ d) *ℤ a +ℤ (a *ℤ h -ℤ b *ℤ g) *ℤ d
at_first a b d e g h = simp ring (omega (arith, ints))

at_second : (a b d e g h : ℤ) → (a *ℤ e -ℤ b *ℤ d) *ℤ h ≡ (g *ℤ e -ℤ h *ℤ d) *ℤ b +ℤ (a *ℤ h -ℤ b *ℤ g) *ℤ e
at_second a b d e g h = simp ring (omega (arith, ints))

at_third : (a b c d e f g h i : ℤ) → (b *ℤ f -ℤ c *ℤ e) *ℤ g +ℤ (c *ℤ d -ℤ a *ℤ f) *ℤ h +ℤ (a *ℤ e -ℤ b *ℤ d) *ℤ i ≡ pos 0
    → (a *ℤ e -ℤ b *ℤ d) *ℤ i ≡ (g *ℤ e -ℤ h *ℤ d) *ℤ c +ℤ (a *ℤ h -ℤ b *ℤ g) *ℤ f
at_third a b c d e f g h i z = rest ((b *ℤ f -ℤ c *ℤ e) *ℤ g +ℤ (c *ℤ d -ℤ a *ℤ f) *ℤ h) ((a *ℤ e -ℤ b *ℤ d) *ℤ i) z ∙ turned
  where
    rest : (x y : ℤ) → x +ℤ y ≡ pos 0 → y ≡ neg_ℤ x
    rest x y k = omega (arith, ints, k)

    turned : neg_ℤ ((b *ℤ f -ℤ c *ℤ e) *ℤ g +ℤ (c *ℤ d -ℤ a *ℤ f) *ℤ h) ≡ (g *ℤ e -ℤ h *ℤ d) *ℤ c +ℤ (a *ℤ h -ℤ b *ℤ g) *ℤ f
    turned = simp ring (omega (arith, ints))

pub line_to_plane : (p v : Vector) → (IsZero (cross p v) → ⊥) → IsUpTo (2 ^ 37) (cross p v) → Extends (Line p) v (Plane (cross p v))
line_to_plane p v some small = record {
  proper = record { some = some; small = small };
  kept = λ w h. triple p v w ∙ ap neg_ℤ (zero-dot (cross p w) v h);
  own = cross-dot p v;
  made = λ w h. zero_or (cross p v).z (λ ez. zero_or (cross p v).y (λ ey. zero_or (cross p v).x (λ ex. absurd (some (record { x = ex; y = ey; z = ez })))
      (by_x w h)) (by_y w h)) (by_z w h);
}
  where
    times : ℤ → Vector
    times c = record { x = c *ℤ p.x; y = c *ℤ p.y; z = c *ℤ p.z }

    turn : (x y z : ℤ) → x +ℤ y +ℤ z ≡ pos 0 → y +ℤ z +ℤ x ≡ pos 0
    turn x y z e = omega (arith, ints, e)

    by_z : (w : Vector) → vector_dot (cross p v) w ≡ pos 0 → ((cross p v).z ≡ pos 0 → ⊥) → IsSum (Line p) v w
    by_z w h n = record {
      part = times (w.x *ℤ v.y -ℤ w.y *ℤ v.x);
      by = p.x *ℤ w.y -ℤ p.y *ℤ w.x;
      times = (cross p v).z;
      apart = n;
      within = cross-times p (w.x *ℤ v.y -ℤ w.y *ℤ v.x);
      x = at_first p.x p.y v.x v.y w.x w.y;
      y = at_second p.x p.y v.x v.y w.x w.y;
      z = at_third p.x p.y p.z v.x v.y v.z w.x w.y w.z h;
    }

    by_x : (w : Vector) → vector_dot (cross p v) w ≡ pos 0 → ((cross p v).x ≡ pos 0 → ⊥) → IsSum (Line p) v w
    by_x w h n = record {
      part = times (w.y *ℤ v.z -ℤ w.z *ℤ v.y);
      by = p.y *ℤ w.z -ℤ p.z *ℤ w.y;
      times = (cross p v).x;
      apart = n;
      within = cross-times p (w.y *ℤ v.z -ℤ w.z *ℤ v.y);
      x = at_third p.y p.z p.x v.y v.z v.x w.y w.z w.x (turn ((cross p v).x *ℤ w.x) ((cross p v).y *ℤ w.y) ((cross p v).z *ℤ w.z) h);
      y = at_first p.y p.z v.y v.z w.y w.z;
      z = at_second p.y p.z v.y v.z w.y w.z;
    }

    by_y : (w : Vector) → vector_dot (cross p v) w ≡ pos 0 → ((cross p v).y ≡ pos 0 → ⊥) → IsSum (Line p) v w
    by_y w h n = record {
      part = times (w.z *ℤ v.x -ℤ w.x *ℤ v.z);
      by = p.z *ℤ w.x -ℤ p.x *ℤ w.z;
      times = (cross p v).y;
      apart = n;
      within = cross-times p (w.z *ℤ v.x -ℤ w.x *ℤ v.z);
      x = at_second p.z p.x v.z v.x w.z w.x;
      y = at_third p.z p.x p.y v.z v.x v.y w.z w.x w.y (turn ((cross p v).y *ℤ w.y) ((cross p v).z *ℤ w.z) ((cross p v).x *ℤ w.x) (turn ((cross p v).x *ℤ w.x) ((cross p v).y *ℤ w.y) ((cross p v).z *ℤ w.z) h));
      z = at_first p.z p.x v.z v.x w.z w.x;
    }

-- ---- a plane and a vector

pub plane_kept : (n v : Vector) → IsSome (2 ^ 37) n → vector_dot n v ≡ pos 0 → Extends (Plane n) v (Plane n)
plane_kept n v proper h = same (Plane n) v proper h

pub plane_to_whole : (n v : Vector) → (vector_dot n v ≡ pos 0 → ⊥) → Extends (Plane n) v Whole
plane_to_whole n v some = record {
  proper = tt;
  kept = λ w h. tt;
  own = tt;
  made = λ w h. made w (vector_dot n v) (vector_dot n w) refl refl;
}
  where
    cut : (k m x v : ℤ) → k *ℤ x ≡ k *ℤ x -ℤ m *ℤ v +ℤ m *ℤ v
    cut k m x v = omega (arith, ints)

    regroup : (a b c k m d e f g h i : ℤ)
        → a *ℤ (k *ℤ g -ℤ m *ℤ d) +ℤ b *ℤ (k *ℤ h -ℤ m *ℤ e) +ℤ c *ℤ (k *ℤ i -ℤ m *ℤ f) ≡ k *ℤ (a *ℤ g +ℤ b *ℤ h +ℤ c *ℤ i) -ℤ m *ℤ (a *ℤ d +ℤ b *ℤ e +ℤ c *ℤ f)
    regroup a b c k m d e f g h i = simp ring (omega (arith, ints))

    made : (w : Vector) (k m : ℤ) → vector_dot n v ≡ k → vector_dot n w ≡ m → IsSum (Plane n) v w
    made w k m ek em = record {
      part = record { x = k *ℤ w.x -ℤ m *ℤ v.x; y = k *ℤ w.y -ℤ m *ℤ v.y; z = k *ℤ w.z -ℤ m *ℤ v.z };
      by = m;
      times = k;
      apart = λ e. some (ek ∙ e);
      within = regroup n.x n.y n.z k m v.x v.y v.z w.x w.y w.z ∙ ap (λ z. k *ℤ z -ℤ m *ℤ vector_dot n v) em ∙ ap (λ z. k *ℤ m -ℤ m *ℤ z) ek ∙ swapped k m;
      x = cut k m w.x v.x;
      y = cut k m w.y v.y;
      z = cut k m w.z v.z;
    }

pub whole_kept : (v : Vector) → Extends Whole v Whole
whole_kept v = same Whole v tt tt
