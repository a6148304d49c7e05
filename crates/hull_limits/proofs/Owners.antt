-- Solutions of a frame that own columns, and the tableau that they are.
use Rattle.std.proofs.Common.{◌≡◌, ◌≢◌, ℕ, zero, suc, ◌<◌, cond, ⊎_elim, inl, inr, refl, sym, ap, subst, ◌∙◌, arith, List, [], ◌∷◌, ◌++◌, map, length, get_or, nat_eq, ℤ, pos, negsuc, ◌+ℤ◌, ◌*ℤ◌, ◌<ℤ◌}
use Rattle.std.specs.Prelude.{◌⊎◌, neg_ℤ, unsigned_abs}
use Rattle.std.specs.List.{AllByRecursion}
use Rattle.std.proofs.lemmas.Bool.{cases_eq, eq-eqb, ne_eqb}
use Rattle.std.proofs.lemmas.Int.{ints}
use Rattle.std.proofs.Math.IntN.{zero-*ℤ}
use Rattle.items.proofs.Each.{each-both, each-map, each-more}
use Rattle.whole_numbers.proofs.Ring.{ring, *ℤ_assoc, *ℤ-one, *ℤ-positive, one-*ℤ}
use Rattle.cones.specs.Cones.{along_sign}
use Rattle.cones.proofs.Numbers.{times_zero}
use Rattle.farkas_check.specs.Frames.{Frame, IsTableau, line_count, number_in, sum_below, width}
use Rattle.simplex.proofs.Corners.{single, factored}
use Rattle.simplex.proofs.Sums.{sum_below-same}

-- ---- sums over columns

-- the sum of a function over listed columns
abbrev pub sum_over : List ℕ → (ℕ → ℤ) → ℤ
sum_over [] g = pos 0
sum_over (c ∷ cs) g = g c +ℤ sum_over cs g

over-append : (xs ys : List ℕ) (g : ℕ → ℤ) → sum_over (xs ++ ys) g ≡ sum_over xs g +ℤ sum_over ys g
over-append [] ys g = nothing (sum_over ys g)
  where
    nothing : (z : ℤ) → z ≡ pos 0 +ℤ z
    nothing z = omega (arith, ints)
over-append (x ∷ xs) ys g = step (g x) (sum_over (xs ++ ys) g) (sum_over xs g) (sum_over ys g) (over-append xs ys g)
  where
    step : (a b c d : ℤ) → b ≡ c +ℤ d → a +ℤ b ≡ a +ℤ c +ℤ d
    step a b c d e = omega (arith, ints)

over-zero : (cs : List ℕ) (g : ℕ → ℤ) → AllByRecursion (λ c. g c ≡ pos 0) cs → sum_over cs g ≡ pos 0
over-zero [] g h = refl
over-zero (c ∷ cs) g h = step (g c) (sum_over cs g) h.0 (over-zero cs g h.1)
  where
    step : (a b : ℤ) → a ≡ pos 0 → b ≡ pos 0 → a +ℤ b ≡ pos 0
    step a b e f = omega (arith, ints)

-- a sum over a list is one over its places
over-places : (cs : List ℕ) (g : ℕ → ℤ) → sum_over cs g ≡ sum_below (length cs) (λ k. g (get_or cs k 0))
over-places [] g = refl
over-places (c ∷ cs) g = ap (λ z. g c +ℤ z) (over-places cs g) ∙ sym (front (length cs) (λ k. g (get_or (c ∷ cs) k 0)))
  where
    front : (n : ℕ) (f : ℕ → ℤ) → sum_below (suc n) f ≡ f 0 +ℤ sum_below n (λ k. f (suc k))
    front zero f = omega (arith, ints)
    front (suc n) f = ap (λ z. z +ℤ f (suc n)) (front n f) ∙ group (f 0) (sum_below n (λ k. f (suc k))) (f (suc n))
      where
        group : (a b c : ℤ) → a +ℤ b +ℤ c ≡ a +ℤ (b +ℤ c)
        group a b c = omega (arith, ints)

-- a number at one column, and 0 at each other
abbrev pub only : ℕ → ℤ → ℕ → ℤ
only col z c = cond (nat_eq c col) z (pos 0)

pub only-there : (col : ℕ) (z : ℤ) → only col z col ≡ z
only-there col z = rw (eq-eqb col col refl) refl

pub only-else : (col c : ℕ) (z : ℤ) → c ≢ col → only col z c ≡ pos 0
only-else col c z h = rw (ne_eqb c col h) refl

pub only-sum : (count col : ℕ) (z : ℤ) → col < count → sum_below count (only col z) ≡ z
only-sum count col z h = single count (only col z) col h (λ j k e. only-else col j z e) ∙ only-there col z

-- each column is owned or chosen, and by one
pub record AreParted (count : ℕ) (own chosen : List ℕ) : Type 0 where
  pub sums : (g : ℕ → ℤ) → sum_over own g +ℤ sum_over chosen g ≡ sum_below count g

-- what is so of one of the columns is found there, or the column is none of them
pub found_in : (P : ℕ → Type 0) (cs : List ℕ) (col : ℕ) → AllByRecursion P cs → P col ⊎ (sum_over cs (only col (pos 1)) ≡ pos 0)
found_in P [] col h = inr refl
found_in P (c ∷ cs) col h =
    ⊎_elim (λ e. inl (subst P e h.0)) (λ n. ⊎_elim (λ k. inl k) (λ k. inr (step (only col (pos 1) c) (sum_over cs (only col (pos 1))) (only-else col c (pos 1) n) k)) (found_in P cs col h.1)) (cases_eq c col)
  where
    step : (a b : ℤ) → a ≡ pos 0 → b ≡ pos 0 → a +ℤ b ≡ pos 0
    step a b e f = omega (arith, ints)

pub each-column : (P : ℕ → Type 0) (count : ℕ) (own chosen : List ℕ) → AreParted count own chosen → AllByRecursion P own → AllByRecursion P chosen → (col : ℕ) → col < count → P col
each-column P count own chosen parted h k col l =
    ⊎_elim (λ p. p) (λ e. ⊎_elim (λ p. p) (λ f. absurd (clash (sum_over own (only col (pos 1))) (sum_over chosen (only col (pos 1))) (sum_below count (only col (pos 1))) e f (parted.sums (only col (pos 1))) (only-sum count col (pos 1) l))) (found_in P chosen col k)) (found_in P own col h)
  where
    clash : (a b c : ℤ) → a ≡ pos 0 → b ≡ pos 0 → a +ℤ b ≡ c → c ≡ pos 1 → ⊥
    clash a b c e f g i = omega (arith, ints)

-- ---- owners

-- a vector, by its numbers at all columns of a frame, and the column that it owns
pub record Owner : Type 0 where
  pub column : ℕ
  pub numbers : ℕ → ℤ

-- what it has at its own column
abbrev pub own : Owner → ℤ
own o = o.numbers o.column

-- the columns that are owned
abbrev pub columns_of : List Owner → List ℕ
columns_of os = map (λ (o : Owner). o.column) os

-- each of two has 0 where the other one owns
pub record AreApart (o p : Owner) : Type 0 where
  pub there : o.numbers p.column ≡ pos 0
  pub here : p.numbers o.column ≡ pos 0

-- each has a number at its own column, and 0 at those of the others
abbrev pub AreOwners : List Owner → Type 0
AreOwners [] = Unit {0}
AreOwners (o ∷ os) = (own o ≢ pos 0) × AllByRecursion (AreApart o) os × AreOwners os

-- each line of the frame is 0 on the vector
abbrev pub IsSolution : Frame → (ℕ → ℤ) → Type 0
IsSolution f x = (line : ℕ) → line < line_count f → sum_below (width f) (λ c. number_in f line c *ℤ x c) ≡ pos 0

-- solutions that own the columns that are not chosen
pub record IsBasis (f : Frame) (os : List Owner) (chosen : List ℕ) : Type 0 where
  pub each : length chosen ≡ line_count f
  pub within : AllByRecursion (λ c. c < width f) chosen
  pub owned : AllByRecursion (λ (o : Owner). o.column < width f) os
  pub owners : AreOwners os
  pub solved : AllByRecursion (λ (o : Owner). IsSolution f o.numbers) os
  pub parted : AreParted (width f) (columns_of os) chosen

-- ---- the tableau

-- the magnitude of a number
abbrev size : ℤ → ℤ
size z = pos (unsigned_abs z)

-- 1, or -1 where the number is negative
abbrev sign : ℤ → ℤ
sign z = along_sign z (pos 1)

sign-size : (z : ℤ) → sign z *ℤ z ≡ size z
sign-size (pos n) = omega (arith, ints)
sign-size (negsuc n) = omega (arith, ints)

size-positive : (z : ℤ) → z ≢ pos 0 → pos 0 <ℤ size z
size-positive (pos zero) h = absurd (h refl)
size-positive (pos (suc n)) h = omega (arith, ints)
size-positive (negsuc n) h = omega (arith, ints)

-- the product of the owners' magnitudes at their own columns
abbrev pub over_of : List Owner → ℤ
over_of [] = pos 1
over_of (o ∷ os) = size (own o) *ℤ over_of os

pub over-positive : (os : List Owner) → AreOwners os → pos 0 <ℤ over_of os
over-positive [] h = omega (arith, ints)
over-positive (o ∷ os) h = *ℤ-positive (size (own o)) (over_of os) (size-positive (own o) h.0) (over-positive os h.2)

-- the multiple of a chosen column: at an owned one by its owner, times what all others have at theirs
abbrev pub multiple_by : ℤ → List Owner → List ℕ → ℕ → ℕ → ℤ
multiple_by scale [] chosen k col = only col scale (get_or chosen k 0)
multiple_by scale (o ∷ os) chosen k col =
    cond (nat_eq o.column col) (neg_ℤ (scale *ℤ over_of os *ℤ sign (own o)) *ℤ o.numbers (get_or chosen k 0)) (multiple_by (scale *ℤ size (own o)) os chosen k col)

-- how the multiples at an owner's column are read
pub record IsRead (total : ℤ) (chosen : List ℕ) (multiple : ℕ → ℕ → ℤ) (o : Owner) : Type 0 where
  pub by : ℤ
  pub over : total ≡ by *ℤ own o
  pub is : (k : ℕ) → multiple k o.column ≡ neg_ℤ by *ℤ o.numbers (get_or chosen k 0)

IsRead-same : (total other : ℤ) (chosen : List ℕ) (m n : ℕ → ℕ → ℤ) (o : Owner) → total ≡ other → ((k : ℕ) → n k o.column ≡ m k o.column) → IsRead total chosen m o → IsRead other chosen n o
IsRead-same total other chosen m n o e same r = record { by = r.by; over = sym e ∙ r.over; is = λ k. same k ∙ r.is k }

multiples-read : (scale : ℤ) (os : List Owner) (chosen : List ℕ) → AreOwners os → AllByRecursion (IsRead (scale *ℤ over_of os) chosen (multiple_by scale os chosen)) os
multiples-read scale [] chosen h = tt
multiples-read scale (o ∷ os) chosen h = (
  record { by = scale *ℤ over_of os *ℤ sign (own o); over = first scale (size (own o)) (over_of os) (sign (own o)) (own o) (sign-size (own o)); is = λ k. ap (λ b. cond b (neg_ℤ (scale *ℤ over_of os *ℤ sign (own o)) *ℤ o.numbers (get_or chosen k 0)) (multiple_by (scale *ℤ size (own o)) os chosen k o.column)) (eq-eqb o.column o.column refl) },
  each-more (λ p. AreApart o p × IsRead (scale *ℤ size (own o) *ℤ over_of os) chosen (multiple_by (scale *ℤ size (own o)) os chosen) p) (IsRead (scale *ℤ (size (own o) *ℤ over_of os)) chosen (multiple_by scale (o ∷ os) chosen)) later os
      (each-both (AreApart o) (IsRead (scale *ℤ size (own o) *ℤ over_of os) chosen (multiple_by (scale *ℤ size (own o)) os chosen)) os h.1 (multiples-read (scale *ℤ size (own o)) os chosen h.2)),
)
  where
    first : (a b c s w : ℤ) → s *ℤ w ≡ b → a *ℤ (b *ℤ c) ≡ a *ℤ c *ℤ s *ℤ w
    first a b c s w e = ap (λ z. a *ℤ (z *ℤ c)) (sym e) ∙ group a c s w
      where
        group : (a c s w : ℤ) → a *ℤ (s *ℤ w *ℤ c) ≡ a *ℤ c *ℤ s *ℤ w
        group a c s w = simp ring (omega (arith, ints))

    later : (p : Owner) → AreApart o p × IsRead (scale *ℤ size (own o) *ℤ over_of os) chosen (multiple_by (scale *ℤ size (own o)) os chosen) p → IsRead (scale *ℤ (size (own o) *ℤ over_of os)) chosen (multiple_by scale (o ∷ os) chosen) p
    later p both =
        IsRead-same (scale *ℤ size (own o) *ℤ over_of os) (scale *ℤ (size (own o) *ℤ over_of os)) chosen (multiple_by (scale *ℤ size (own o)) os chosen) (multiple_by scale (o ∷ os) chosen) p (*ℤ_assoc scale (size (own o)) (over_of os))
        (λ k. ap (λ b. cond b (neg_ℤ (scale *ℤ over_of os *ℤ sign (own o)) *ℤ o.numbers (get_or chosen k 0)) (multiple_by (scale *ℤ size (own o)) os chosen k p.column)) (ne_eqb o.column p.column (λ e. h.0 (ap o.numbers e ∙ both.0.there)))) both.1

-- the products of an owner's numbers and a line's, summed over all that are owned
owned-sums : (a : ℕ → ℤ) (os : List Owner) → AreOwners os → AllByRecursion (λ (o : Owner). sum_over (columns_of os) (λ c. a c *ℤ o.numbers c) ≡ a o.column *ℤ own o) os
owned-sums a [] h = tt
owned-sums a (o ∷ os) h = (
  alone (a o.column *ℤ own o) (sum_over (columns_of os) (λ c. a c *ℤ o.numbers c)) (over-zero (columns_of os) (λ c. a c *ℤ o.numbers c) (each-map (AreApart o) (λ c. a c *ℤ o.numbers c ≡ pos 0) (λ (p : Owner). p.column) (λ p k. ap (λ z. a p.column *ℤ z) k.there ∙ times_zero (a p.column)) os h.1)),
  each-more (λ p. AreApart o p × (sum_over (columns_of os) (λ c. a c *ℤ p.numbers c) ≡ a p.column *ℤ own p)) (λ p. a o.column *ℤ p.numbers o.column +ℤ sum_over (columns_of os) (λ c. a c *ℤ p.numbers c) ≡ a p.column *ℤ own p)
      (λ p both. behind (a o.column *ℤ p.numbers o.column) (sum_over (columns_of os) (λ c. a c *ℤ p.numbers c)) (a p.column *ℤ own p) (ap (λ z. a o.column *ℤ z) both.0.here ∙ times_zero (a o.column)) both.1) os
      (each-both (AreApart o) (λ p. sum_over (columns_of os) (λ c. a c *ℤ p.numbers c) ≡ a p.column *ℤ own p) os h.1 (owned-sums a os h.2)),
)
  where
    alone : (x y : ℤ) → y ≡ pos 0 → x +ℤ y ≡ x
    alone x y e = omega (arith, ints)

    behind : (x y z : ℤ) → x ≡ pos 0 → y ≡ z → x +ℤ y ≡ z
    behind x y z e f = omega (arith, ints)

module _ (f : Frame) (chosen : List ℕ) (line : ℕ) where
  -- what a line has at a column
  abbrev at_line : ℕ → ℤ
  at_line c = number_in f line c

  -- a line is 0 on an owner, by its own column and those that are chosen
  abbrev IsBalanced : Owner → Type 0
  IsBalanced o = at_line o.column *ℤ own o +ℤ sum_over chosen (λ c. at_line c *ℤ o.numbers c) ≡ pos 0

  balanced : (os : List Owner) → AreOwners os → AllByRecursion (λ (o : Owner). IsSolution f o.numbers) os → AreParted (width f) (columns_of os) chosen → line < line_count f → AllByRecursion IsBalanced os
  balanced os h solved parted l =
      each-more (λ o. IsSolution f o.numbers × (sum_over (columns_of os) (λ c. at_line c *ℤ o.numbers c) ≡ at_line o.column *ℤ own o)) IsBalanced
      (λ o both. step (at_line o.column *ℤ own o) (sum_over (columns_of os) (λ c. at_line c *ℤ o.numbers c)) (sum_over chosen (λ c. at_line c *ℤ o.numbers c)) (sum_below (width f) (λ c. at_line c *ℤ o.numbers c)) both.1 (parted.sums (λ c. at_line c *ℤ o.numbers c)) (both.0 line l)) os
      (each-both (λ (o : Owner). IsSolution f o.numbers) (λ o. sum_over (columns_of os) (λ c. at_line c *ℤ o.numbers c) ≡ at_line o.column *ℤ own o) os solved (owned-sums at_line os h))
    where
      step : (x y z w : ℤ) → y ≡ x → y +ℤ z ≡ w → w ≡ pos 0 → x +ℤ z ≡ pos 0
      step x y z w e f g = omega (arith, ints)

  -- what a column has that is not owned is what it has as one of the chosen
  abbrev IsFound : List Owner → ℕ → Type 0
  IsFound os col = (scale : ℤ) → sum_over (columns_of os) (λ c. only col scale c *ℤ at_line c) ≡ pos 0 → sum_over chosen (λ c. only col scale c *ℤ at_line c) ≡ scale *ℤ at_line col

  writes-by : (scale : ℤ) (os : List Owner) (col : ℕ) → AllByRecursion IsBalanced os → IsFound os col → scale *ℤ over_of os *ℤ at_line col ≡ sum_below (length chosen) (λ k. multiple_by scale os chosen k col *ℤ at_line (get_or chosen k 0))
  writes-by scale [] col h found = ap (λ z. z *ℤ at_line col) (*ℤ-one scale) ∙ sym (found scale refl) ∙ over-places chosen (λ c. only col scale c *ℤ at_line c)
  writes-by scale (o ∷ os) col h found = ⊎_elim (λ e. here e) (λ n. later n (λ g. writes-by (scale *ℤ size (own o)) os col h.1 g)) (cases_eq o.column col)
    where
      by : ℤ
      by = scale *ℤ over_of os *ℤ sign (own o)

      whole : ℤ
      whole = scale *ℤ (size (own o) *ℤ over_of os)

      total : whole ≡ by *ℤ own o
      total = ap (λ z. scale *ℤ (z *ℤ over_of os)) (sym (sign-size (own o))) ∙ group scale (over_of os) (sign (own o)) (own o)
        where
          group : (a c s w : ℤ) → a *ℤ (s *ℤ w *ℤ c) ≡ a *ℤ c *ℤ s *ℤ w
          group a c s w = simp ring (omega (arith, ints))

      turn : (q w a s : ℤ) → a *ℤ w +ℤ s ≡ pos 0 → q *ℤ w *ℤ a ≡ neg_ℤ q *ℤ s
      turn q w a s e = left q w a ∙ ap (λ z. q *ℤ z) (opposite (a *ℤ w) s e) ∙ right q s
        where
          left : (q w a : ℤ) → q *ℤ w *ℤ a ≡ q *ℤ (a *ℤ w)
          left q w a = simp ring (omega (arith, ints))

          opposite : (x s : ℤ) → x +ℤ s ≡ pos 0 → x ≡ neg_ℤ s
          opposite x s e = omega (arith, ints)

          right : (q s : ℤ) → q *ℤ neg_ℤ s ≡ neg_ℤ q *ℤ s
          right q s = simp ring (omega (arith, ints))

      here : o.column ≡ col → whole *ℤ at_line col ≡ sum_below (length chosen) (λ k. multiple_by scale (o ∷ os) chosen k col *ℤ at_line (get_or chosen k 0))
      here e =
          ap (λ c. whole *ℤ at_line c) (sym e) ∙ ap (λ z. z *ℤ at_line o.column) total
          ∙ turn by (own o) (at_line o.column) (sum_over chosen (λ c. at_line c *ℤ o.numbers c)) h.0
          ∙ ap (λ z. neg_ℤ by *ℤ z) (over-places chosen (λ c. at_line c *ℤ o.numbers c))
          ∙ factored (length chosen) (neg_ℤ by) (λ k. at_line (get_or chosen k 0) *ℤ o.numbers (get_or chosen k 0))
          ∙ sum_below-same (length chosen) (λ k. neg_ℤ by *ℤ (at_line (get_or chosen k 0) *ℤ o.numbers (get_or chosen k 0))) (λ k. multiple_by scale (o ∷ os) chosen k col *ℤ at_line (get_or chosen k 0))
          (λ k l. swap (neg_ℤ by) (at_line (get_or chosen k 0)) (o.numbers (get_or chosen k 0)) ∙ ap (λ b. cond b (neg_ℤ by *ℤ o.numbers (get_or chosen k 0)) (multiple_by (scale *ℤ size (own o)) os chosen k col) *ℤ at_line (get_or chosen k 0)) (sym (eq-eqb o.column col e)))
        where
          swap : (q a x : ℤ) → q *ℤ (a *ℤ x) ≡ q *ℤ x *ℤ a
          swap q a x = simp ring (omega (arith, ints))

      later : o.column ≢ col → (IsFound os col → scale *ℤ size (own o) *ℤ over_of os *ℤ at_line col ≡ sum_below (length chosen) (λ k. multiple_by (scale *ℤ size (own o)) os chosen k col *ℤ at_line (get_or chosen k 0)))
          → whole *ℤ at_line col ≡ sum_below (length chosen) (λ k. multiple_by scale (o ∷ os) chosen k col *ℤ at_line (get_or chosen k 0))
      later n again =
          ap (λ z. z *ℤ at_line col) (sym (*ℤ_assoc scale (size (own o)) (over_of os)))
          ∙ again (λ s e. found s (step (only col s o.column *ℤ at_line o.column) (sum_over (columns_of os) (λ c. only col s c *ℤ at_line c)) (ap (λ z. z *ℤ at_line o.column) (only-else col o.column s n) ∙ zero-*ℤ (at_line o.column)) e))
          ∙ sum_below-same (length chosen) (λ k. multiple_by (scale *ℤ size (own o)) os chosen k col *ℤ at_line (get_or chosen k 0)) (λ k. multiple_by scale (o ∷ os) chosen k col *ℤ at_line (get_or chosen k 0))
          (λ k l. ap (λ b. cond b (neg_ℤ by *ℤ o.numbers (get_or chosen k 0)) (multiple_by (scale *ℤ size (own o)) os chosen k col) *ℤ at_line (get_or chosen k 0)) (sym (ne_eqb o.column col n)))
        where
          step : (a b : ℤ) → a ≡ pos 0 → b ≡ pos 0 → a +ℤ b ≡ pos 0
          step a b e f = omega (arith, ints)

-- the multiples that the owners give
abbrev pub multiple_of : List Owner → List ℕ → ℕ → ℕ → ℤ
multiple_of os chosen = multiple_by (pos 1) os chosen

pub tableau-of : (f : Frame) (os : List Owner) (chosen : List ℕ) → IsBasis f os chosen → IsTableau f chosen (over_of os) (multiple_of os chosen)
tableau-of f os chosen b = record {
  each = b.each;
  within = b.within;
  positive = over-positive os b.owners;
  writes = λ line col h k. writes line col h k;
}
  where
    writes : (line col : ℕ) → line < line_count f → col < width f → over_of os *ℤ number_in f line col ≡ sum_below (line_count f) (λ k. multiple_of os chosen k col *ℤ number_in f line (get_or chosen k 0))
    writes line col h k =
        ap (λ z. z *ℤ number_in f line col) (sym (one-*ℤ (over_of os)))
        ∙ writes-by f chosen line (pos 1) os col (balanced f chosen line os b.owners b.solved b.parted h) found
        ∙ ap (λ n. sum_below n (λ k. multiple_of os chosen k col *ℤ number_in f line (get_or chosen k 0))) b.each
      where
        found : IsFound f chosen line os col
        found scale e =
            step (sum_over (columns_of os) g) (sum_over chosen g) (sum_below (width f) g) e (b.parted.sums g)
            ∙ single (width f) g col k (λ j l n. ap (λ z. z *ℤ number_in f line j) (only-else col j scale n) ∙ zero-*ℤ (number_in f line j))
            ∙ ap (λ z. z *ℤ number_in f line col) (only-there col scale)
          where
            g : ℕ → ℤ
            g c = only col scale c *ℤ number_in f line c

            step : (x y z : ℤ) → x ≡ pos 0 → x +ℤ y ≡ z → y ≡ z
            step x y z e f = omega (arith, ints)

pub owners-read : (f : Frame) (os : List Owner) (chosen : List ℕ) → IsBasis f os chosen → AllByRecursion (IsRead (over_of os) chosen (multiple_of os chosen)) os
owners-read f os chosen b =
    each-more (IsRead (pos 1 *ℤ over_of os) chosen (multiple_of os chosen)) (IsRead (over_of os) chosen (multiple_of os chosen)) (λ o r. IsRead-same (pos 1 *ℤ over_of os) (over_of os) chosen (multiple_of os chosen) (multiple_of os chosen) o (one-*ℤ (over_of os)) (λ k. refl) r) os
    (multiples-read (pos 1) os chosen b.owners)
