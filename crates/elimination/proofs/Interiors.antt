-- Points in the midst of rows: where each row with monomials is not 0 at some point of the rows, no
-- equation is implied.
use Rattle.std.proofs.Common.{◌≡◌, ◌⊎◌, ◌≤◌, Bool, true, false, cond, List, [], ◌∷◌, refl, sym, ap, subst, ◌∙◌, arith, ⊎_elim, inl, inr, ℤ, pos, negsuc, ◌+ℤ◌, ◌*ℤ◌, ◌≤ℤ◌, ◌<ℤ◌}
use Rattle.std.specs.Prelude.{unsigned_abs}
use Rattle.std.specs.List.{AllByRecursion}
use Rattle.std.specs.Ordering.{eq_by_cmp, is_eq}
use Rattle.std.specs.declared.cmp.Ordering.TheVariants.{Less}
use Rattle.std.proofs.lemmas.Int.{ints}
use Rattle.std.proofs.Math.IntN.{zero-*ℤ}
use Rattle.whole_numbers.proofs.Ring.{ring, *ℤ-positive, *ℤ_assoc, ≤ℤ-*ℤ}
use Rattle.linear_terms.specs.declared.col.Col.{Col}
use Rattle.linear_terms.specs.declared.row.Kind.{Kind}
use Rattle.linear_terms.specs.declared.row.Kind.TheVariants.{AtMost, Equal}
use Rattle.linear_terms.specs.declared.row.Row.{Row}
use Rattle.linear_terms.specs.Mono.{mono_cmp}
use Rattle.linear_terms.specs.Polynomial.{Terms, Polynomial, IsCanonical, coefficient_in}
use Rattle.linear_terms.specs.Row.{IsWithin}
use Rattle.linear_terms.proofs.Canonical.{Before, first_before, IsCanonical-tail}
use Rattle.farkas_check.specs.Rational.{RationalPoint, terms_at, sum_at, IsTrueAt, Meets}
use Rattle.farkas_check.specs.Sizes.{HasNoEquation, HasRationalPoint, HasNumbersUpTo}
use Rattle.farkas_check.proofs.Spreads.{same_mono, itself}
use Rattle.farkas_check.proofs.Walks.{reversed}
use Rattle.elimination.specs.Rooms.{IsClear, HasClear}
use Rattle.elimination.proofs.Narrowness.{coefficient-small}

-- ---- between two points

-- the point half way between two points
abbrev pub between : RationalPoint → RationalPoint → RationalPoint
between x y = record {
  numerator = λ m. x.numerator m *ℤ y.over +ℤ y.numerator m *ℤ x.over;
  over = x.over *ℤ y.over +ℤ x.over *ℤ y.over;
  positive = twice (x.over *ℤ y.over) (*ℤ-positive x.over y.over x.positive y.positive);
}
  where
    twice : (z : ℤ) → pos 0 <ℤ z → pos 0 <ℤ (z +ℤ z)
    twice z h = omega (arith, ints, h)

terms_between : (x y : List Col → ℤ) (a b : ℤ) (ts : Terms) → terms_at (λ m. x m *ℤ b +ℤ y m *ℤ a) ts ≡ terms_at x ts *ℤ b +ℤ terms_at y ts *ℤ a
terms_between x y a b [] = nothing a b
  where
    nothing : (a b : ℤ) → pos 0 ≡ pos 0 *ℤ b +ℤ pos 0 *ℤ a
    nothing a b = rw (zero-*ℤ a, zero-*ℤ b) refl
terms_between x y a b (t ∷ ts) = ap (λ z. t.1 *ℤ (x t.0 *ℤ b +ℤ y t.0 *ℤ a) +ℤ z) (terms_between x y a b ts) ∙ level t.1 (x t.0) (y t.0) (terms_at x ts) (terms_at y ts)
  where
    level : (c p q u v : ℤ) → c *ℤ (p *ℤ b +ℤ q *ℤ a) +ℤ (u *ℤ b +ℤ v *ℤ a) ≡ (c *ℤ p +ℤ u) *ℤ b +ℤ (c *ℤ q +ℤ v) *ℤ a
    level c p q u v = simp ring (omega (arith, ints))

sum_between : (x y : RationalPoint) (p : Polynomial) → sum_at (between x y) p ≡ sum_at x p *ℤ y.over +ℤ sum_at y p *ℤ x.over
sum_between x y p = ap (λ z. z +ℤ p.rest *ℤ (x.over *ℤ y.over +ℤ x.over *ℤ y.over)) (terms_between x.numerator y.numerator x.over y.over p.terms) ∙ level (terms_at x.numerator p.terms) (terms_at y.numerator p.terms) p.rest x.over y.over
  where
    level : (u v r a b : ℤ) → u *ℤ b +ℤ v *ℤ a +ℤ r *ℤ (a *ℤ b +ℤ a *ℤ b) ≡ (u +ℤ r *ℤ a) *ℤ b +ℤ (v +ℤ r *ℤ b) *ℤ a
    level u v r a b = simp ring (omega (arith, ints))

-- ---- signs

not_above : (a b : ℤ) → a ≤ℤ pos 0 → pos 0 <ℤ b → (a *ℤ b) ≤ℤ pos 0
not_above a b h k = let g : (a *ℤ b) ≤ℤ (pos 0 *ℤ b) = ≤ℤ-*ℤ a (pos 0) b (weak b k) h in subst (λ z. (a *ℤ b) ≤ℤ z) (zero-*ℤ b) g
  where
    weak : (b : ℤ) → pos 0 <ℤ b → pos 0 ≤ℤ b
    weak b k = omega (arith, ints, k)

below_zero : (a b : ℤ) → a <ℤ pos 0 → pos 0 <ℤ b → (a *ℤ b) <ℤ pos 0
below_zero a b h k =
    let g : pos 0 <ℤ ((negsuc 0 *ℤ a) *ℤ b) = *ℤ-positive (negsuc 0 *ℤ a) b (turned a h) k in
    let e : (negsuc 0 *ℤ a) *ℤ b ≡ negsuc 0 *ℤ (a *ℤ b) = *ℤ_assoc (negsuc 0) a b in
    back (a *ℤ b) (subst (λ z. pos 0 <ℤ z) e g)
  where
    turned : (a : ℤ) → a <ℤ pos 0 → pos 0 <ℤ (negsuc 0 *ℤ a)
    turned a h = omega (arith, ints, h)

    back : (z : ℤ) → pos 0 <ℤ (negsuc 0 *ℤ z) → z <ℤ pos 0
    back z h = omega (arith, ints, h)

within_between : (kind : Kind) (u v a b : ℤ) → IsWithin kind u → IsWithin kind v → pos 0 <ℤ a → pos 0 <ℤ b → IsWithin kind (u *ℤ b +ℤ v *ℤ a)
within_between AtMost u v a b h k p q =
    let x : (u *ℤ b) ≤ℤ pos 0 = not_above u b h q in
    let y : (v *ℤ a) ≤ℤ pos 0 = not_above v a k p in
    both (u *ℤ b) (v *ℤ a) x y
  where
    both : (s t : ℤ) → s ≤ℤ pos 0 → t ≤ℤ pos 0 → (s +ℤ t) ≤ℤ pos 0
    both s t h k = omega (arith, ints, h, k)
within_between Equal u v a b h k p q = ap (λ z. z *ℤ b +ℤ v *ℤ a) h ∙ ap (λ z. pos 0 *ℤ b +ℤ z *ℤ a) k ∙ rw (zero-*ℤ a, zero-*ℤ b) refl

pub met_between : (x y : RationalPoint) (rows : List Row) → Meets x rows → Meets y rows → Meets (between x y) rows
met_between x y [] h k = tt
met_between x y (row ∷ rows) h k = (subst (IsWithin row.kind) (sym (sum_between x y row.poly)) (within_between row.kind (sum_at x row.poly) (sum_at y row.poly) x.over y.over h.0 k.0 x.positive y.positive), met_between x y rows h.1 k.1)

strict_between : (s t : ℤ) → s <ℤ pos 0 → t ≤ℤ pos 0 → (s +ℤ t) <ℤ pos 0
strict_between s t h k = omega (arith, ints, h, k)

-- ---- a point in the midst

pub record HasMidst (rows some : List Row) : Type 0 where
  pub point : RationalPoint
  pub met : Meets point rows
  pub clear : AllByRecursion (IsClear point) some

at_most_of : (row : Row) (x : RationalPoint) → (row.poly.terms ≡ []) ⊎ (row.kind ≡ AtMost) → IsTrueAt x row → (row.poly.terms ≡ []) ⊎ (sum_at x row.poly ≤ℤ pos 0)
at_most_of row x kind h = ⊎_elim (λ none. inl none) (λ e. inr (subst (λ k. IsWithin k (sum_at x row.poly)) e h)) kind

clear_left : (x y : RationalPoint) (row : Row) → (row.poly.terms ≡ []) ⊎ (row.kind ≡ AtMost) → IsClear x row → IsTrueAt y row → IsClear (between x y) row
clear_left x y row kind c h =
    ⊎_elim (λ none. inl none) (λ below. ⊎_elim (λ none. inl none) (λ (at : sum_at y row.poly ≤ℤ pos 0). inr (subst (λ z. z <ℤ pos 0) (sym (sum_between x y row.poly))
    (strict_between (sum_at x row.poly *ℤ y.over) (sum_at y row.poly *ℤ x.over) (below_zero (sum_at x row.poly) y.over below y.positive) (not_above (sum_at y row.poly) x.over at x.positive)))) (at_most_of row y kind h)) c

clear_right : (x y : RationalPoint) (row : Row) → (row.poly.terms ≡ []) ⊎ (row.kind ≡ AtMost) → IsTrueAt x row → IsClear y row → IsClear (between x y) row
clear_right x y row kind h c =
    ⊎_elim (λ none. inl none) (λ below. ⊎_elim (λ none. inl none) (λ (at : sum_at x row.poly ≤ℤ pos 0). inr (subst (λ z. z <ℤ pos 0) (sym (sum_between x y row.poly ∙ turned (sum_at x row.poly *ℤ y.over) (sum_at y row.poly *ℤ x.over)))
    (strict_between (sum_at y row.poly *ℤ x.over) (sum_at x row.poly *ℤ y.over) (below_zero (sum_at y row.poly) x.over below x.positive) (not_above (sum_at x row.poly) y.over at y.positive)))) (at_most_of row x kind h)) c
  where
    turned : (s t : ℤ) → s +ℤ t ≡ t +ℤ s
    turned s t = omega (arith, ints)

-- rows of which each is clear at some point are clear together at one
midst_of : (rows some : List Row) → AllByRecursion (HasClear rows) some → ((x : RationalPoint) → Meets x rows → Meets x some) → HasRationalPoint rows → HasMidst rows some
midst_of rows [] h sub p = record { point = p.point; met = p.met; clear = tt }
midst_of rows (row ∷ some) h sub p = joined (midst_of rows some h.1 (λ y r. (sub y r).1) p)
  where
    joined : HasMidst rows some → HasMidst rows (row ∷ some)
    joined m = record {
      point = between h.0.point m.point;
      met = met_between h.0.point m.point rows h.0.met m.met;
      clear = (clear_left h.0.point m.point row h.0.kind h.0.clear (sub m.point m.met).0, each some h.1 m.clear (sub h.0.point h.0.met).1);
    }
      where
        each : (some : List Row) → AllByRecursion (HasClear rows) some → AllByRecursion (IsClear m.point) some → Meets h.0.point some → AllByRecursion (IsClear (between h.0.point m.point)) some
        each [] k c r = tt
        each (other ∷ some) k c r = (clear_right h.0.point m.point other k.0.kind r.0 c.0, each some k.1 c.1 r.1)

pub midst : (rows : List Row) → AllByRecursion (HasClear rows) rows → HasRationalPoint rows → HasMidst rows rows
midst rows h p = midst_of rows rows h (λ y r. r) p

-- ---- a step along one monomial

coefficient-before : (m : List Col) (ts : Terms) → Before m ts → coefficient_in ts m ≡ pos 0
coefficient-before m [] b = refl
coefficient-before m (t ∷ ts) b = rw (ap is_eq (reversed m t.0 Less b.0)) (coefficient-before m ts b.1)

abbrev shifted_numerator : List Col → (List Col → ℤ) → List Col → ℤ
shifted_numerator m x n = pos 4 *ℤ x n +ℤ cond (eq_by_cmp mono_cmp n m) (pos 1) (pos 0)

-- the point with a quarter more, over its denominator, at one monomial
abbrev shifted : List Col → RationalPoint → RationalPoint
shifted m x = record { numerator = shifted_numerator m x.numerator; over = pos 4 *ℤ x.over; positive = *ℤ-positive (pos 4) x.over (omega (arith, ints)) x.positive }

terms_shifted : (m : List Col) (x : List Col → ℤ) (ts : Terms) → IsCanonical ts → terms_at (shifted_numerator m x) ts ≡ pos 4 *ℤ terms_at x ts +ℤ coefficient_in ts m
terms_shifted m x [] k = refl
terms_shifted m x (t ∷ ts) k = ap (λ z. t.1 *ℤ shifted_numerator m x t.0 +ℤ z) (terms_shifted m x ts (IsCanonical-tail t ts k)) ∙ go (eq_by_cmp mono_cmp t.0 m) refl
  where
    go : (b : Bool) → eq_by_cmp mono_cmp t.0 m ≡ b → t.1 *ℤ (pos 4 *ℤ x t.0 +ℤ cond b (pos 1) (pos 0)) +ℤ (pos 4 *ℤ terms_at x ts +ℤ coefficient_in ts m) ≡ pos 4 *ℤ (t.1 *ℤ x t.0 +ℤ terms_at x ts) +ℤ cond b t.1 (coefficient_in ts m)
    go true e =
        ap (λ z. t.1 *ℤ (pos 4 *ℤ x t.0 +ℤ pos 1) +ℤ (pos 4 *ℤ terms_at x ts +ℤ z)) (coefficient-before m ts (subst (λ n. Before n ts) (same_mono t.0 m e) (first_before t ts k)))
        ∙ with_one t.1 (x t.0) (terms_at x ts)
      where
        with_one : (c u v : ℤ) → c *ℤ (pos 4 *ℤ u +ℤ pos 1) +ℤ (pos 4 *ℤ v +ℤ pos 0) ≡ pos 4 *ℤ (c *ℤ u +ℤ v) +ℤ c
        with_one c u v = simp ring (omega (arith, ints))
    go false e = with_none t.1 (x t.0) (terms_at x ts) (coefficient_in ts m)
      where
        with_none : (c u v d : ℤ) → c *ℤ (pos 4 *ℤ u +ℤ pos 0) +ℤ (pos 4 *ℤ v +ℤ d) ≡ pos 4 *ℤ (c *ℤ u +ℤ v) +ℤ d
        with_none c u v d = ap (λ z. c *ℤ z +ℤ (pos 4 *ℤ v +ℤ d)) (right (pos 4 *ℤ u)) ∙ level c u v d
          where
            right : (z : ℤ) → z +ℤ pos 0 ≡ z
            right z = omega (arith, ints)

            level : (c u v d : ℤ) → c *ℤ (pos 4 *ℤ u) +ℤ (pos 4 *ℤ v +ℤ d) ≡ pos 4 *ℤ (c *ℤ u +ℤ v) +ℤ d
            level c u v d = simp ring (omega (arith, ints))

sum_shifted : (m : List Col) (x : RationalPoint) (p : Polynomial) → IsCanonical p.terms → sum_at (shifted m x) p ≡ pos 4 *ℤ sum_at x p +ℤ coefficient_in p.terms m
sum_shifted m x p k = ap (λ z. z +ℤ p.rest *ℤ (pos 4 *ℤ x.over)) (terms_shifted m x.numerator p.terms k) ∙ level (terms_at x.numerator p.terms) (coefficient_in p.terms m) p.rest x.over
  where
    level : (u c r o : ℤ) → pos 4 *ℤ u +ℤ c +ℤ r *ℤ (pos 4 *ℤ o) ≡ pos 4 *ℤ (u +ℤ r *ℤ o) +ℤ c
    level u c r o = simp ring (omega (arith, ints))

true_shifted : (m : List Col) (x : RationalPoint) (row : Row) → IsCanonical row.poly.terms → HasNumbersUpTo 4 row.poly → (row.poly.terms ≡ []) ⊎ (row.kind ≡ AtMost) → IsTrueAt x row → IsClear x row → IsTrueAt (shifted m x) row
true_shifted m x row k small kind h clear =
    subst (IsWithin row.kind) (sym (sum_shifted m x row.poly k)) (⊎_elim (λ none. constant none) (λ below. ⊎_elim (λ none. constant none) (λ at. inequality at below) kind) clear)
  where
    constant : row.poly.terms ≡ [] → IsWithin row.kind (pos 4 *ℤ sum_at x row.poly +ℤ coefficient_in row.poly.terms m)
    constant none = subst (λ (z : ℤ). IsWithin row.kind (pos 4 *ℤ sum_at x row.poly +ℤ z)) (sym (ap (λ ts. coefficient_in ts m) none)) (times row.kind (sum_at x row.poly) h)
      where
        times : (kind : Kind) (z : ℤ) → IsWithin kind z → IsWithin kind (pos 4 *ℤ z +ℤ pos 0)
        times AtMost z h = omega (arith, ints, h)
        times Equal z h = omega (arith, ints, h)

    inequality : row.kind ≡ AtMost → sum_at x row.poly <ℤ pos 0 → IsWithin row.kind (pos 4 *ℤ sum_at x row.poly +ℤ coefficient_in row.poly.terms m)
    inequality at below = subst (λ kind. IsWithin kind (pos 4 *ℤ sum_at x row.poly +ℤ coefficient_in row.poly.terms m)) (sym at) (room (sum_at x row.poly) (coefficient_in row.poly.terms m) below (coefficient-small 4 row.poly.terms m small.terms))
      where
        room : (s c : ℤ) → s <ℤ pos 0 → unsigned_abs c ≤ 4 → (pos 4 *ℤ s +ℤ c) ≤ℤ pos 0
        room s c h g = omega (arith, ints, h, g)

-- rows with small numbers, each of which is clear at some point, imply no equation
pub free_rows : (rows : List Row) → AllByRecursion (λ (row : Row). IsCanonical row.poly.terms) rows → AllByRecursion (λ (row : Row). HasNumbersUpTo 4 row.poly) rows → HasRationalPoint rows → AllByRecursion (HasClear rows) rows → HasNoEquation rows
free_rows rows canonical small some clear p k vanishes = go p.terms refl (midst rows clear some)
  where
    each : (m : List Col) (x : RationalPoint) (own : List Row) → AllByRecursion (λ (row : Row). IsCanonical row.poly.terms) own → AllByRecursion (λ (row : Row). HasNumbersUpTo 4 row.poly) own → AllByRecursion (HasClear rows) own → Meets x own → AllByRecursion (IsClear x) own → Meets (shifted m x) own
    each m x [] a b c d e = tt
    each m x (row ∷ own) a b c d e = (true_shifted m x row a.0 b.0 c.0.kind d.0 e.0, each m x own a.1 b.1 c.1 d.1 e.1)

    go : (ts : Terms) → p.terms ≡ ts → HasMidst rows rows → p.terms ≡ []
    go [] e m = e
    go (t ∷ ts) e m = absurd (nonzero (subst IsCanonical e k) (zero_number (sum_at m.point p) (coefficient_in p.terms t.0) (vanishes m.point m.met) (sym (sum_shifted t.0 m.point p k) ∙ vanishes (shifted t.0 m.point) (each t.0 m.point rows canonical small clear m.met m.clear))))
      where
        zero_number : (s c : ℤ) → s ≡ pos 0 → pos 4 *ℤ s +ℤ c ≡ pos 0 → c ≡ pos 0
        zero_number s c h g = omega (arith, ints, h, g)

        first : coefficient_in (t ∷ ts) t.0 ≡ t.1
        first = ap (λ b. cond b t.1 (coefficient_in ts t.0)) (itself t.0)

        nonzero : IsCanonical (t ∷ ts) → coefficient_in p.terms t.0 ≡ pos 0 → ⊥
        nonzero c z = c.no_zero.0 (sym first ∙ ap (λ us. coefficient_in us t.0) (sym e) ∙ z)
