-- What clearing leaves of the units is in reduced echelon form: each vector begins with a positive
-- number at its pivot, the pivots stand further and further on, and each has 0 above and below it.
use Rattle.std.proofs.Common.{◌≡◌, ◌≢◌, ℕ, zero, suc, ◌<◌, Bool, true, false, cond, ⊎_elim, inl, inr, refl, sym, ap, subst, ◌∙◌, arith, List, [], ◌∷◌, map, ℤ, pos, ◌+ℤ◌, ◌*ℤ◌, ◌<ℤ◌}
use Rattle.std.specs.Prelude.{◌⊎◌, ◌&&◌, ◌||◌, ◌==◌, IsTrue, Option, None, Some, int_lt, neg_ℤ, unsigned_abs}
use Rattle.std.specs.List.{AllByRecursion, list_all}
use Rattle.std.specs.Ordering.{int_eq}
use Rattle.std.proofs.lemmas.Bool.{and_from, eq-eqb, lt-ltb, false≢true}
use Rattle.std.proofs.lemmas.Bool.Decides.{Decides-int_eq}
use Rattle.std.proofs.lemmas.Int.{ints}
use Rattle.items.proofs.Each.{each-both, each-map, each-more, test_from_each}
use Rattle.whole_numbers.specs.Divisors.{gcd_of_all}
use Rattle.whole_numbers.specs.Dot.{dot}
use Rattle.whole_numbers.proofs.Ring.{*ℤ-positive}
use Rattle.farkas_check.specs.Multiples.{is_zero}
use Rattle.farkas_check.specs.Relations.{entry, pivot, is_primitive, is_beyond, rises_after, is_alone, is_reduced}
use Rattle.cones.specs.Vectors.{combination}
use Rattle.cones.specs.declared.projecting.Cleared.{Cleared}
use Rattle.cones.specs.declared.projecting.Cleared.TheVariants.{Kept, Given}
use Rattle.cones.specs.Cones.{along_sign, projection, clearing, clearing_with}
use Rattle.cones.specs.Split.{zeros, units, remainder, clearing_by_all}
use Rattle.cones.proofs.Clears.{IsClearing, clearing-is}
use Rattle.cones.proofs.Dots.{IsLowestOf, lowest-is, dot-combined}
use Rattle.cones.proofs.Numbers.{times_zero, vanishes_above, factor_positive, above_not_zero}
use Rattle.cones.proofs.Primitive.{IsPrimitive, cleared_units-primitive}
use Rattle.facet_hull.proofs.Generators.{near, near-is}

-- ---- pivots

-- the numbers before the pivot are 0
pub before_pivot : (v : List ℤ) (k : ℕ) → k < pivot v → entry v k ≡ pos 0
before_pivot [] k h = absurd (omega arith)
before_pivot (z ∷ zs) k h = go (int_eq z (pos 0)) refl k h (λ j l. before_pivot zs j l)
  where
    go : (b : Bool) → int_eq z (pos 0) ≡ b → (k : ℕ) → k < cond b (suc (pivot zs)) 0 → ((j : ℕ) → j < pivot zs → entry zs j ≡ pos 0) → entry (z ∷ zs) k ≡ pos 0
    go true e zero h again = (Decides-int_eq z (pos 0)).0 e
    go true e (suc k) h again = again k (omega arith)
    go false e k h again = absurd (omega arith)

-- the first number that is not 0 is at the pivot
pivot_at : (v : List ℤ) (k : ℕ) → ((j : ℕ) → j < k → entry v j ≡ pos 0) → entry v k ≢ pos 0 → pivot v ≡ k
pivot_at [] k h n = absurd (n refl)
pivot_at (z ∷ zs) zero h n = go (int_eq z (pos 0)) refl
  where
    go : (b : Bool) → int_eq z (pos 0) ≡ b → cond b (suc (pivot zs)) 0 ≡ 0
    go true e = absurd (n ((Decides-int_eq z (pos 0)).0 e))
    go false e = refl
pivot_at (z ∷ zs) (suc k) h n = go (int_eq z (pos 0)) refl (pivot_at zs k (λ j l. h (suc j) (omega (arith, l))) n)
  where
    go : (b : Bool) → int_eq z (pos 0) ≡ b → pivot zs ≡ k → cond b (suc (pivot zs)) 0 ≡ suc k
    go true e f = ap (λ (m : ℕ). suc m) f
    go false e f = absurd (false≢true (sym e ∙ (Decides-int_eq z (pos 0)).1 (h 0 (omega arith))))

-- ---- a vector that is moved

-- up to a positive factor a positive multiple of the vector and a multiple of the pivot
record IsShifted (g v made : List ℤ) : Type 0 where
  factor : ℤ
  positive : pos 0 <ℤ factor
  own : ℤ
  above : pos 0 <ℤ own
  by : ℤ
  is : (k : ℕ) → factor *ℤ entry made k ≡ own *ℤ entry v k +ℤ by *ℤ entry g k

projection-shifted : (line g v : List ℤ) → dot line g ≢ pos 0 → IsShifted g v (projection line g v)
projection-shifted line g v n = whole (lowest-is (combination own v by g))
  where
    own : ℤ
    own = pos (unsigned_abs (dot line g))

    by : ℤ
    by = along_sign (dot line g) (neg_ℤ (dot line v))

    size_above : (z : ℤ) → z ≢ pos 0 → pos 0 <ℤ pos (unsigned_abs z)
    size_above z n = omega (arith, ints, n)

    whole : IsLowestOf (combination own v by g) (projection line g v) → IsShifted g v (projection line g v)
    whole low = record {
      factor = low.factor;
      positive = low.positive;
      own = own;
      above = size_above (dot line g) n;
      by = by;
      is = λ k.
          ap (λ x. low.factor *ℤ x) (sym (near-is k (projection line g v))) ∙ low.is (near k) ∙ dot-combined (near k) own v by g
          ∙ rw (near-is k v, near-is k g) refl;
    }

shifted-zero : (g v made : List ℤ) (k : ℕ) → IsShifted g v made → entry v k ≡ pos 0 → entry g k ≡ pos 0 → entry made k ≡ pos 0
shifted-zero g v made k s e f =
    vanishes_above s.factor (entry made k) s.positive (s.is k ∙ none (s.own *ℤ entry v k) (s.by *ℤ entry g k) (ap (λ x. s.own *ℤ x) e ∙ times_zero s.own) (ap (λ x. s.by *ℤ x) f ∙ times_zero s.by))
  where
    none : (x y : ℤ) → x ≡ pos 0 → y ≡ pos 0 → x +ℤ y ≡ pos 0
    none x y e f = omega (arith, ints)

shifted-above : (g v made : List ℤ) (k : ℕ) → IsShifted g v made → pos 0 <ℤ entry v k → entry g k ≡ pos 0 → pos 0 <ℤ entry made k
shifted-above g v made k s p f =
    factor_positive s.factor (entry made k) s.positive
    (subst (λ x. pos 0 <ℤ x) (sym (s.is k ∙ alone (s.own *ℤ entry v k) (s.by *ℤ entry g k) (ap (λ x. s.by *ℤ x) f ∙ times_zero s.by))) (*ℤ-positive s.own (entry v k) s.above p))
  where
    alone : (x y : ℤ) → y ≡ pos 0 → x +ℤ y ≡ x
    alone x y e = omega (arith, ints)

-- what is given up begins behind the vector, so this keeps its pivot
shifted-pivot : (g v made : List ℤ) → IsShifted g v made → pos 0 <ℤ entry v (pivot v) → pivot v < pivot g → pivot made ≡ pivot v
shifted-pivot g v made s p h =
    pivot_at made (pivot v) (λ j l. shifted-zero g v made j s (before_pivot v j l) (before_pivot g j (omega (arith, l, h))))
    (above_not_zero (entry made (pivot v)) (shifted-above g v made (pivot v) s p (before_pivot g (pivot v) h)))

-- ---- echelon form

-- the pivot of a vector behind stands further on, and the vector is 0 there
abbrev pub IsAhead : List ℤ → List ℤ → Type 0
IsAhead v u = (pivot v < pivot u) × (entry v (pivot u) ≡ pos 0)

abbrev pub AreEchelon : List (List ℤ) → Type 0
AreEchelon [] = Unit {0}
AreEchelon (v ∷ vs) = (pos 0 <ℤ entry v (pivot v)) × AllByRecursion (IsAhead v) vs × AreEchelon vs

zeros-entry : (n k : ℕ) → entry (zeros n) k ≡ pos 0
zeros-entry zero k = refl
zeros-entry (suc n) zero = refl
zeros-entry (suc n) (suc k) = zeros-entry n k

first_unit : (n : ℕ) (vs : List (List ℤ)) → AllByRecursion (IsAhead (pos 1 ∷ zeros n)) (map (λ v. pos 0 ∷ v) vs)
first_unit n [] = tt
first_unit n (v ∷ vs) = ((not_first (pivot v), zeros-entry n (pivot v)), first_unit n vs)
  where
    not_first : (k : ℕ) → 0 < suc k
    not_first k = omega arith

ahead_behind : (v : List ℤ) (vs : List (List ℤ)) → AllByRecursion (IsAhead v) vs → AllByRecursion (IsAhead (pos 0 ∷ v)) (map (λ v. pos 0 ∷ v) vs)
ahead_behind v vs h = each-map (IsAhead v) (IsAhead (pos 0 ∷ v)) (λ v. pos 0 ∷ v) (λ u k. (further (pivot v) (pivot u) k.0, k.1)) vs h
  where
    further : (j k : ℕ) → j < k → suc j < suc k
    further j k h = omega (arith, h)

echelon_behind : (vs : List (List ℤ)) → AreEchelon vs → AreEchelon (map (λ v. pos 0 ∷ v) vs)
echelon_behind [] h = tt
echelon_behind (v ∷ vs) h = (h.0, ahead_behind v vs h.1, echelon_behind vs h.2)

units-echelon : (n : ℕ) → AreEchelon (units n)
units-echelon zero = tt
units-echelon (suc n) = (one_above, first_unit n (units n), echelon_behind (units n) (units-echelon n))
  where
    one_above : pos 0 <ℤ pos 1
    one_above = omega (arith, ints)

-- ---- clearing

-- of what is given up and of what is left each pivot passes
abbrev PivotsPass : (ℕ → Type 0) → Cleared → Type 0
PivotsPass Q Kept = Unit {0}
PivotsPass Q (Given g rest) = Q (pivot g) × AllByRecursion (λ u. Q (pivot u)) rest

-- pivots are kept
clearing-pivots : (Q : ℕ → Type 0) (line : List ℤ) (vs : List (List ℤ)) → AreEchelon vs → AllByRecursion (λ u. Q (pivot u)) vs → PivotsPass Q (clearing line vs)
clearing-pivots Q line [] h q = tt
clearing-pivots Q line (v ∷ vs) h q =
    go (clearing line vs) (clearing-is line vs) (clearing-pivots Q line vs h.2 q.1)
    (clearing-pivots (λ k. pivot v < k) line vs h.2 (each-more (IsAhead v) (λ u. pivot v < pivot u) (λ u k. k.0) vs h.1))
  where
    test : (b : Bool) → PivotsPass Q (cond b Kept (Given v vs))
    test true = tt
    test false = (q.0, q.1)

    go : (c : Cleared) → IsClearing line vs c → PivotsPass Q c → PivotsPass (λ k. pivot v < k) c → PivotsPass Q (clearing_with line v vs c)
    go Kept i p l = test (int_eq (dot line v) (pos 0))
    go (Given g rest) i p l = (p.0, (subst Q (sym (shifted-pivot g v (projection line g v) (projection-shifted line g v i.some) h.0 l.0)) q.0, p.1))

-- what is given up is 0 at the pivots of the rest
abbrev LeavesEchelon : Cleared → Type 0
LeavesEchelon Kept = Unit {0}
LeavesEchelon (Given g rest) = AreEchelon rest × AllByRecursion (λ u. entry g (pivot u) ≡ pos 0) rest

clearing-echelon : (line : List ℤ) (vs : List (List ℤ)) → AreEchelon vs → LeavesEchelon (clearing line vs)
clearing-echelon line [] h = tt
clearing-echelon line (v ∷ vs) h =
    go (clearing line vs) (clearing-is line vs) (clearing-echelon line vs h.2) (clearing-pivots (λ k. (pivot v < k) × (entry v k ≡ pos 0)) line vs h.2 h.1)
  where
    test : (b : Bool) → LeavesEchelon (cond b Kept (Given v vs))
    test true = tt
    test false = (h.2, each-more (IsAhead v) (λ u. entry v (pivot u) ≡ pos 0) (λ u k. k.1) vs h.1)

    moved : (g : List ℤ) (rest : List (List ℤ)) (made : List ℤ) → IsShifted g v made → LeavesEchelon (Given g rest) → PivotsPass (λ k. (pivot v < k) × (entry v k ≡ pos 0)) (Given g rest)
        → LeavesEchelon (Given g (made ∷ rest))
    moved g rest made s e p = (
      (
        subst (λ k. pos 0 <ℤ entry made k) (sym same) (shifted-above g v made (pivot v) s h.0 at_own),
        each-more (λ u. ((pivot v < pivot u) × (entry v (pivot u) ≡ pos 0)) × (entry g (pivot u) ≡ pos 0)) (IsAhead made) (λ u k. (subst (λ n. n < pivot u) (sym same) k.0.0, shifted-zero g v made (pivot u) s k.0.1 k.1)) rest
            (each-both (λ u. (pivot v < pivot u) × (entry v (pivot u) ≡ pos 0)) (λ u. entry g (pivot u) ≡ pos 0) rest p.1 e.1),
        e.0,
      ),
      (ap (λ k. entry g k) same ∙ at_own, e.1),
    )
      where
        same : pivot made ≡ pivot v
        same = shifted-pivot g v made s h.0 p.0.0

        at_own : entry g (pivot v) ≡ pos 0
        at_own = before_pivot g (pivot v) p.0.0

    go : (c : Cleared) → IsClearing line vs c → LeavesEchelon c → PivotsPass (λ k. (pivot v < k) × (entry v k ≡ pos 0)) c → LeavesEchelon (clearing_with line v vs c)
    go Kept i e p = test (int_eq (dot line v) (pos 0))
    go (Given g rest) i e p = moved g rest (projection line g v) (projection-shifted line g v i.some) e p

remainder-echelon : (basis : List (List ℤ)) (c : Cleared) → AreEchelon basis → LeavesEchelon c → AreEchelon (remainder basis c)
remainder-echelon basis Kept h k = h
remainder-echelon basis (Given g rest) h k = k.0

all_cleared-echelon : (lines basis : List (List ℤ)) → AreEchelon basis → AreEchelon (clearing_by_all lines basis)
all_cleared-echelon [] basis h = h
all_cleared-echelon (line ∷ lines) basis h =
    all_cleared-echelon lines (remainder basis (clearing line basis)) (remainder-echelon basis (clearing line basis) h (clearing-echelon line basis h))

pub cleared_units-echelon : (lines : List (List ℤ)) (count : ℕ) → AreEchelon (clearing_by_all lines (units count))
cleared_units-echelon lines count = all_cleared-echelon lines (units count) (units-echelon count)

-- ---- the tests

positive-test : (z : ℤ) → pos 0 <ℤ z → int_lt (pos 0) z ≡ true
positive-test z p = go (int_lt (pos 0) z) refl
  where
    go : (b : Bool) → int_lt (pos 0) z ≡ b → int_lt (pos 0) z ≡ true
    go true e = e
    go false e = absurd (omega (arith, ints, e, p))

each-primitive : (vs : List (List ℤ)) → AreEchelon vs → AllByRecursion IsPrimitive vs → list_all is_primitive vs ≡ true
each-primitive [] h p = refl
each-primitive (v ∷ vs) h p =
    and_from (is_primitive v) (list_all is_primitive vs)
    (and_from (int_lt (pos 0) (entry v (pivot v))) (gcd_of_all v == 1) (positive-test (entry v (pivot v)) h.0)
    (eq-eqb (gcd_of_all v) 1 (p.0 (near (pivot v)) (λ e. above_not_zero (entry v (pivot v)) h.0 (sym (near-is (pivot v) v) ∙ e)))))
    (each-primitive vs h.2 p.1)

rises : (last : Option ℕ) (vs : List (List ℤ)) → AreEchelon vs → AllByRecursion (λ u. is_beyond last (pivot u) ≡ true) vs → rises_after last (map pivot vs) ≡ true
rises last [] h p = refl
rises last (v ∷ vs) h p =
    and_from (is_beyond last (pivot v)) (rises_after (Some (pivot v)) (map pivot vs)) p.0
    (rises (Some (pivot v)) vs h.2 (each-more (IsAhead v) (λ u. is_beyond (Some (pivot v)) (pivot u) ≡ true) (λ u k. lt-ltb (pivot v) (pivot u) k.0) vs h.1))

-- a vector is 0 at another one's pivot
abbrev IsApart : List ℤ → List ℤ → Type 0
IsApart v u = (pivot u ≡ pivot v) ⊎ (entry v (pivot u) ≡ pos 0)

all_apart : (vs : List (List ℤ)) → AreEchelon vs → AllByRecursion (λ v. AllByRecursion (IsApart v) vs) vs
all_apart [] h = tt
all_apart (v ∷ vs) h = (
  (inl refl, each-more (IsAhead v) (IsApart v) (λ u k. inr k.1) vs h.1),
  each-more (λ u. IsAhead v u × AllByRecursion (IsApart u) vs) (λ u. AllByRecursion (IsApart u) (v ∷ vs)) (λ u k. (inr (before_pivot u (pivot v) k.0.0), k.1)) vs
      (each-both (IsAhead v) (λ u. AllByRecursion (IsApart u) vs) vs h.1 (all_apart vs h.2)),
)

either_true : (a b : Bool) → (a ≡ true) ⊎ (b ≡ true) → a || b ≡ true
either_true true b h = refl
either_true false b h = ⊎_elim (λ (e : false ≡ true). absurd (false≢true e)) (λ e. e) h

alone-test : (v : List ℤ) (vs : List (List ℤ)) → AllByRecursion (IsApart v) vs → is_alone (map pivot vs) v ≡ true
alone-test v vs h =
    test_from_each (λ p. p == pivot v || is_zero (entry v p)) (λ p. (p ≡ pivot v) ⊎ (entry v p ≡ pos 0))
    (λ p k. either_true (p == pivot v) (is_zero (entry v p)) (⊎_elim (λ (e : p ≡ pivot v). inl (eq-eqb p (pivot v) e)) (λ e. inr ((Decides-int_eq (entry v p) (pos 0)).1 e)) k))
    (map pivot vs) (each-map (IsApart v) (λ p. (p ≡ pivot v) ⊎ (entry v p ≡ pos 0)) pivot (λ u k. k) vs h)

echelon-reduced : (vs : List (List ℤ)) → AreEchelon vs → AllByRecursion IsPrimitive vs → IsTrue (is_reduced vs)
echelon-reduced vs h p =
    and_from (list_all is_primitive vs) (rises_after None (map pivot vs) && list_all (is_alone (map pivot vs)) vs) (each-primitive vs h p)
    (and_from (rises_after None (map pivot vs)) (list_all (is_alone (map pivot vs)) vs)
    (rises None vs h (any vs))
    (test_from_each (is_alone (map pivot vs)) (λ v. AllByRecursion (IsApart v) vs) (λ v k. alone-test v vs k) vs (all_apart vs h)))
  where
    any : (us : List (List ℤ)) → AllByRecursion (λ u. is_beyond None (pivot u) ≡ true) us
    any [] = tt
    any (u ∷ us) = (refl, any us)

-- what is left of the units is in reduced echelon form
pub cleared_units-reduced : (lines : List (List ℤ)) (count : ℕ) → IsTrue (is_reduced (clearing_by_all lines (units count)))
cleared_units-reduced lines count = echelon-reduced (clearing_by_all lines (units count)) (cleared_units-echelon lines count) (cleared_units-primitive lines count)
