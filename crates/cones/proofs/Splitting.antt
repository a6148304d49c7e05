-- Flat vectors and the rest.
use Rattle.std.proofs.Common.{◌≡◌, ◌≢◌, ℕ, zero, suc, Bool, true, false, cond, ⊎_elim, inl, inr, length, refl, sym, ap, subst, ◌∙◌, arith, List, [], ◌∷◌, ◌++◌, map, ℤ, pos, ◌+ℤ◌, ◌-ℤ◌, ◌*ℤ◌}
use Rattle.std.specs.List.{AllByRecursion}
use Rattle.std.proofs.lemmas.Int.{ints}
use Rattle.std.proofs.Math.IntN.{*ℤ_comm, zero-*ℤ}
use Rattle.std.specs.Prelude.{neg_ℤ}
use Rattle.whole_numbers.proofs.Ring.{one-*ℤ, *ℤ-one, neg_ℤ-*ℤ}
use Rattle.whole_numbers.specs.Dot.{dot}
use Rattle.std.specs.Ordering.{int_eq}
use Rattle.cones.specs.Cones.{Cleared, Kept, Given, projection, clearing, clearing_with}
use Rattle.cones.proofs.Clears.{IsMoved, projection-is, IsGivenUp, IsClearing, clearing-is, each_vanishes}
use Rattle.cones.specs.Spans.{Values, IsSpanned, IsIndependent}
use Rattle.cones.specs.Split.{zeros, units, remainder, clearing_by_all, ArePrivate, IsAmong}
use Rattle.cones.specs.Laws.{IsSplit, HasPivots}
use Rattle.cones.proofs.Numbers.{times_zero, vanishes, vanishes_above, not_zero-*ℤ, above_not_zero}
use Rattle.cones.proofs.Spanning.{same_spanned, sum_spanned, lifted_spanned, vanishes_on}
use Rattle.cones.proofs.Several.{IsAllCleared, all_cleared}

-- ---- what vectors with private lines span

minus_none : (x y : ℤ) → y ≡ pos 0 → x -ℤ y ≡ x
minus_none x y e = omega (arith, ints)

difference_zero : (x y : ℤ) → x ≡ pos 0 → y ≡ pos 0 → x -ℤ y ≡ pos 0
difference_zero x y e f = omega (arith, ints)

each_zero : (qs : List (List ℤ)) (f : Values) (m c : ℤ) (v : List ℤ) → AllByRecursion (λ q. f q ≡ pos 0) qs → AllByRecursion (λ q. dot q v ≡ pos 0) qs
    → AllByRecursion (λ q. m *ℤ f q -ℤ c *ℤ dot q v ≡ pos 0) qs
each_zero [] f m c v h k = tt
each_zero (q ∷ qs) f m c v h k =
    (difference_zero (m *ℤ f q) (c *ℤ dot q v) (ap (λ x. m *ℤ x) h.0 ∙ times_zero m) (ap (λ x. c *ℤ x) k.0 ∙ times_zero c), each_zero qs f m c v h.1 k.1)

-- what is 0 on all private lines is 0
none_left : (qs vs : List (List ℤ)) → ArePrivate qs vs → (f : Values) → IsSpanned vs f → AllByRecursion (λ q. f q ≡ pos 0) qs → (line : List ℤ) → f line ≡ pos 0
none_left [] [] p f s h line = s line
none_left [] (v ∷ vs) p f s h line = absurd p
none_left (q ∷ qs) [] p f s h line = absurd p
none_left (q ∷ qs) (v ∷ vs) p f s h line =
    vanishes s.0 (f line) s.2
    (sym (minus_none (s.0 *ℤ f line) (s.1 *ℤ dot line v) (ap (λ c. c *ℤ dot line v) no_share ∙ zero-*ℤ (dot line v)))
    ∙ none_left qs vs p.3 (λ l. s.0 *ℤ f l -ℤ s.1 *ℤ dot l v) s.3 (each_zero qs f s.0 s.1 v h.1 p.2) line)
  where
    other : (x y : ℤ) → x -ℤ y ≡ pos 0 → x ≡ pos 0 → y ≡ pos 0
    other x y e f = omega (arith, ints)

    no_share : s.1 ≡ pos 0
    no_share =
        vanishes (dot q v) s.1 p.0
        (*ℤ_comm (dot q v) s.1
        ∙ other (s.0 *ℤ f q) (s.1 *ℤ dot q v) (vanishes_on vs (λ l. s.0 *ℤ f l -ℤ s.1 *ℤ dot l v) q p.1 s.3) (ap (λ x. s.0 *ℤ x) h.0 ∙ times_zero s.0))

-- values that are taken off at each private line are 0 there, and are spanned by what is left
split : (qs vs us basis done : List (List ℤ)) → ArePrivate qs vs → AllByRecursion (λ v. IsSpanned us (λ l. dot l v)) vs → AllByRecursion (λ q. AllByRecursion (λ v. dot q v ≡ pos 0) vs) done
    → ((g : Values) → IsSpanned us g → AllByRecursion (λ q. g q ≡ pos 0) done → AllByRecursion (λ q. g q ≡ pos 0) qs → IsSpanned basis g)
    → (f : Values) → IsSpanned us f → AllByRecursion (λ q. f q ≡ pos 0) done → IsSpanned (vs ++ basis) f
split [] [] us basis done p e d k f s h = k f s h tt
split [] (v ∷ vs) us basis done p e d k f s h = absurd p
split (q ∷ qs) [] us basis done p e d k f s h = absurd p
split (q ∷ qs) (v ∷ vs) us basis done p e d k f s h = (
  dot q v,
  f q,
  p.0,
  split qs vs us basis (q ∷ done) p.3 e.1 (p.1, later done d) (λ g t m n. k g t m.1 (m.0, n)) (λ l. dot q v *ℤ f l -ℤ f q *ℤ dot l v)
      (same_spanned us (λ l. dot q v *ℤ f l +ℤ neg_ℤ (f q) *ℤ dot l v) (λ l. dot q v *ℤ f l -ℤ f q *ℤ dot l v) (λ l. ap (λ x. dot q v *ℤ f l +ℤ x) (neg_ℤ-*ℤ (f q) (dot l v)))
      (sum_spanned us f (λ l. dot l v) (dot q v) (neg_ℤ (f q)) s e.0))
      (crossed (dot q v) (f q), each_zero done f (dot q v) (f q) v h (first_of done d)),
)
  where
    crossed : (x y : ℤ) → x *ℤ y -ℤ y *ℤ x ≡ pos 0
    crossed x y = rw (*ℤ_comm x y) (none (y *ℤ x))
      where
        none : (z : ℤ) → z -ℤ z ≡ pos 0
        none z = omega (arith, ints)

    later : (ls : List (List ℤ)) → AllByRecursion (λ l. AllByRecursion (λ u. dot l u ≡ pos 0) (v ∷ vs)) ls → AllByRecursion (λ l. AllByRecursion (λ u. dot l u ≡ pos 0) vs) ls
    later [] h = tt
    later (l ∷ ls) h = (h.0.1, later ls h.1)

    first_of : (ls : List (List ℤ)) → AllByRecursion (λ l. AllByRecursion (λ u. dot l u ≡ pos 0) (v ∷ vs)) ls → AllByRecursion (λ l. dot l v ≡ pos 0) ls
    first_of [] h = tt
    first_of (l ∷ ls) h = (h.0.0, first_of ls h.1)

-- ---- units

tail : List ℤ → List ℤ
tail [] = []
tail (x ∷ xs) = xs

dot_behind : (l v : List ℤ) → dot l (pos 0 ∷ v) ≡ dot (tail l) v
unfolding tail
dot_behind [] v = refl
dot_behind (x ∷ xs) v = plain (x *ℤ pos 0) (dot xs v) (times_zero x)
  where
    plain : (x y : ℤ) → x ≡ pos 0 → x +ℤ y ≡ y
    plain x y e = omega (arith, ints)

dot_zeros : (n : ℕ) (l : List ℤ) → dot l (zeros n) ≡ pos 0
dot_zeros zero [] = refl
dot_zeros zero (x ∷ xs) = refl
dot_zeros (suc n) [] = refl
dot_zeros (suc n) (x ∷ xs) = none (x *ℤ pos 0) (dot xs (zeros n)) (times_zero x) (dot_zeros n xs)
  where
    none : (x y : ℤ) → x ≡ pos 0 → y ≡ pos 0 → x +ℤ y ≡ pos 0
    none x y e f = omega (arith, ints)

shifted : (vs : List (List ℤ)) (f : Values) → IsSpanned vs f → IsSpanned (map (λ v. pos 0 ∷ v) vs) (λ l. f (tail l))
shifted [] f s = λ l. s (tail l)
shifted (v ∷ vs) f s = (
  s.0,
  s.1,
  s.2,
  same_spanned (map (λ u. pos 0 ∷ u) vs) (λ l. s.0 *ℤ f (tail l) -ℤ s.1 *ℤ dot (tail l) v) (λ l. s.0 *ℤ f (tail l) -ℤ s.1 *ℤ dot l (pos 0 ∷ v))
      (λ l. ap (λ x. s.0 *ℤ f (tail l) -ℤ s.1 *ℤ x) (sym (dot_behind l v))) (shifted vs (λ l. s.0 *ℤ f l -ℤ s.1 *ℤ dot l v) s.3),
)

units_span : (n : ℕ) (v : List ℤ) → length v ≡ n → IsSpanned (units n) (λ l. dot l v)
unfolding tail
units_span zero [] e = λ l. dot_zeros 0 l
units_span zero (x ∷ xs) e = absurd (omega (arith, e))
units_span (suc n) [] e = absurd (omega (arith, e))
units_span (suc n) (x ∷ xs) e = (
  pos 1,
  x,
  above_not_zero (pos 1) (omega (arith, ints)),
  same_spanned (map (λ v. pos 0 ∷ v) (units n)) (λ l. dot (tail l) xs) (λ l. pos 1 *ℤ dot l (x ∷ xs) -ℤ x *ℤ dot l (pos 1 ∷ zeros n)) value
      (shifted (units n) (λ l. dot l xs) (units_span n xs (omega (arith, e)))),
)
  where
    value : (l : List ℤ) → dot (tail l) xs ≡ pos 1 *ℤ dot l (x ∷ xs) -ℤ x *ℤ dot l (pos 1 ∷ zeros n)
    value [] = sym (difference_zero (pos 1 *ℤ pos 0) (x *ℤ pos 0) (times_zero (pos 1)) (times_zero x))
    value (y ∷ ys) = rw (one-*ℤ (y *ℤ x +ℤ dot ys xs), *ℤ-one y, dot_zeros n ys) (step (y *ℤ x) (dot ys xs) (x *ℤ (y +ℤ pos 0)) (ap (λ u. x *ℤ u) (alone y) ∙ *ℤ_comm x y))
      where
        alone : (y : ℤ) → y +ℤ pos 0 ≡ y
        alone y = omega (arith, ints)

        step : (p s q : ℤ) → q ≡ p → s ≡ p +ℤ s -ℤ q
        step p s q e = omega (arith, ints)

pub zeros_dot : (n : ℕ) (v : List ℤ) → dot (zeros n) v ≡ pos 0
zeros_dot zero v = refl
zeros_dot (suc n) [] = refl
zeros_dot (suc n) (y ∷ ys) = none (pos 0 *ℤ y) (dot (zeros n) ys) (zero-*ℤ y) (zeros_dot n ys)
  where
    none : (x y : ℤ) → x ≡ pos 0 → y ≡ pos 0 → x +ℤ y ≡ pos 0
    none x y e f = omega (arith, ints)

dot_both : (q v : List ℤ) → dot (pos 0 ∷ q) (pos 0 ∷ v) ≡ dot q v
unfolding tail
dot_both q v = dot_behind (pos 0 ∷ q) v

each_behind : (n : ℕ) (vs : List (List ℤ)) → AllByRecursion (λ u. dot (pos 1 ∷ zeros n) u ≡ pos 0) (map (λ v. pos 0 ∷ v) vs)
unfolding tail
each_behind n [] = tt
each_behind n (v ∷ vs) = (dot_behind (pos 1 ∷ zeros n) v ∙ zeros_dot n v, each_behind n vs)

each_before : (n : ℕ) (qs : List (List ℤ)) → AllByRecursion (λ q. dot q (pos 1 ∷ zeros n) ≡ pos 0) (map (λ v. pos 0 ∷ v) qs)
each_before n [] = tt
each_before n (q ∷ qs) = (none (pos 0 *ℤ pos 1) (dot q (zeros n)) (zero-*ℤ (pos 1)) (dot_zeros n q), each_before n qs)
  where
    none : (x y : ℤ) → x ≡ pos 0 → y ≡ pos 0 → x +ℤ y ≡ pos 0
    none x y e f = omega (arith, ints)

vectors_behind : (q : List ℤ) (vs : List (List ℤ)) → AllByRecursion (λ u. dot q u ≡ pos 0) vs → AllByRecursion (λ u. dot (pos 0 ∷ q) u ≡ pos 0) (map (λ v. pos 0 ∷ v) vs)
vectors_behind q [] h = tt
vectors_behind q (v ∷ vs) h = (dot_both q v ∙ h.0, vectors_behind q vs h.1)

lines_behind : (v : List ℤ) (qs : List (List ℤ)) → AllByRecursion (λ q. dot q v ≡ pos 0) qs → AllByRecursion (λ q. dot q (pos 0 ∷ v) ≡ pos 0) (map (λ v. pos 0 ∷ v) qs)
lines_behind v [] h = tt
lines_behind v (q ∷ qs) h = (dot_both q v ∙ h.0, lines_behind v qs h.1)

private_behind : (qs vs : List (List ℤ)) → ArePrivate qs vs → ArePrivate (map (λ v. pos 0 ∷ v) qs) (map (λ v. pos 0 ∷ v) vs)
private_behind [] [] p = p
private_behind [] (v ∷ vs) p = absurd p
private_behind (q ∷ qs) [] p = absurd p
private_behind (q ∷ qs) (v ∷ vs) p = ((λ e. p.0 (sym (dot_both q v) ∙ e)), vectors_behind q vs p.1, lines_behind v qs p.2, private_behind qs vs p.3)

units_private : (n : ℕ) → ArePrivate (units n) (units n)
units_private zero = tt
units_private (suc n) =
    ((λ e. one (dot (zeros n) (zeros n)) (zeros_dot n (zeros n)) e), each_behind n (units n), each_before n (units n), private_behind (units n) (units n) (units_private n))
  where
    one : (z : ℤ) → z ≡ pos 0 → pos 1 *ℤ pos 1 +ℤ z ≡ pos 0 → ⊥
    one z e f = omega (arith, ints)

private_independent : (qs vs : List (List ℤ)) → ArePrivate qs vs → IsIndependent vs
private_independent [] [] p = tt
private_independent [] (v ∷ vs) p = absurd p
private_independent (q ∷ qs) [] p = absurd p
private_independent (q ∷ qs) (v ∷ vs) p = (record { line = q; seen = p.0; others = p.1 }, private_independent qs vs p.3)

pub units-independent : (count : ℕ) → IsIndependent (units count)
units-independent count = private_independent (units count) (units count) (units_private count)

-- ---- what is cleared keeps private lines

record HasRest (qs : List (List ℤ)) (pivot : List ℤ) (rest : List (List ℤ)) : Type 0 where
  left : List (List ℤ)
  private : ArePrivate left rest
  away : AllByRecursion (λ q. dot q pivot ≡ pos 0) left
  among : AllByRecursion (IsAmong qs) left

abbrev RestIsPrivate : List (List ℤ) → Cleared → Type 0
RestIsPrivate qs Kept = Unit {0}
RestIsPrivate qs (Given pivot rest) = HasRest qs pivot rest

one_more : (p : List ℤ) (ps qs : List (List ℤ)) → AllByRecursion (IsAmong ps) qs → AllByRecursion (IsAmong (p ∷ ps)) qs
one_more p ps [] h = tt
one_more p ps (q ∷ qs) h = (inr h.0, one_more p ps qs h.1)

all_among : (qs : List (List ℤ)) → AllByRecursion (IsAmong qs) qs
all_among [] = tt
all_among (q ∷ qs) = (inl refl, one_more q qs qs (all_among qs))

pub at_among : (P : List ℤ → Type 0) (ps : List (List ℤ)) (q : List ℤ) → AllByRecursion P ps → IsAmong ps q → P q
at_among P [] q h k = absurd k
at_among P (p ∷ ps) q h k = ⊎_elim (λ (e : q ≡ p). subst P (sym e) h.0) (λ m. at_among P ps q h.1 m) k

each_among : (P : List ℤ → Type 0) (ps qs : List (List ℤ)) → AllByRecursion P ps → AllByRecursion (IsAmong ps) qs → AllByRecursion P qs
each_among P ps [] h k = tt
each_among P ps (q ∷ qs) h k = (at_among P ps q h k.0, each_among P ps qs h k.1)

each_moved : (line pivot v made : List ℤ) (qs : List (List ℤ)) → IsMoved line pivot v made → AllByRecursion (λ q. dot q v ≡ pos 0) qs → AllByRecursion (λ q. dot q pivot ≡ pos 0) qs
    → AllByRecursion (λ q. dot q made ≡ pos 0) qs
each_moved line pivot v made [] m h k = tt
each_moved line pivot v made (q ∷ qs) m h k = (
  vanishes_above m.factor (dot q made) m.positive (m.is q ∙ none (m.own *ℤ dot q v) (m.by *ℤ dot q pivot) (ap (λ x. m.own *ℤ x) h.0 ∙ times_zero m.own) (ap (λ x. m.by *ℤ x) k.0 ∙ times_zero m.by)),
  each_moved line pivot v made qs m h.1 k.1,
)
  where
    none : (x y : ℤ) → x ≡ pos 0 → y ≡ pos 0 → x +ℤ y ≡ pos 0
    none x y e f = omega (arith, ints)

still_private : (line q v : List ℤ) (qs vs : List (List ℤ)) (pivot : List ℤ) (rest : List (List ℤ)) (made : List ℤ) → ArePrivate (q ∷ qs) (v ∷ vs) → IsGivenUp line vs pivot rest
    → IsMoved line pivot v made → HasRest qs pivot rest → HasRest (q ∷ qs) pivot (made ∷ rest)
still_private line q v qs vs pivot rest made p g m h = record {
  left = q ∷ h.left;
  private = (seen, each_vanishes q vs rest p.1 g.inside, each_moved line pivot v made h.left m (each_among (λ x. dot x v ≡ pos 0) qs h.left p.2 h.among) h.away, h.private);
  away = (at_pivot, h.away);
  among = (inl refl, one_more q qs h.left h.among);
}
  where
    at_pivot : dot q pivot ≡ pos 0
    at_pivot = vanishes_on vs (λ l. dot l pivot) q p.1 g.own

    alone : (x y : ℤ) → y ≡ pos 0 → x +ℤ y ≡ x
    alone x y e = omega (arith, ints)

    seen : dot q made ≢ pos 0
    seen e =
        not_zero-*ℤ m.own (dot q v) m.some p.0
        (sym (alone (m.own *ℤ dot q v) (m.by *ℤ dot q pivot) (ap (λ x. m.by *ℤ x) at_pivot ∙ times_zero m.by)) ∙ sym (m.is q) ∙ ap (λ x. m.factor *ℤ x) e ∙ times_zero m.factor)

rest_private : (line : List ℤ) (qs vs : List (List ℤ)) → ArePrivate qs vs → RestIsPrivate qs (clearing line vs)
rest_private line qs [] p = tt
rest_private line [] (v ∷ vs) p = absurd p
rest_private line (q ∷ qs) (v ∷ vs) p = go (clearing line vs) (clearing-is line vs) (rest_private line qs vs p.3)
  where
    test : (b : Bool) → RestIsPrivate (q ∷ qs) (cond b Kept (Given v vs))
    test true = tt
    test false = record { left = qs; private = p.3; away = p.2; among = one_more q qs qs (all_among qs) }

    go : (c : Cleared) → IsClearing line vs c → RestIsPrivate qs c → RestIsPrivate (q ∷ qs) (clearing_with line v vs c)
    go Kept g h = test (int_eq (dot line v) (pos 0))
    go (Given pivot rest) g h = still_private line q v qs vs pivot rest (projection line pivot v) p g (projection-is line pivot v g.some) h

left_private : (qs vs : List (List ℤ)) (c : Cleared) → ArePrivate qs vs → RestIsPrivate qs c → HasPivots qs (remainder vs c)
left_private qs vs Kept p h = record { pivots = qs; private = p; some = all_among qs }
left_private qs vs (Given pivot rest) p h = record { pivots = h.left; private = h.private; some = h.among }

all_private : (lines qs vs : List (List ℤ)) → ArePrivate qs vs → HasPivots qs (clearing_by_all lines vs)
all_private [] qs vs p = record { pivots = qs; private = p; some = all_among qs }
all_private (line ∷ lines) qs vs p =
    both (left_private qs vs (clearing line vs) p (rest_private line qs vs p)) (λ ps r. all_private lines ps (remainder vs (clearing line vs)) r)
  where
    both : HasPivots qs (remainder vs (clearing line vs)) → ((ps : List (List ℤ)) → ArePrivate ps (remainder vs (clearing line vs)) → HasPivots ps (clearing_by_all lines (remainder vs (clearing line vs))))
        → HasPivots qs (clearing_by_all lines (remainder vs (clearing line vs)))
    both h again = record { pivots = more.pivots; private = more.private; some = each_among (IsAmong qs) h.pivots more.pivots h.some more.some }
      where
        more : HasPivots h.pivots (clearing_by_all lines (remainder vs (clearing line vs)))
        more = again h.pivots h.private

pub units-pivots : (lines : List (List ℤ)) (count : ℕ) → HasPivots (units count) (clearing_by_all lines (units count))
units-pivots lines count = all_private lines (units count) (units count) (units_private count)

-- ---- the split

each_vanishing : (f : Values) (qs basis : List (List ℤ)) → AllByRecursion (λ q. AllByRecursion (λ v. dot q v ≡ pos 0) basis) qs → IsSpanned basis f → AllByRecursion (λ q. f q ≡ pos 0) qs
each_vanishing f [] basis h s = tt
each_vanishing f (q ∷ qs) basis h s = (vanishes_on basis f q h.0 s, each_vanishing f qs basis h.1 s)

pub units-split : (lines pivots : List (List ℤ)) (count : ℕ) → ArePrivate pivots (clearing_by_all lines (units count))
    → IsSplit lines count (clearing_by_all lines (units count)) (clearing_by_all pivots (units count))
units-split lines pivots count p = record {
  flat_there = flat.zero_there;
  independent = rest.independent;
  pointed = λ f s h.
      none_left pivots (clearing_by_all lines (units count)) p f (flat.all f (lifted_spanned (clearing_by_all pivots (units count)) (units count) f rest.inside s) h)
      (each_vanishing f pivots (clearing_by_all pivots (units count)) rest.zero_there s);
  spans = λ v e.
      split pivots (clearing_by_all lines (units count)) (units count) (clearing_by_all pivots (units count)) [] p flat.inside tt (λ g t m n. rest.all g t n) (λ l. dot l v) (units_span count v e) tt;
}
  where
    flat : IsAllCleared lines (units count) (clearing_by_all lines (units count))
    flat = all_cleared lines (units count) (units-independent count)

    rest : IsAllCleared pivots (units count) (clearing_by_all pivots (units count))
    rest = all_cleared pivots (units count) (units-independent count)
