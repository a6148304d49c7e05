-- The running least of the lines that may leave.
use Rattle.std.proofs.Common.{◌≡◌, ℕ, ◌+◌, ◌<◌, Bool, true, false, cond, List, [], ◌∷◌, get_or, refl, sym, ap, subst, ◌∙◌, arith, ⊎_elim, inl, inr, Ok, Option, None, Some, ℤ, pos, ◌+ℤ◌, ◌-ℤ◌, ◌*ℤ◌, ◌≤ℤ◌, ◌<ℤ◌}
use Rattle.std.specs.Prelude.{neg_ℤ, nat_eq}
use Rattle.std.specs.List.{AllByRecursion}
use Rattle.std.specs.Ordering.{int_cmp, match_ordering, MatchOrdering}
use Rattle.std.specs.declared.cmp.Ordering.{Ordering}
use Rattle.std.specs.declared.cmp.Ordering.TheVariants.{Less, Equal, Greater}
use Rattle.std.specs.Cmp.{int_ranks}
use Rattle.std.proofs.lemmas.Int.{ints}
use Rattle.std.proofs.lemmas.Bool.{cases_eq, false≢true}
use Rattle.std.proofs.Math.IntN.{*ℤ_comm}
use Rattle.whole_numbers.proofs.Ring.{ring}
use Rattle.whole_numbers.specs.Fits.{product_of}
use Rattle.items.specs.Gives.{◌>>=◌}
use Rattle.items.proofs.Gives.{on_ok}
use Rattle.simplex.specs.declared.tableau.Tableau.{Tableau}
use Rattle.simplex.specs.Frames.{lexical_view, IsLexPositive}
use Rattle.simplex.specs.Exchange.{numbers_of}
use Rattle.farkas_check.specs.Relations.{entry}
use Rattle.simplex.specs.Raise.{order_at, comes_before, behind_of, leaves_at, IsLexNotNegative, NoneLeaves, IsLeast, LeavingOf}
use Rattle.simplex.proofs.Growth.{lex_sum, lex_multiple}
use Rattle.simplex.proofs.Exchanges.{times_zero, vanishes}
use Rattle.simplex.proofs.Numbers.{product_of-value}
use Rattle.simplex.proofs.Runs.{seen-sum, seen-zero}

-- ---- what one key tells

-- the numbers that are compared at a key
record Told (upright_line : Bool) (a p b q : ℤ) (order : Ordering) : Type 0 where
  is : order ≡ cond upright_line (int_cmp (b *ℤ q) (a *ℤ p)) (int_cmp (a *ℤ p) (b *ℤ q))

told : (upright_line : Bool) (a p b q : ℤ) (order : Ordering) → order_at upright_line a p b q ≡ Ok order → Told upright_line a p b q order
told upright_line a p b q order e =
    on_ok (product_of a p) (λ x. product_of b q >>= λ y. Ok (cond upright_line (int_cmp y x) (int_cmp x y))) order e
    (λ x f g. on_ok (product_of b q) (λ y. Ok (cond upright_line (int_cmp y x) (int_cmp x y))) order g
    (λ y h k. record { is = chain x y (product_of-value a p x f) (product_of-value b q y h) (cc) }))
  where
    chain : (x y : ℤ) → x ≡ a *ℤ p → y ≡ b *ℤ q → cond upright_line (int_cmp y x) (int_cmp x y) ≡ order → order ≡ cond upright_line (int_cmp (b *ℤ q) (a *ℤ p)) (int_cmp (a *ℤ p) (b *ℤ q))
    chain x y f g h = sym (rw (f, g) at h)

-- what an ordering of x and y says of their difference, as the order sees it
abbrev Ranked : Bool → ℤ → ℤ → Ordering → Type 0
Ranked upright_line x y o = MatchOrdering o (pos 0 <ℤ cond upright_line (neg_ℤ (y -ℤ x)) (y -ℤ x)) (cond upright_line (neg_ℤ (y -ℤ x)) (y -ℤ x) ≡ pos 0) (pos 0 <ℤ cond upright_line (neg_ℤ (x -ℤ y)) (x -ℤ y))

-- the difference of the two products, as the order sees it
ranked : (upright_line : Bool) (x y : ℤ) → MatchOrdering (cond upright_line (int_cmp y x) (int_cmp x y)) (pos 0 <ℤ cond upright_line (neg_ℤ (y -ℤ x)) (y -ℤ x)) (cond upright_line (neg_ℤ (y -ℤ x)) (y -ℤ x) ≡ pos 0) (pos 0 <ℤ cond upright_line (neg_ℤ (x -ℤ y)) (x -ℤ y))
ranked true x y = change (int_cmp y x) (int_ranks y x)
  where
    change : (o : Ordering) → MatchOrdering o (y <ℤ x) (y ≡ x) (x <ℤ y) → MatchOrdering o (pos 0 <ℤ neg_ℤ (y -ℤ x)) (neg_ℤ (y -ℤ x) ≡ pos 0) (pos 0 <ℤ neg_ℤ (x -ℤ y))
    change Less h = omega (arith, ints)
    change Equal h = omega (arith, ints, h)
    change Greater h = omega (arith, ints)
ranked false x y = change (int_cmp x y) (int_ranks x y)
  where
    change : (o : Ordering) → MatchOrdering o (x <ℤ y) (x ≡ y) (y <ℤ x) → MatchOrdering o (pos 0 <ℤ (y -ℤ x)) (y -ℤ x ≡ pos 0) (pos 0 <ℤ (x -ℤ y))
    change Less h = omega (arith, ints)
    change Equal h = omega (arith, ints, h)
    change Greater h = omega (arith, ints)

ranked_of : (upright_line : Bool) (x y : ℤ) (o : Ordering) → o ≡ cond upright_line (int_cmp y x) (int_cmp x y) → Ranked upright_line x y o
ranked_of upright_line x y o e = subst (Ranked upright_line x y) (sym e) (ranked upright_line x y)

-- ---- what the comparison tells

products : (constants column : ℕ) (line other : List ℤ) (c : ℕ) → lexical_view constants (behind_of column other line) c ≡ cond (nat_eq c constants) (neg_ℤ (entry other c *ℤ entry line column -ℤ entry line c *ℤ entry other column)) (entry other c *ℤ entry line column -ℤ entry line c *ℤ entry other column)
products constants column line other c = ap (λ z. cond (nat_eq c constants) (neg_ℤ z) z) (swap (entry line column) (entry other c) (entry other column) (entry line c))
  where
    swap : (p a q b : ℤ) → p *ℤ a -ℤ q *ℤ b ≡ a *ℤ p -ℤ b *ℤ q
    swap p a q b = rw (*ℤ_comm p a, *ℤ_comm q b) refl

opposite : (constants column : ℕ) (line other : List ℤ) (c : ℕ) → lexical_view constants (behind_of column other line) c ≡ pos 0 → lexical_view constants (behind_of column line other) c ≡ pos 0
opposite constants column line other c e = go (nat_eq c constants) e
  where
    turn : (p a q b : ℤ) → p *ℤ a -ℤ q *ℤ b ≡ pos 0 → q *ℤ b -ℤ p *ℤ a ≡ pos 0
    turn p a q b e = plain (p *ℤ a) (q *ℤ b) e
      where
        plain : (x y : ℤ) → x -ℤ y ≡ pos 0 → y -ℤ x ≡ pos 0
        plain x y e = omega (arith, ints)

    unturned : (x : ℤ) → neg_ℤ x ≡ pos 0 → x ≡ pos 0
    unturned x e = omega (arith, ints)

    go : (t : Bool) → cond t (neg_ℤ (behind_of column other line c)) (behind_of column other line c) ≡ pos 0 → cond t (neg_ℤ (behind_of column line other c)) (behind_of column line other c) ≡ pos 0
    go true e = ap neg_ℤ (turn (entry line column) (entry other c) (entry other column) (entry line c) (unturned (behind_of column other line c) e))
    go false e = turn (entry line column) (entry other c) (entry other column) (entry line c) e

pub comes_before-true : (constants column : ℕ) (line other : List ℤ) (keys : List ℕ) → comes_before constants column line other keys ≡ Ok true → IsLexPositive (lexical_view constants (behind_of column other line)) keys
comes_before-true constants column line other [] e = let same : false ≡ true = cc in absurd (false≢true same)
comes_before-true constants column line other (c ∷ cs) e =
    on_ok (order_at (nat_eq c constants) (entry line c) (entry other column) (entry other c) (entry line column)) (λ order. match_ordering order (Ok true) (comes_before constants column line other cs) (Ok false)) true e
    (λ order f g. go order g (ranked_of (nat_eq c constants) (entry line c *ℤ entry other column) (entry other c *ℤ entry line column) order (told (nat_eq c constants) (entry line c) (entry other column) (entry other c) (entry line column) order f).is) (comes_before-true constants column line other cs))
  where
    go : (o : Ordering) → match_ordering o (Ok true) (comes_before constants column line other cs) (Ok false) ≡ Ok true
        → Ranked (nat_eq c constants) (entry line c *ℤ entry other column) (entry other c *ℤ entry line column) o
        → (comes_before constants column line other cs ≡ Ok true → IsLexPositive (lexical_view constants (behind_of column other line)) cs) → IsLexPositive (lexical_view constants (behind_of column other line)) (c ∷ cs)
    go Less g r rest = inl (subst (λ (z : ℤ). pos 0 <ℤ z) (sym (products constants column line other c)) r)
    go Equal g r rest = inr (products constants column line other c ∙ r, rest g)
    go Greater g r rest = let same : false ≡ true = cc in absurd (false≢true same)

pub comes_before-false : (constants column : ℕ) (line other : List ℤ) (keys : List ℕ) → comes_before constants column line other keys ≡ Ok false → IsLexNotNegative (lexical_view constants (behind_of column line other)) keys
comes_before-false constants column line other [] e = inr tt
comes_before-false constants column line other (c ∷ cs) e =
    on_ok (order_at (nat_eq c constants) (entry line c) (entry other column) (entry other c) (entry line column)) (λ order. match_ordering order (Ok true) (comes_before constants column line other cs) (Ok false)) false e
    (λ order f g. go order g (ranked_of (nat_eq c constants) (entry line c *ℤ entry other column) (entry other c *ℤ entry line column) order (told (nat_eq c constants) (entry line c) (entry other column) (entry other c) (entry line column) order f).is) (comes_before-false constants column line other cs))
  where
    go : (o : Ordering) → match_ordering o (Ok true) (comes_before constants column line other cs) (Ok false) ≡ Ok false
        → Ranked (nat_eq c constants) (entry line c *ℤ entry other column) (entry other c *ℤ entry line column) o
        → (comes_before constants column line other cs ≡ Ok false → IsLexNotNegative (lexical_view constants (behind_of column line other)) cs) → IsLexNotNegative (lexical_view constants (behind_of column line other)) (c ∷ cs)
    go Less g r rest = let same : true ≡ false = cc in absurd (false≢true (sym same))
    go Equal g r rest =
        let zero : lexical_view constants (behind_of column line other) c ≡ pos 0 = opposite constants column line other c (products constants column line other c ∙ r) in
        ⊎_elim (λ h. inl (inr (zero, h))) (λ h. inr (zero, h)) (rest g)
    go Greater g r rest = inl (inl (subst (λ (z : ℤ). pos 0 <ℤ z) (sym (products constants column other line c)) r))

-- ---- the running least

-- a positive combination of two that are not negative is not negative
lex_sum_weak : (keys : List ℕ) (u v w : ℕ → ℤ) (a b factor : ℤ) → pos 0 <ℤ a → pos 0 <ℤ b → pos 0 <ℤ factor
    → ((j : ℕ) → factor *ℤ w j ≡ a *ℤ u j +ℤ b *ℤ v j) → IsLexNotNegative u keys → IsLexNotNegative v keys → IsLexNotNegative w keys
lex_sum_weak keys u v w a b factor p q r e h k =
    ⊎_elim
    (λ (x : IsLexPositive u keys). inl (⊎_elim (λ (y : IsLexPositive v keys). lex_sum keys u v w a b factor p q r (every keys e) x y) (λ y. lex_multiple keys u w a factor p r (right_zero keys y) x) k))
    (λ x. ⊎_elim (λ (y : IsLexPositive v keys). inl (lex_multiple keys v w b factor q r (left_zero keys x) y)) (λ y. inr (both_zero keys x y)) k) h
  where
    every : (cs : List ℕ) {P : ℕ → Type 0} → ((j : ℕ) → P j) → AllByRecursion P cs
    every [] f = tt
    every (c ∷ cs) f = (f c, every cs f)

    drop_right : (x y z : ℤ) → x ≡ y +ℤ b *ℤ z → z ≡ pos 0 → x ≡ y
    drop_right x y z f g = f ∙ rw (g, times_zero b) (omega (arith, ints))

    drop_left : (x y z : ℤ) → x ≡ a *ℤ z +ℤ y → z ≡ pos 0 → x ≡ y
    drop_left x y z f g = f ∙ rw (g, times_zero a) (omega (arith, ints))

    right_zero : (cs : List ℕ) → AllByRecursion (λ j. v j ≡ pos 0) cs → AllByRecursion (λ j. factor *ℤ w j ≡ a *ℤ u j) cs
    right_zero [] z = tt
    right_zero (c ∷ cs) z = (drop_right (factor *ℤ w c) (a *ℤ u c) (v c) (e c) z.0, right_zero cs z.1)

    left_zero : (cs : List ℕ) → AllByRecursion (λ j. u j ≡ pos 0) cs → AllByRecursion (λ j. factor *ℤ w j ≡ b *ℤ v j) cs
    left_zero [] z = tt
    left_zero (c ∷ cs) z = (drop_left (factor *ℤ w c) (b *ℤ v c) (u c) (e c) z.0, left_zero cs z.1)

    both_zero : (cs : List ℕ) → AllByRecursion (λ j. u j ≡ pos 0) cs → AllByRecursion (λ j. v j ≡ pos 0) cs → AllByRecursion (λ j. w j ≡ pos 0) cs
    both_zero [] y z = tt
    both_zero (c ∷ cs) y z = (vanishes factor (w c) r (drop_right (factor *ℤ w c) (a *ℤ u c) (v c) (e c) z.0 ∙ ap (λ n. a *ℤ n) y.0 ∙ times_zero a), both_zero cs y.1 z.1)

-- a line is not before itself
same_lines : (constants column : ℕ) (line : List ℤ) (keys : List ℕ) → IsLexNotNegative (lexical_view constants (behind_of column line line)) keys
same_lines constants column line keys = inr (every keys)
  where
    level : (x : ℤ) → x -ℤ x ≡ pos 0
    level x = omega (arith, ints)

    every : (cs : List ℕ) → AllByRecursion (λ j. lexical_view constants (behind_of column line line) j ≡ pos 0) cs
    every [] = tt
    every (c ∷ cs) = (seen-zero constants (behind_of column line line) c (level (entry line column *ℤ entry line c)), every cs)

-- k is behind i, and m behind k: so m is behind i
through : (constants column : ℕ) (first second third : List ℤ) (keys : List ℕ) → pos 0 <ℤ entry first column → pos 0 <ℤ entry second column → pos 0 <ℤ entry third column
    → IsLexNotNegative (lexical_view constants (behind_of column second first)) keys → IsLexNotNegative (lexical_view constants (behind_of column third second)) keys → IsLexNotNegative (lexical_view constants (behind_of column third first)) keys
through constants column first second third keys p q r h k =
    lex_sum_weak keys (lexical_view constants (behind_of column third second)) (lexical_view constants (behind_of column second first)) (lexical_view constants (behind_of column third first)) (entry first column) (entry third column) (entry second column) p r q
    (λ j. seen-sum constants (behind_of column third second) (behind_of column second first) (behind_of column third first) (entry first column) (entry third column) (entry second column) j
    (plain (entry first column) (entry second column) (entry third column) (entry first j) (entry second j) (entry third j))) k h
  where
    plain : (a b c x y z : ℤ) → b *ℤ (a *ℤ z -ℤ c *ℤ x) ≡ a *ℤ (b *ℤ z -ℤ c *ℤ y) +ℤ c *ℤ (a *ℤ y -ℤ b *ℤ x)
    plain a b c x y z = simp ring (omega (arith, ints))

below_more : {P : Type 0} (i count : ℕ) → i < count + 1 → (i < count → P) → (i ≡ count → P) → P
below_more i count h f g = ⊎_elim g (λ other. f (omega arith)) (cases_eq i count)

clash : (z : ℤ) → pos 0 <ℤ z → z ≤ℤ pos 0 → ⊥
clash z p q = omega (arith, ints)

pub LeavingOf-skip : (count : ℕ) (enters : List Bool) (constants : ℕ) (keys : List ℕ) (column : ℕ) (t : Tableau) (found : Option ℕ) → LeavingOf count enters constants keys column t found
    → (leaves_at enters t count ≡ true → numbers_of t count column ≤ℤ pos 0) → LeavingOf (count + 1) enters constants keys column t found
LeavingOf-skip count enters constants keys column t None h none = λ i k e. below_more i count k (λ below. h i below e) (λ (same : i ≡ count). subst (λ n. numbers_of t n column ≤ℤ pos 0) (sym same) (none (ap (leaves_at enters t) (sym same) ∙ e)))
LeavingOf-skip count enters constants keys column t (Some line) h none = record {
  here = let k : line < count = h.here in omega arith;
  leaves = h.leaves;
  positive = h.positive;
  least = λ i k e p. below_more i count k (λ below. h.least i below e p)
      (λ (same : i ≡ count). absurd (clash (numbers_of t i column) p (subst (λ n. numbers_of t n column ≤ℤ pos 0) (sym same) (none (ap (leaves_at enters t) (sym same) ∙ e)))));
}

pub LeavingOf-first : (count : ℕ) (enters : List Bool) (constants : ℕ) (keys : List ℕ) (column : ℕ) (t : Tableau) → NoneLeaves count enters column t
    → leaves_at enters t count ≡ true → pos 0 <ℤ numbers_of t count column → IsLeast (count + 1) enters constants keys column t count
LeavingOf-first count enters constants keys column t none leaves positive = record {
  here = omega arith;
  leaves = leaves;
  positive = positive;
  least = λ i k e p. below_more i count k (λ below. absurd (clash (numbers_of t i column) p (none i below e)))
      (λ (same : i ≡ count). subst (λ n. IsLexNotNegative (lexical_view constants (behind_of column (get_or t.lines n []) (get_or t.lines count []))) keys) (sym same) (same_lines constants column (get_or t.lines count []) keys));
}

pub LeavingOf-better : (count : ℕ) (enters : List Bool) (constants : ℕ) (keys : List ℕ) (column : ℕ) (t : Tableau) (line : ℕ) → IsLeast count enters constants keys column t line
    → leaves_at enters t count ≡ true → pos 0 <ℤ numbers_of t count column → comes_before constants column (get_or t.lines count []) (get_or t.lines line []) keys ≡ Ok true → IsLeast (count + 1) enters constants keys column t count
LeavingOf-better count enters constants keys column t line h leaves positive before = record {
  here = omega arith;
  leaves = leaves;
  positive = positive;
  least = λ i k e p. below_more i count k
      (λ below. through constants column (get_or t.lines count []) (get_or t.lines line []) (get_or t.lines i []) keys positive h.positive p (inl (comes_before-true constants column (get_or t.lines count []) (get_or t.lines line []) keys before)) (h.least i below e p))
      (λ (same : i ≡ count). subst (λ n. IsLexNotNegative (lexical_view constants (behind_of column (get_or t.lines n []) (get_or t.lines count []))) keys) (sym same) (same_lines constants column (get_or t.lines count []) keys));
}

pub LeavingOf-worse : (count : ℕ) (enters : List Bool) (constants : ℕ) (keys : List ℕ) (column : ℕ) (t : Tableau) (line : ℕ) → IsLeast count enters constants keys column t line
    → comes_before constants column (get_or t.lines count []) (get_or t.lines line []) keys ≡ Ok false → IsLeast (count + 1) enters constants keys column t line
LeavingOf-worse count enters constants keys column t line h before = record {
  here = let k : line < count = h.here in omega arith;
  leaves = h.leaves;
  positive = h.positive;
  least = λ i k e p. below_more i count k (λ below. h.least i below e p)
      (λ (same : i ≡ count). subst (λ n. IsLexNotNegative (lexical_view constants (behind_of column (get_or t.lines n []) (get_or t.lines line []))) keys) (sym same) (comes_before-false constants column (get_or t.lines count []) (get_or t.lines line []) keys before));
}

pub ruleset running_least = (LeavingOf-skip, LeavingOf-first, LeavingOf-better, LeavingOf-worse)
