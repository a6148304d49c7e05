-- The multiples of the spots around an inner point give what a polynomial has at each place.
use Rattle.std.proofs.Common.{◌≡◌, ℕ, zero, suc, ◌+◌, ◌-◌, ◌<◌, ◌≤◌, Bool, true, false, cond, List, [], ◌∷◌, ◌++◌, length, refl, sym, ap, ◌∙◌, arith, ⊎_elim, Result, Ok, Err, ℤ, pos, negsuc, ◌+ℤ◌, ◌-ℤ◌, ◌*ℤ◌}
use Rattle.std.specs.Prelude.{nat_eq, nat_lt, neg_ℤ, IfOk}
use Rattle.std.proofs.lemmas.Int.{ints}
use Rattle.std.proofs.lemmas.Bool.{cases_eq, cases_lt, eq-eqb, ne_eqb, lt-ltb, ltb-true}
use Rattle.std.proofs.lemmas.List.{length-append}
use Rattle.std.proofs.Math.ListN.{get_or-append}
use Rattle.std.proofs.Math.Seq.{get_or-append_seam}
use Rattle.std.proofs.Math.IntN.{*ℤ_comm, zero-*ℤ}
use Rattle.whole_numbers.proofs.Ring.{ring, +ℤ-*ℤ, one-*ℤ}
use Rattle.linear_terms.specs.declared.col.Col.{Col}
use Rattle.linear_terms.specs.Polynomial.{Polynomial, coefficient_in}
use Rattle.farkas_check.specs.Calm.{paired_sum}
use Rattle.farkas_check.specs.Frames.{line_of, sum_below}
use Rattle.farkas_check.specs.Relations.{entry}
use Rattle.simplex.proofs.Certificates.{sum_below-first}
use Rattle.simplex.proofs.Corners.{single}
use Rattle.simplex.proofs.Exchanges.{times_zero}
use Rattle.elimination.specs.declared.inner.Inner.{Inner}
use Rattle.elimination.specs.Around.{around_value, sum_of_all, constant_weight, column_weight, weight_at, WeightsRead}
use Rattle.elimination.specs.Moves.{weights_to}
use Rattle.elimination.specs.Probes.{read_at, value_in}

-- ---- values as sums over the columns

paired_parts : (cs : List (List Col)) (p : Polynomial) (xs : List ℤ) (d : ℤ) → length xs ≡ length cs → paired_sum (line_of cs p) (xs ++ d ∷ []) ≡ sum_below (length cs) (λ j. entry xs j *ℤ read_at cs j p) +ℤ p.rest *ℤ d
paired_parts [] p [] d h = last (p.rest *ℤ d)
  where
    last : (z : ℤ) → z +ℤ pos 0 ≡ pos 0 +ℤ z
    last z = omega (arith, ints)
paired_parts [] p (x ∷ xs) d h = absurd (omega (arith, h))
paired_parts (c ∷ cs) p [] d h = absurd (omega (arith, h))
paired_parts (c ∷ cs) p (x ∷ xs) d h =
    ap (λ z. coefficient_in p.terms c *ℤ x +ℤ z) (paired_parts cs p xs d (omega (arith, h)))
    ∙ ap (λ z. z +ℤ (sum_below (length cs) (λ j. entry xs j *ℤ read_at cs j p) +ℤ p.rest *ℤ d)) (*ℤ_comm (coefficient_in p.terms c) x)
    ∙ group (x *ℤ coefficient_in p.terms c) (sum_below (length cs) (λ j. entry xs j *ℤ read_at cs j p)) (p.rest *ℤ d)
    ∙ ap (λ z. z +ℤ p.rest *ℤ d) (sym (sum_below-first (length cs) (λ j. entry (x ∷ xs) j *ℤ read_at (c ∷ cs) j p)))
  where
    group : (a b c : ℤ) → a +ℤ (b +ℤ c) ≡ a +ℤ b +ℤ c
    group a b c = omega (arith, ints)

sum_of_all-is : (zs : List ℤ) → sum_of_all zs ≡ sum_below (length zs) (λ j. entry zs j)
sum_of_all-is [] = refl
sum_of_all-is (z ∷ zs) = ap (λ x. z +ℤ x) (sum_of_all-is zs) ∙ sym (sum_below-first (length zs) (λ j. entry (z ∷ zs) j))

read_at-rest : (cs : List (List Col)) (p : Polynomial) → read_at cs (length cs) p ≡ p.rest
read_at-rest [] p = refl
read_at-rest (c ∷ cs) p = read_at-rest cs p

-- ---- what a column reads

-- with four as a number, so that products stay in sight
column_level : (k o v r : ℤ) → neg_ℤ k *ℤ o *ℤ (k *ℤ v) +ℤ k *ℤ o *ℤ (k *ℤ v +ℤ r) ≡ k *ℤ o *ℤ r
column_level k o v r = simp ring (omega (arith, ints))

column_reads : (cs : List (List Col)) (inner : Inner) (own : ℕ) (p : Polynomial) → own < length cs → sum_below (length cs + 1) (λ i. column_weight inner own i *ℤ around_value cs inner i p) ≡ (pos 4 *ℤ inner.over) *ℤ read_at cs own p
column_reads cs inner own p h =
    (let e : length cs + 1 ≡ suc (length cs) = omega arith in ap (λ (n : ℕ). sum_below n (λ i. column_weight inner own i *ℤ around_value cs inner i p)) e)
    ∙ sum_below-first (length cs) (λ i. column_weight inner own i *ℤ around_value cs inner i p)
    ∙ ap (λ z. negsuc 3 *ℤ inner.over *ℤ (pos 4 *ℤ value_in cs inner p) +ℤ z) (single (length cs) (λ l. column_weight inner own (suc l) *ℤ around_value cs inner (suc l) p) own h
    (λ l g other. ap (λ (b : Bool). cond b (pos 4 *ℤ inner.over) (pos 0) *ℤ around_value cs inner (suc l) p) (ne_eqb l own other) ∙ zero-*ℤ (around_value cs inner (suc l) p))
    ∙ ap (λ (b : Bool). cond b (pos 4 *ℤ inner.over) (pos 0) *ℤ around_value cs inner (suc own) p) (eq-eqb own own refl))
    ∙ column_level (pos 4) inner.over (value_in cs inner p) (read_at cs own p)

-- ---- what the constants read

constant_parts : (n : ℕ) (k v : ℤ) (f g : ℕ → ℤ) → sum_below n (λ c. neg_ℤ k *ℤ f c *ℤ (k *ℤ v +ℤ g c)) ≡ neg_ℤ k *ℤ (k *ℤ v *ℤ sum_below n f +ℤ sum_below n (λ c. f c *ℤ g c))
constant_parts zero k v f g = sym (ap (λ z. neg_ℤ k *ℤ (z +ℤ pos 0)) (times_zero (k *ℤ v)) ∙ times_zero (neg_ℤ k))
constant_parts (suc n) k v f g = ap (λ z. z +ℤ neg_ℤ k *ℤ f n *ℤ (k *ℤ v +ℤ g n)) (constant_parts n k v f g) ∙ level (sum_below n f) (sum_below n (λ c. f c *ℤ g c)) (f n) (g n)
  where
    level : (s t a b : ℤ) → neg_ℤ k *ℤ (k *ℤ v *ℤ s +ℤ t) +ℤ neg_ℤ k *ℤ a *ℤ (k *ℤ v +ℤ b) ≡ neg_ℤ k *ℤ (k *ℤ v *ℤ (s +ℤ a) +ℤ (t +ℤ a *ℤ b))
    level s t a b = simp ring (omega (arith, ints))

constant_level : (k s v t r o : ℤ) → v ≡ t +ℤ r *ℤ o → (pos 1 +ℤ k *ℤ s) *ℤ (k *ℤ v) +ℤ neg_ℤ k *ℤ (k *ℤ v *ℤ s +ℤ t) ≡ k *ℤ o *ℤ r
constant_level k s v t r o e =
    ap (λ z. z +ℤ neg_ℤ k *ℤ (k *ℤ v *ℤ s +ℤ t)) (+ℤ-*ℤ (pos 1) (k *ℤ s) (k *ℤ v) ∙ ap (λ z. z +ℤ k *ℤ s *ℤ (k *ℤ v)) (one-*ℤ (k *ℤ v)))
    ∙ first ∙ ap (λ z. k *ℤ z -ℤ k *ℤ t) e ∙ second
  where
    first : k *ℤ v +ℤ k *ℤ s *ℤ (k *ℤ v) +ℤ neg_ℤ k *ℤ (k *ℤ v *ℤ s +ℤ t) ≡ k *ℤ v -ℤ k *ℤ t
    first = simp ring (omega (arith, ints))

    second : k *ℤ (t +ℤ r *ℤ o) -ℤ k *ℤ t ≡ k *ℤ o *ℤ r
    second = simp ring (omega (arith, ints))

constants_read : (cs : List (List Col)) (inner : Inner) (p : Polynomial) → length inner.numbers ≡ length cs → sum_below (length cs + 1) (λ i. constant_weight inner i *ℤ around_value cs inner i p) ≡ (pos 4 *ℤ inner.over) *ℤ p.rest
constants_read cs inner p each =
    (let e : length cs + 1 ≡ suc (length cs) = omega arith in ap (λ (n : ℕ). sum_below n (λ i. constant_weight inner i *ℤ around_value cs inner i p)) e)
    ∙ sum_below-first (length cs) (λ i. constant_weight inner i *ℤ around_value cs inner i p)
    ∙ ap (λ z. (pos 1 +ℤ pos 4 *ℤ sum_of_all inner.numbers) *ℤ (pos 4 *ℤ value_in cs inner p) +ℤ z) (constant_parts (length cs) (pos 4) (value_in cs inner p) (λ c. entry inner.numbers c) (λ c. read_at cs c p))
    ∙ ap (λ s. (pos 1 +ℤ pos 4 *ℤ s) *ℤ (pos 4 *ℤ value_in cs inner p) +ℤ neg_ℤ (pos 4) *ℤ (pos 4 *ℤ value_in cs inner p *ℤ sum_below (length cs) (λ c. entry inner.numbers c) +ℤ sum_below (length cs) (λ c. entry inner.numbers c *ℤ read_at cs c p))) (sum_of_all-is inner.numbers ∙ ap (λ (n : ℕ). sum_below n (λ c. entry inner.numbers c)) each)
    ∙ constant_level (pos 4) (sum_below (length cs) (λ c. entry inner.numbers c)) (value_in cs inner p) (sum_below (length cs) (λ c. entry inner.numbers c *ℤ read_at cs c p)) p.rest inner.over (paired_parts cs p inner.numbers inner.over each)

-- ---- the law

pub weights_read : (cs : List (List Col)) (inner : Inner) (place : ℕ) (p : Polynomial) → length inner.numbers ≡ length cs → place ≤ length cs → WeightsRead cs inner place p
weights_read cs inner place p each within =
    ⊎_elim (λ (h : place < length cs). all (nat_lt place (length cs)) true (lt-ltb place (length cs) h) ∙ column_reads cs inner place p h)
    (λ (h : length cs ≤ place). let same : place ≡ length cs = omega (arith, h, within) in all (nat_lt place (length cs)) false (not_below place (length cs) h) ∙ constants_read cs inner p each ∙ ap (λ z. (pos 4 *ℤ inner.over) *ℤ z) (sym (read_at-rest cs p)) ∙ ap (λ (l : ℕ). (pos 4 *ℤ inner.over) *ℤ read_at cs l p) (sym same))
    (cases_lt place (length cs))
  where
    all : (b c : Bool) → b ≡ c → sum_below (length cs + 1) (λ i. cond b (column_weight inner place i) (constant_weight inner i) *ℤ around_value cs inner i p) ≡ sum_below (length cs + 1) (λ i. cond c (column_weight inner place i) (constant_weight inner i) *ℤ around_value cs inner i p)
    all b c e = ap (λ (d : Bool). sum_below (length cs + 1) (λ i. cond d (column_weight inner place i) (constant_weight inner i) *ℤ around_value cs inner i p)) e

    not_below : (a b : ℕ) → b ≤ a → nat_lt a b ≡ false
    not_below a b h = go (nat_lt a b) refl
      where
        go : (c : Bool) → nat_lt a b ≡ c → c ≡ false
        go false e = refl
        go true e = absurd (let k : a < b = ltb-true a b e in omega (arith, h, k))

-- ---- in a function's words

pub column_weight-next : (inner : Inner) (own spot : ℕ) → 0 < spot → column_weight inner own spot ≡ cond (nat_eq (spot - 1) own) (pos 4 *ℤ inner.over) (pos 0)
column_weight-next inner own zero h = absurd (omega (arith, h))
column_weight-next inner own (suc spot) h = let e : suc spot - 1 ≡ spot = omega arith in ap (λ (n : ℕ). cond (nat_eq n own) (pos 4 *ℤ inner.over) (pos 0)) (sym e)

pub constant_weight-next : (inner : Inner) (spot : ℕ) → 0 < spot → constant_weight inner spot ≡ negsuc 3 *ℤ entry inner.numbers (spot - 1)
constant_weight-next inner zero h = absurd (omega (arith, h))
constant_weight-next inner (suc spot) h = let e : suc spot - 1 ≡ spot = omega arith in ap (λ (n : ℕ). negsuc 3 *ℤ entry inner.numbers n) (sym e)

pub ruleset weight_steps = (column_weight-next, constant_weight-next)

weights-length : (columns : ℕ) (inner : Inner) (place n : ℕ) → length (weights_to columns inner place n) ≡ n
weights-length columns inner place zero = refl
weights-length columns inner place (suc n) =
    let a : length (weights_to columns inner place n ++ weight_at columns inner place n ∷ []) ≡ length (weights_to columns inner place n) + 1 = length-append (weights_to columns inner place n) (weight_at columns inner place n ∷ []) in
    let b : length (weights_to columns inner place n) ≡ n = weights-length columns inner place n in
    omega (arith, a, b)

weights-at : (columns : ℕ) (inner : Inner) (place n i : ℕ) → i < n → entry (weights_to columns inner place n) i ≡ weight_at columns inner place i
weights-at columns inner place zero i h = absurd (omega (arith, h))
weights-at columns inner place (suc n) i h =
    ⊎_elim (λ (e : i ≡ n). ap (λ (j : ℕ). entry (weights_to columns inner place n ++ weight_at columns inner place n ∷ []) j) (e ∙ sym (weights-length columns inner place n)) ∙ get_or-append_seam (weights_to columns inner place n) (weight_at columns inner place n) [] (pos 0) ∙ ap (λ (j : ℕ). weight_at columns inner place j) (sym e))
    (λ other. get_or-append (weights_to columns inner place n) (weight_at columns inner place n ∷ []) (pos 0) i (let e : length (weights_to columns inner place n) ≡ n = weights-length columns inner place n in omega (arith, h, other, e)) ∙ weights-at columns inner place n i (omega (arith, h, other))) (cases_eq i n)

pub weights_made : (columns : ℕ) (inner : Inner) (place : ℕ) (made : List ℤ) → made ≡ weights_to columns inner place (columns + 1) → (length made ≡ columns + 1) × ((i : ℕ) → i < columns + 1 → entry made i ≡ weight_at columns inner place i)
weights_made columns inner place made e = (ap length e ∙ weights-length columns inner place (columns + 1), λ i h. ap (λ (zs : List ℤ). entry zs i) e ∙ weights-at columns inner place (columns + 1) i h)

pub weights_answer : {E : Type 0} (columns : ℕ) (inner : Inner) (place : ℕ) (r : Result (List ℤ) E) → IfOk r (λ made. made ≡ weights_to columns inner place (columns + 1))
    → IfOk r (λ made. (length made ≡ columns + 1) × ((i : ℕ) → i < columns + 1 → entry made i ≡ weight_at columns inner place i))
weights_answer columns inner place (Ok made) e = weights_made columns inner place made e
weights_answer columns inner place (Err error) e = tt

pub weights_more : (columns : ℕ) (inner : Inner) (place n : ℕ) (made next : List ℤ) (z : ℤ) → made ≡ weights_to columns inner place n → z ≡ weight_at columns inner place n → next ≡ made ++ z ∷ [] → next ≡ weights_to columns inner place (n + 1)
weights_more columns inner place n made next z e f g =
    g ∙ ap (λ (zs : List ℤ). zs ++ z ∷ []) e ∙ ap (λ y. weights_to columns inner place n ++ y ∷ []) f ∙ (let more : suc n ≡ n + 1 = omega arith in ap (λ (m : ℕ). weights_to columns inner place m) more)
