-- A relation whose pivot stands before all others, and that is 0 at the pivots of the others, keeps
-- relations reduced.
use Rattle.std.proofs.Common.{◌≡◌, ◌≢◌, ℕ, zero, suc, ◌<◌, ◌≤◌, Bool, true, false, cond, List, [], ◌∷◌, map, length, refl, sym, ap, ◌∙◌, arith, ℤ, pos, ◌<ℤ◌}
use Rattle.std.specs.Prelude.{◌&&◌, ◌||◌, ◌==◌, not, int_lt, nat_lt, Some, IsTrue}
use Rattle.std.specs.List.{AllByRecursion, list_all, list_any, filter}
use Rattle.std.proofs.lemmas.Bool.{eq-eqb, ne_eqb, lt-ltb, and_parts, and_from, false≢true}
use Rattle.std.proofs.lemmas.Bool.Decides.{Decides-int_eq}
use Rattle.whole_numbers.specs.Divisors.{gcd_of_all}
use Rattle.farkas_check.specs.Multiples.{is_zero}
use Rattle.farkas_check.specs.Relations.{pivot, entry, is_primitive, rises_after, is_rising, is_alone, is_reduced}
use Rattle.simplex.proofs.Certificates.{lt_true}
use Rattle.elimination.specs.Stages.{unknowns_from, free_from}

-- ---- pivots

is_zero-false : (z : ℤ) → (z ≡ pos 0 → ⊥) → is_zero z ≡ false
is_zero-false z h = go (is_zero z) refl
  where
    go : (b : Bool) → is_zero z ≡ b → is_zero z ≡ false
    go true e = absurd (h ((Decides-int_eq z (pos 0)).0 e))
    go false e = e

is_zero-true : (z : ℤ) → z ≡ pos 0 → is_zero z ≡ true
is_zero-true z h = (Decides-int_eq z (pos 0)).1 h

pub pivot-at : (ns : List ℤ) (u : ℕ) → u < length ns → ((j : ℕ) → j < u → entry ns j ≡ pos 0) → (entry ns u ≡ pos 0 → ⊥) → pivot ns ≡ u
pivot-at [] u h b n = absurd (omega (arith, h))
pivot-at (z ∷ zs) zero h b n = ap (λ (t : Bool). cond t (suc (pivot zs)) 0) (is_zero-false z n)
pivot-at (z ∷ zs) (suc u) h b n = ap (λ (t : Bool). cond t (suc (pivot zs)) 0) (is_zero-true z (b 0 (omega arith))) ∙ ap (λ (k : ℕ). suc k) (pivot-at zs u (omega (arith, h)) (λ j g. b (suc j) (omega (arith, g))) n)

pub entry-before_pivot : (ns : List ℤ) (j : ℕ) → j < pivot ns → entry ns j ≡ pos 0
entry-before_pivot [] j h = absurd (omega (arith, h))
entry-before_pivot (z ∷ zs) j h = go (λ k g. entry-before_pivot zs k g) (is_zero z) refl j h
  where
    go : ((k : ℕ) → k < pivot zs → entry zs k ≡ pos 0) → (b : Bool) → is_zero z ≡ b → (j : ℕ) → j < cond b (suc (pivot zs)) 0 → entry (z ∷ zs) j ≡ pos 0
    go rest true e zero h = (Decides-int_eq z (pos 0)).0 e
    go rest true e (suc j) h = rest j (omega (arith, h))
    go rest false e j h = absurd (omega (arith, h))

-- ---- one more in front

or_right : (a b : Bool) → b ≡ true → a || b ≡ true
or_right true b e = refl
or_right false b e = e

pivots-rise : (start : ℕ) (lines : List (List ℤ)) → AllByRecursion (λ line. suc start ≤ pivot line) lines → is_rising (map pivot lines) ≡ true → rises_after (Some start) (map pivot lines) ≡ true
pivots-rise start [] h e = refl
pivots-rise start (l ∷ lines) h e = and_from (nat_lt start (pivot l)) (rises_after (Some (pivot l)) (map pivot lines)) (lt-ltb start (pivot l) (let low : suc start ≤ pivot l = h.0 in omega (arith, low))) e

lines-alone : (u : ℕ) (pivots : List ℕ) (lines : List (List ℤ)) → AllByRecursion (λ line. suc u ≤ pivot line) lines → list_all (is_alone pivots) lines ≡ true → list_all (is_alone (u ∷ pivots)) lines ≡ true
lines-alone u pivots [] h e = refl
lines-alone u pivots (l ∷ lines) h e =
    let parts = and_parts (is_alone pivots l) (list_all (is_alone pivots) lines) e in
    and_from (is_alone (u ∷ pivots) l) (list_all (is_alone (u ∷ pivots)) lines)
    (and_from (u == pivot l || is_zero (entry l u)) (is_alone pivots l) (or_right (u == pivot l) (is_zero (entry l u)) (is_zero-true (entry l u) (entry-before_pivot l u (let low : suc u ≤ pivot l = h.0 in omega (arith, low))))) parts.0)
    (lines-alone u pivots lines h.1 parts.1)

line-alone : (line : List ℤ) (lines : List (List ℤ)) → AllByRecursion (λ other. entry line (pivot other) ≡ pos 0) lines → list_all (λ p. p == pivot line || is_zero (entry line p)) (map pivot lines) ≡ true
line-alone line [] h = refl
line-alone line (l ∷ lines) h = and_from (pivot l == pivot line || is_zero (entry line (pivot l))) (list_all (λ p. p == pivot line || is_zero (entry line p)) (map pivot lines)) (or_right (pivot l == pivot line) (is_zero (entry line (pivot l))) (is_zero-true (entry line (pivot l)) h.0)) (line-alone line lines h.1)

pub reduced-more : (line : List ℤ) (lines : List (List ℤ)) → pos 0 <ℤ entry line (pivot line) → gcd_of_all line ≡ 1 → AllByRecursion (λ other. suc (pivot line) ≤ pivot other) lines → AllByRecursion (λ other. entry line (pivot other) ≡ pos 0) lines
    → IsTrue (is_reduced lines) → IsTrue (is_reduced (line ∷ lines))
reduced-more line lines positive primitive behind zeros reduced =
    and_from (list_all is_primitive (line ∷ lines)) (is_rising (map pivot (line ∷ lines)) && list_all (is_alone (map pivot (line ∷ lines))) (line ∷ lines))
    (and_from (is_primitive line) (list_all is_primitive lines) (and_from (int_lt (pos 0) (entry line (pivot line))) (gcd_of_all line == 1) (lt_true (pos 0) (entry line (pivot line)) positive) (eq-eqb (gcd_of_all line) 1 primitive)) old.0)
    (and_from (is_rising (map pivot (line ∷ lines))) (list_all (is_alone (map pivot (line ∷ lines))) (line ∷ lines)) (pivots-rise (pivot line) lines behind rest.0)
    (and_from (is_alone (map pivot (line ∷ lines)) line) (list_all (is_alone (map pivot (line ∷ lines))) lines)
    (and_from (pivot line == pivot line || is_zero (entry line (pivot line))) (list_all (λ p. p == pivot line || is_zero (entry line p)) (map pivot lines)) (ap (λ (b : Bool). b || is_zero (entry line (pivot line))) (eq-eqb (pivot line) (pivot line) refl)) (line-alone line lines zeros))
    (lines-alone (pivot line) (map pivot lines) lines behind rest.1)))
  where
    old : (list_all is_primitive lines ≡ true) × (is_rising (map pivot lines) && list_all (is_alone (map pivot lines)) lines ≡ true)
    old = and_parts (list_all is_primitive lines) (is_rising (map pivot lines) && list_all (is_alone (map pivot lines)) lines) reduced

    rest : (is_rising (map pivot lines) ≡ true) × (list_all (is_alone (map pivot lines)) lines ≡ true)
    rest = and_parts (is_rising (map pivot lines)) (list_all (is_alone (map pivot lines)) lines) old.1

-- ---- unknowns that are no pivot

abbrev has_pivot : List (List ℤ) → ℕ → Bool
has_pivot lines u = list_any (λ p. p == u) (map pivot lines)

no_pivot : (u : ℕ) (lines : List (List ℤ)) → AllByRecursion (λ line. suc u ≤ pivot line) lines → has_pivot lines u ≡ false
no_pivot u [] h = refl
no_pivot u (l ∷ lines) h = ap (λ (b : Bool). b || has_pivot lines u) (ne_eqb (pivot l) u (λ e. let low : suc u ≤ pivot l = h.0 in omega (arith, low, e))) ∙ no_pivot u lines h.1

filter-same : (p q : ℕ → Bool) (start n : ℕ) → ((v : ℕ) → start ≤ v → p v ≡ q v) → filter p (unknowns_from start n) ≡ filter q (unknowns_from start n)
filter-same p q start zero same = refl
filter-same p q start (suc n) same =
    ap (λ (b : Bool). cond b (start ∷ filter p (unknowns_from (suc start) n)) (filter p (unknowns_from (suc start) n))) (same start (omega arith))
    ∙ ap (λ (us : List ℕ). cond (q start) (start ∷ us) us) (filter-same p q (suc start) n (λ v h. same v (omega (arith, h))))

-- an unknown before all pivots is free
pub free-more : (u n : ℕ) (lines : List (List ℤ)) → AllByRecursion (λ line. suc u ≤ pivot line) lines → free_from lines u (suc n) ≡ u ∷ free_from lines (suc u) n
free-more u n lines h = ap (λ (b : Bool). cond (not b) (u ∷ free_from lines (suc u) n) (free_from lines (suc u) n)) (no_pivot u lines h)

-- the pivot of a relation is not
pub free-less : (u n : ℕ) (line : List ℤ) (lines : List (List ℤ)) → pivot line ≡ u → free_from (line ∷ lines) u (suc n) ≡ free_from lines (suc u) n
free-less u n line lines e =
    ap (λ (b : Bool). cond (not (b || has_pivot lines u)) (u ∷ free_from (line ∷ lines) (suc u) n) (free_from (line ∷ lines) (suc u) n)) (eq-eqb (pivot line) u e)
    ∙ filter-same (λ v. not (has_pivot (line ∷ lines) v)) (λ v. not (has_pivot lines v)) (suc u) n (λ v h. ap (λ (b : Bool). not (b || has_pivot lines v)) (ne_eqb (pivot line) v (λ f. omega (arith, e, f, h))))

filter-passes : (p : ℕ → Bool) (xs : List ℕ) → AllByRecursion (λ x. p x ≡ true) (filter p xs)
filter-passes p [] = tt
filter-passes p (x ∷ xs) = go (p x) refl (filter-passes p xs)
  where
    go : (b : Bool) → p x ≡ b → AllByRecursion (λ y. p y ≡ true) (filter p xs) → AllByRecursion (λ y. p y ≡ true) (cond b (x ∷ filter p xs) (filter p xs))
    go true e h = (e, h)
    go false e h = h

pivots-differ : (u : ℕ) (lines : List (List ℤ)) → not (has_pivot lines u) ≡ true → AllByRecursion (λ line. pivot line ≢ u) lines
pivots-differ u [] e = tt
pivots-differ u (l ∷ lines) e = go (λ g. pivots-differ u lines g) (pivot l == u) refl e
  where
    go : (not (has_pivot lines u) ≡ true → AllByRecursion (λ line. pivot line ≢ u) lines) → (b : Bool) → (pivot l == u) ≡ b → not (b || has_pivot lines u) ≡ true → AllByRecursion (λ line. pivot line ≢ u) (l ∷ lines)
    go rest true f e = absurd (false≢true e)
    go rest false f e = ((λ same. false≢true (sym f ∙ eq-eqb (pivot l) u same)), rest e)

pub free-apart : (lines : List (List ℤ)) (start n : ℕ) → AllByRecursion (λ u. AllByRecursion (λ line. pivot line ≢ u) lines) (free_from lines start n)
free-apart lines start n = more (free_from lines start n) (filter-passes (λ place. not (has_pivot lines place)) (unknowns_from start n))
  where
    more : (us : List ℕ) → AllByRecursion (λ u. not (has_pivot lines u) ≡ true) us → AllByRecursion (λ u. AllByRecursion (λ line. pivot line ≢ u) lines) us
    more [] h = tt
    more (u ∷ us) h = (pivots-differ u lines h.0, more us h.1)
