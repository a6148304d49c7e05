-- Changes of small posts are made, and their numbers are small.
use Rattle.std.proofs.Common.{Ordering, Less, Equal, Greater, ◌≡◌, ℕ, zero, suc, ◌+◌, ◌^◌, ◌<◌, ◌≤◌, Bool, true, false, cond, refl, ap, arith, List, [], ◌∷◌, map, ℤ, pos, negsuc}
use Rattle.std.specs.Prelude.{IsOkAnd, Result, Ok, Err, take, unsigned_abs}
use Rattle.std.specs.List.{AllByRecursion, flat_map}
use Rattle.std.specs.Ordering.{match_ordering, int_eq}
use Rattle.items.specs.Gives.{◌>>=◌, err_map}
use Rattle.items.proofs.Each.{each-any, each-map, each-more}
use Rattle.whole_numbers.specs.declared.wide.Wide as Step
use Rattle.linear_terms.specs.declared.col.Col.{Col}
use Rattle.linear_terms.specs.declared.col.Col.TheVariants.{At}
use Rattle.linear_terms.specs.declared.error.TermError.{TermError}
use Rattle.linear_terms.specs.declared.row.Case.{Case}
use Rattle.linear_terms.specs.Expressions.{or_zero}
use Rattle.linear_terms.specs.Mono.{mono_cmp}
use Rattle.linear_terms.specs.Operations.{with_term, put, difference_of_polys}
use Rattle.linear_terms.specs.Polynomial.{Terms, Polynomial, column_of}
use Rattle.linear_terms.specs.TermError.{plus, wide}
use Rattle.farkas_check.specs.Sizes.{HasNumbersUpTo}
use Rattle.posing.specs.Logs.{loss_notes}
use Rattle.transition_formula.specs.Loss.{losses_of}
use Rattle.transition_formula.specs.Transition.{Transition}
use Rattle.polyhedra.specs.Changes.{poly_at, change, lost_changes, modified_variables}
use Rattle.hull_limits.proofs.Magnitudes.{IsWithin, sum-makes}
use Rattle.hull_limits.proofs.MadeSteps.{IsOkAnd-bind}

-- ---- sums of terms

-- each coefficient is at most so great in magnitude
abbrev AreTermsUpTo : ℕ → Terms → Type 0
AreTermsUpTo n terms = AllByRecursion (λ (t : List Col × ℤ). unsigned_abs t.1 ≤ n) terms

with_term-within : (n : ℕ) (m : List Col) (c : ℤ) (ts : Terms) → IsWithin n c → AreTermsUpTo n ts → AreTermsUpTo n (with_term m c ts)
with_term-within n m c ts h k = go (int_eq c (pos 0))
  where
    go : (b : Bool) → AreTermsUpTo n (cond b ts ((m, c) ∷ ts))
    go true = k
    go false = (h, k)

wide-is : {X : Type 0} (P : X → Type 0) (r : Result X Step.Wide) → IsOkAnd r P → IsOkAnd (err_map wide r) P
wide-is P (Ok x) h = h
wide-is P (Err step) h = h

plus-makes : (a b : ℤ) (m n : ℕ) → IsWithin m a → IsWithin n b → m + n < 2 ^ 127 → IsOkAnd (plus a b) (IsWithin (m + n))
plus-makes a b m n h k l = wide-is (IsWithin (m + n)) _ (sum-makes a b m n h k l)

terms-more : (n : ℕ) (ts : Terms) → AreTermsUpTo n ts → AreTermsUpTo (n + 1) ts
terms-more n ts h = each-more (λ t. unsigned_abs t.1 ≤ n) (λ t. unsigned_abs t.1 ≤ n + 1) (λ t e. omega (arith, e)) ts h

put-makes : (n : ℕ) (m : List Col) (c : ℤ) (ts : Terms) → IsWithin 1 c → AreTermsUpTo n ts → n + 1 < 2 ^ 127 → IsOkAnd (put m c ts) (AreTermsUpTo (n + 1))
put-makes n m c [] h k l = with_term-within (n + 1) m c [] (omega (arith, h)) tt
put-makes n m c (t ∷ ts) h k l = go (mono_cmp m t.0) (put-makes n m c ts h k.1 l)
  where
    go : (o : Ordering) → IsOkAnd (put m c ts) (AreTermsUpTo (n + 1))
        → IsOkAnd (match_ordering o (Ok (with_term m c (t ∷ ts))) (plus t.1 c >>= λ s. Ok (with_term t.0 s ts)) (put m c ts >>= λ made. Ok (t ∷ made))) (AreTermsUpTo (n + 1))
    go Less later = with_term-within (n + 1) m c (t ∷ ts) (omega (arith, h)) (terms-more n (t ∷ ts) k)
    go Equal later = IsOkAnd-bind (IsWithin (n + 1)) (AreTermsUpTo (n + 1)) (plus t.1 c) (λ s. Ok (with_term t.0 s ts)) (plus-makes t.1 c n 1 k.0 h l) (λ s e. with_term-within (n + 1) t.0 s ts e (terms-more n ts k.1))
    go Greater later = IsOkAnd-bind (AreTermsUpTo (n + 1)) (AreTermsUpTo (n + 1)) (put m c ts) (λ made. Ok (t ∷ made)) later (λ made e. (omega (arith, k.0), e))

-- ---- a post less a column

difference-makes : (n : ℕ) (p : Polynomial) (c : Col) → HasNumbersUpTo n p → n + 1 < 2 ^ 127 → IsOkAnd (difference_of_polys p (column_of c)) (HasNumbersUpTo (n + 1))
difference-makes n p c h l =
    IsOkAnd-bind (AreTermsUpTo (n + 1)) (HasNumbersUpTo (n + 1)) (put (c ∷ []) (negsuc 0) p.terms >>= λ made. Ok made) _
    (IsOkAnd-bind (AreTermsUpTo (n + 1)) (AreTermsUpTo (n + 1)) (put (c ∷ []) (negsuc 0) p.terms) Ok (put-makes n (c ∷ []) (negsuc 0) p.terms (omega arith) h.terms l) (λ made e. e))
    (λ ts e. IsOkAnd-bind (IsWithin (n + 1)) (HasNumbersUpTo (n + 1)) (plus p.rest (pos 0)) (λ r. Ok (record { terms = ts; rest = r }))
    (plus-makes p.rest (pos 0) n 1 h.rest (omega arith) l) (λ r k. record { terms = e; rest = k }))

-- ---- changes

at-small : (n : ℕ) (polys : List Polynomial) (v : ℕ) → AllByRecursion (HasNumbersUpTo n) polys → HasNumbersUpTo n (poly_at polys v)
at-small n [] v h = record { terms = tt; rest = omega arith }
at-small n (p ∷ polys) zero h = h.0
at-small n (p ∷ polys) (suc v) h = at-small n polys v h.1

pub change-makes : (n : ℕ) (case : Case) (v : ℕ) → AllByRecursion (HasNumbersUpTo n) case.post → n + 1 < 2 ^ 127 → IsOkAnd (change true case v) (HasNumbersUpTo (n + 1))
change-makes n case v h l = difference-makes n (poly_at case.post v) (At v) (at-small n case.post v h) l

or_zero-small : (n : ℕ) (r : Result Polynomial TermError) → IsOkAnd r (HasNumbersUpTo n) → HasNumbersUpTo n (or_zero r)
or_zero-small n (Ok p) h = h
or_zero-small n (Err e) h = absurd h

pub changes-small : (n : ℕ) (case : Case) (variables : List ℕ) → AllByRecursion (HasNumbersUpTo n) case.post → n + 1 < 2 ^ 127 → AllByRecursion (HasNumbersUpTo (n + 1)) (map (λ v. or_zero (change true case v)) variables)
changes-small n case variables h l =
    each-map (λ (v : ℕ). Unit {0}) (HasNumbersUpTo (n + 1)) (λ v. or_zero (change true case v)) (λ v any. or_zero-small (n + 1) (change true case v) (change-makes n case v h l)) variables (each-any (λ (v : ℕ). Unit {0}) (λ v. tt) variables)

-- ---- losses

no_loss : (n : ℕ) (r : Result Polynomial TermError) → IsOkAnd r (HasNumbersUpTo n) → losses_of r ≡ []
no_loss n (Ok p) h = refl
no_loss n (Err e) h = absurd h

none_in : (n v : ℕ) (cases : List Case) → AllByRecursion (λ (case : Case). AllByRecursion (HasNumbersUpTo n) case.post) cases → n + 1 < 2 ^ 127 → flat_map (λ case. losses_of (change true case v)) cases ≡ []
none_in n v [] h l = refl
none_in n v (case ∷ cases) h l = rw (no_loss (n + 1) (change true case v) (change-makes n case v h.0 l)) (none_in n v cases h.1 l)

none_of : (n : ℕ) (cases : List Case) (variables : List ℕ) → AllByRecursion (λ (case : Case). AllByRecursion (HasNumbersUpTo n) case.post) cases → n + 1 < 2 ^ 127
    → flat_map (λ v. take 1 (flat_map (λ case. losses_of (change true case v)) cases)) variables ≡ []
none_of n cases [] h l = refl
none_of n cases (v ∷ variables) h l = rw (none_in n v cases h l) (none_of n cases variables h l)

pub nothing_lost : (n : ℕ) (body : Transition) → AllByRecursion (λ (case : Case). AllByRecursion (HasNumbersUpTo n) case.post) body.cases → n + 1 < 2 ^ 127 → lost_changes true body ≡ []
nothing_lost n body h l = ap loss_notes (none_of n body.cases (modified_variables true body) h l)
