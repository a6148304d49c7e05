-- A number put into terms that stand in print order, by a look-up and one change of the map that
-- keeps them.
use Rattle.std.proofs.Common.{◌≡◌, Bool, true, false, cond, ℤ, pos, List, [], ◌∷◌, Result, Ok, Err, Option, Some, None, ◌≢◌, refl, sym, ap, ◌∙◌}
use Rattle.std.specs.List.{AllByRecursion}
use Rattle.std.specs.BTreeMap.{insert_entry, is_at}
use Rattle.std.specs.Map.{remove_entry, values_of}
use Rattle.std.specs.Ordering.{int_eq, is_eq, match_ordering}
use Rattle.std.specs.declared.cmp.Ordering.{Ordering}
use Rattle.std.specs.declared.cmp.Ordering.TheVariants.{Less, Equal, Greater}
use Rattle.items.specs.Gives.{◌>>=◌}
use Rattle.linear_terms.specs.declared.col.Col.{Col}
use Rattle.linear_terms.specs.declared.error.TermError.{TermError}
use Rattle.linear_terms.specs.TermError.{plus}
use Rattle.linear_terms.specs.Mono.{mono_cmp}
use Rattle.linear_terms.specs.Polynomial.{Terms, Polynomial, IsCanonical}
use Rattle.linear_terms.specs.Operations.{with_term, put, put_term}
use Rattle.linear_terms.specs.Lookup.{lookup, summed_term, with_coefficient}
use Rattle.linear_terms.proofs.Canonical.{Before, Before-trans, first_before, IsCanonical-tail}

-- a monomial before all of them is not there
lookup-before : (m : List Col) (ts : Terms) → Before m ts → lookup m ts ≡ None
lookup-before m [] b = refl
lookup-before m (t ∷ ts) b = ap (λ o. cond (is_eq o) (Some t.1) (lookup m ts)) b.0 ∙ lookup-before m ts b.1

remove-before : (m : List Col) (ts : Terms) → Before m ts → remove_entry (is_at (mono_cmp m)) ts ≡ ts
remove-before m [] b = refl
remove-before m (t ∷ ts) b =
    ap (λ o. cond (is_eq o) ts (t ∷ remove_entry (is_at (mono_cmp m)) ts)) b.0 ∙ ap (λ l. t ∷ l) (remove-before m ts b.1)

stored-later : (b : Bool) (t : List Col × ℤ) (x y : Terms) → cond b (t ∷ x) (t ∷ y) ≡ t ∷ cond b x y
stored-later true t x y = refl
stored-later false t x y = refl

-- where m is not there
pub put-new : (m : List Col) (c : ℤ) (ts : Terms) → IsCanonical ts → lookup m ts ≡ None → put m c ts ≡ Ok (with_coefficient m c ts)
put-new m c [] k e = refl
put-new m c (t ∷ ts) k e = go (mono_cmp m t.0) refl e (put-new m c ts (IsCanonical-tail t ts k))
  where
    go : (o : Ordering) → mono_cmp m t.0 ≡ o → cond (is_eq o) (Some t.1) (lookup m ts) ≡ None → (lookup m ts ≡ None → put m c ts ≡ Ok (with_coefficient m c ts))
        → match_ordering o (Ok (with_term m c (t ∷ ts))) (plus t.1 c >>= λ s. Ok (with_term t.0 s ts)) (put m c ts >>= λ more. Ok (t ∷ more))
        ≡ Ok (cond (int_eq c (pos 0)) (cond (is_eq o) ts (t ∷ remove_entry (is_at (mono_cmp m)) ts)) (match_ordering o ((m, c) ∷ t ∷ ts) ((t.0, c) ∷ ts) (t ∷ insert_entry mono_cmp ts m c)))
    go Less o f ih = ap (λ l. Ok (cond (int_eq c (pos 0)) (t ∷ l) ((m, c) ∷ t ∷ ts))) (sym (remove-before m ts (Before-trans m t.0 ts o (first_before t ts k))))
    go Equal o f ih = cc
    go Greater o f ih = ap (λ r. r >>= λ more. Ok (t ∷ more)) (ih f) ∙ ap (λ l. Ok l) (sym (stored-later (int_eq c (pos 0)) t (remove_entry (is_at (mono_cmp m)) ts) (insert_entry mono_cmp ts m c)))

-- where it is there with the coefficient d
pub put-had : (m : List Col) (c d : ℤ) (ts : Terms) → IsCanonical ts → lookup m ts ≡ Some d → put m c ts ≡ plus d c >>= λ s. Ok (with_coefficient m s ts)
put-had m c d [] k e = cc
put-had m c d (t ∷ ts) k e = go (mono_cmp m t.0) refl e (put-had m c d ts (IsCanonical-tail t ts k))
  where
    after : (r : Result ℤ TermError) → (r >>= λ s. Ok (with_coefficient m s ts)) >>= (λ more. Ok (t ∷ more)) ≡ r >>= λ s. Ok (cond (int_eq s (pos 0)) (t ∷ remove_entry (is_at (mono_cmp m)) ts) (t ∷ insert_entry mono_cmp ts m s))
    after (Ok s) = ap (λ l. Ok l) (sym (stored-later (int_eq s (pos 0)) t (remove_entry (is_at (mono_cmp m)) ts) (insert_entry mono_cmp ts m s)))
    after (Err e) = refl

    go : (o : Ordering) → mono_cmp m t.0 ≡ o → cond (is_eq o) (Some t.1) (lookup m ts) ≡ Some d → (lookup m ts ≡ Some d → put m c ts ≡ plus d c >>= λ s. Ok (with_coefficient m s ts))
        → match_ordering o (Ok (with_term m c (t ∷ ts))) (plus t.1 c >>= λ s. Ok (with_term t.0 s ts)) (put m c ts >>= λ more. Ok (t ∷ more))
        ≡ plus d c >>= λ s. Ok (cond (int_eq s (pos 0)) (cond (is_eq o) ts (t ∷ remove_entry (is_at (mono_cmp m)) ts)) (match_ordering o ((m, s) ∷ t ∷ ts) ((t.0, s) ∷ ts) (t ∷ insert_entry mono_cmp ts m s)))
    go Less o f ih = absurd (none_some (sym (lookup-before m ts (Before-trans m t.0 ts o (first_before t ts k))) ∙ f))
      where
        none_some : (let n : Option ℤ = None in n ≡ Some d) → ⊥
        none_some g = cc
    go Equal o f ih = let same : t.1 ≡ d = cc in ap (λ y. plus y c >>= λ s. Ok (with_term t.0 s ts)) same
    go Greater o f ih = ap (λ r. r >>= λ more. Ok (t ∷ more)) (ih f) ∙ after (plus d c)

-- ---- for the code

-- the polynomial with other terms
abbrev pub changed : Polynomial → Terms → Polynomial
changed p ts = record { terms = ts; rest = p.rest }

abbrev paired : List Col → ℤ → List Col × ℤ
paired m s = (m, s)

pub put_term-is : (m : List Col) (c : ℤ) (p : Polynomial) → IsCanonical p.terms → put_term m c p ≡ summed_term (lookup m p.terms) (m, c) >>= λ t. Ok (changed p (with_coefficient t.0 t.1 p.terms))
put_term-is m c p k = go (lookup m p.terms) refl
  where
    after : (r : Result ℤ TermError) → (r >>= λ s. Ok (with_coefficient m s p.terms)) >>= (λ ts. Ok (changed p ts)) ≡ (r >>= λ s. Ok (paired m s)) >>= λ t. Ok (changed p (with_coefficient t.0 t.1 p.terms))
    after (Ok s) = refl
    after (Err e) = refl

    go : (had : Option ℤ) → lookup m p.terms ≡ had → put_term m c p ≡ summed_term had (m, c) >>= λ t. Ok (changed p (with_coefficient t.0 t.1 p.terms))
    go None e = ap (λ r. r >>= λ ts. Ok (changed p ts)) (put-new m c p.terms k e)
    go (Some d) e = ap (λ r. r >>= λ ts. Ok (changed p ts)) (put-had m c d p.terms k e) ∙ after (plus d c)

pub ruleset put_term_is = (put_term-is)

-- no zero comes in
pub no_zero-insert : (m : List Col) (s : ℤ) (ts : Terms) → (s ≡ pos 0 → ⊥) → AllByRecursion (λ c. c ≢ pos 0) (values_of ts) → AllByRecursion (λ c. c ≢ pos 0) (values_of (insert_entry mono_cmp ts m s))
no_zero-insert m s [] h k = (h, tt)
no_zero-insert m s (t ∷ ts) h k = go (mono_cmp m t.0) (no_zero-insert m s ts h k.1)
  where
    go : (o : Ordering) → AllByRecursion (λ c. c ≢ pos 0) (values_of (insert_entry mono_cmp ts m s)) → AllByRecursion (λ c. c ≢ pos 0) (values_of (match_ordering o ((m, s) ∷ t ∷ ts) ((t.0, s) ∷ ts) (t ∷ insert_entry mono_cmp ts m s)))
    go Less ih = (h, k)
    go Equal ih = (h, k.1)
    go Greater ih = (k.0, ih)

pub no_zero-remove : (m : List Col) (ts : Terms) → AllByRecursion (λ c. c ≢ pos 0) (values_of ts) → AllByRecursion (λ c. c ≢ pos 0) (values_of (remove_entry (is_at (mono_cmp m)) ts))
no_zero-remove m [] k = tt
no_zero-remove m (t ∷ ts) k = go (is_at (mono_cmp m) t.0) (no_zero-remove m ts k.1)
  where
    go : (b : Bool) → AllByRecursion (λ c. c ≢ pos 0) (values_of (remove_entry (is_at (mono_cmp m)) ts)) → AllByRecursion (λ c. c ≢ pos 0) (values_of (cond b ts (t ∷ remove_entry (is_at (mono_cmp m)) ts)))
    go true ih = k.1
    go false ih = (k.0, ih)
