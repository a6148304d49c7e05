-- Among rows that stand once each there is one place of an opposite row, so it alone is asked.
use Rattle.std.proofs.Common.{◌≡◌, ℕ, zero, suc, ◌+◌, ◌<◌, ◌≤◌, ◌-◌, ℤ, pos, ◌+ℤ◌, Bool, true, false, cond, length, map, get_or, set, take, drop, fold, List, [], ◌∷◌, ◌++◌, Option, Some, None, refl, sym, ap, subst, ◌∙◌, arith}
use Rattle.std.specs.Prelude.{IsTrue, ◌&&◌, ◌||◌, neg_ℤ, slice_get, nat_lt, int_lt}
use Rattle.std.specs.List.{list_any, find}
use Rattle.std.specs.Cmp.{eq_by_cmp_equiv}
use Rattle.std.specs.Cmp.Lexicographic.{pointwise}
use Rattle.std.specs.Option.{option_map}
use Rattle.std.specs.Ordering.{int_eq}
use Rattle.std.proofs.lemmas.Int.{ints}
use Rattle.std.proofs.lemmas.List.{set-get_or}
use Rattle.linear_terms.specs.declared.row.Kind.{Kind}
use Rattle.linear_terms.specs.declared.row.Kind.TheVariants.{AtMost, Equal}
use Rattle.linear_terms.specs.declared.row.Row.{Row}
use Rattle.linear_terms.specs.Equality.{term_eq, poly_eq_equiv}
use Rattle.linear_terms.specs.Polynomial.{Terms, Polynomial}
use Rattle.transition_formula.specs.Places.{RowKey, key_by, key_of, first_place, EachApart}
use Rattle.transition_formula.specs.Rows.{is_at_most, negated_terms, are_opposite, exclude, close, with_row, each_once, with_met}
use Rattle.transition_formula.proofs.AtPlaces.{key_total, same_key, key_exact, terms-tie, none_mapped, some_mapped, row-new, row-at}
use Rattle.transition_formula.proofs.ColumnTests.{both, both_true}
use Rattle.transition_formula.proofs.Fitting.{below-true, true-below}
use Rattle.transition_formula.proofs.Loops.{row_with}
use Rattle.transition_formula.proofs.Meanings.{not-below}
use Rattle.transition_formula.proofs.Truths.{terms_same}

-- ---- opposite rows

pointwise-same : (ts us : Terms) → ts ≡ us → IsTrue (pointwise term_eq ts us)
pointwise-same ts us e = (both (pointwise term_eq ts us) true (subst (λ vs. IsTrue (pointwise term_eq ts vs && true)) e (poly_eq_equiv.refl (record { terms = ts; rest = pos 0 })))).0

negated-negated : (ts : Terms) → negated_terms (negated_terms ts) ≡ ts
negated-negated [] = refl
negated-negated (t ∷ ts) = λ i. (t.0, back t.1 i) ∷ negated-negated ts i
  where
    back : (z : ℤ) → neg_ℤ (neg_ℤ z) ≡ z
    back z = omega (arith, ints)

pub opposite-turned : (r s : Row) → IsTrue (are_opposite r s) → IsTrue (are_opposite s r)
opposite-turned r s h =
    let parts = both (is_at_most r.kind && is_at_most s.kind) (pointwise term_eq (negated_terms r.poly.terms) s.poly.terms) h in
    let kinds = both (is_at_most r.kind) (is_at_most s.kind) parts.0 in
    let same = terms_same (negated_terms r.poly.terms) s.poly.terms parts.1 in
    both_true (is_at_most s.kind && is_at_most r.kind) (pointwise term_eq (negated_terms s.poly.terms) r.poly.terms) (both_true (is_at_most s.kind) (is_at_most r.kind) kinds.1 kinds.0)
    (pointwise-same (negated_terms s.poly.terms) r.poly.terms (ap negated_terms (sym same) ∙ negated-negated r.poly.terms))

abbrev pub opposite_key : Row → RowKey
opposite_key r = (None, negated_terms r.poly.terms)

opposite-keys : (p q : Polynomial) (l : Kind) → same_key (opposite_key (row_with p AtMost)) (key_by l q) ≡ are_opposite (row_with p AtMost) (row_with q l)
opposite-keys p q AtMost = sym (terms-tie (negated_terms p.terms) q.terms)
opposite-keys p q Equal = refl

opposite-key : (r s : Row) → r.kind ≡ AtMost → same_key (opposite_key r) (key_of s) ≡ are_opposite r s
opposite-key r s e = opposite-keys r.poly s.poly s.kind ∙ ap (λ k. is_at_most k && is_at_most s.kind && pointwise term_eq (negated_terms r.poly.terms) s.poly.terms) (sym e)

-- ---- first places

first_place-map : (test : RowKey → Bool) (other : Row → Bool) → ((r : Row) → test (key_of r) ≡ other r) → (rows : List Row) → first_place test (map key_of rows) ≡ first_place other rows
first_place-map test other same [] = refl
first_place-map test other same (r ∷ rows) = λ i. cond (same r i) (Some 0) (option_map (λ n. n + 1) (first_place-map test other same rows i))

pub opposite_by_key : (r : Row) (rows : List Row) → r.kind ≡ AtMost → first_place (same_key (opposite_key r)) (map key_of rows) ≡ first_place (are_opposite r) rows
opposite_by_key r rows e = first_place-map (same_key (opposite_key r)) (are_opposite r) (λ s. opposite-key r s e) rows

pub no_opposite : (r : Row) (rows : List Row) → r.kind ≡ Equal → first_place (are_opposite r) rows ≡ None
no_opposite r [] e = refl
no_opposite r (s ∷ rows) e =
    let never : are_opposite r s ≡ false = ap (λ k. is_at_most k && is_at_most s.kind && pointwise term_eq (negated_terms r.poly.terms) s.poly.terms) e in
    (λ i. cond (never i) (Some 0) (option_map (λ n. n + 1) (no_opposite r rows e i)))

-- what is found passes
pub record FoundAt {X : Type 0} (test : X → Bool) (xs : List X) (i : ℕ) : Type 0 where
  pub within : i < length xs
  pub passes : (d : X) → IsTrue (test (get_or xs i d))

pub found_at : {X : Type 0} (test : X → Bool) (xs : List X) (i : ℕ) → first_place test xs ≡ Some i → FoundAt test xs i
found_at test [] i e = cc
found_at {X} test (x ∷ xs) i e = go (test x) refl e (λ j f. found_at test xs j f)
  where
    go : (b : Bool) → test x ≡ b → cond b (Some 0) (option_map (λ n. n + 1) (first_place test xs)) ≡ Some i → ((j : ℕ) → first_place test xs ≡ Some j → FoundAt test xs j) → FoundAt test (x ∷ xs) i
    go true t f ih = let same : 0 ≡ i = cc in subst (FoundAt test (x ∷ xs)) same record { within = omega arith; passes = λ d. t }
    go false t f ih =
        some_mapped (first_place test xs) i f
        (λ j g same. let at = ih j g in let lt = at.within in subst (FoundAt test (x ∷ xs)) (sym same) record { within = omega arith; passes = λ d. at.passes d })

-- nothing passes where nothing is found
pub none_at : {X : Type 0} (test : X → Bool) (xs : List X) (k : ℕ) (x : X) → first_place test xs ≡ None → slice_get xs k ≡ Some x → IsTrue (test x) → ⊥
none_at test [] k x e g h = cc
none_at test (y ∷ xs) zero x e g h = let same : y ≡ x = cc in clash (test y) e (subst (λ z. IsTrue (test z)) (sym same) h)
  where
    clash : (b : Bool) → cond b (Some 0) (option_map (λ n. n + 1) (first_place test xs)) ≡ None → b ≡ true → ⊥
    clash true f k = cc
    clash false f k = cc
none_at test (y ∷ xs) (suc k) x e g h = none_at test xs k x (later (test y) e) g h
  where
    later : (b : Bool) → cond b (Some 0) (option_map (λ n. n + 1) (first_place test xs)) ≡ None → first_place test xs ≡ None
    later true f = cc
    later false f = none_mapped (first_place test xs) f

-- ---- one place for a key

key-at : (rows : List Row) (k : ℕ) (r : Row) → slice_get rows k ≡ Some r → slice_get (map key_of rows) k ≡ Some (key_of r)
key-at [] k r e = cc
key-at (s ∷ rows) zero r e = let same : s ≡ r = cc in ap (λ x. Some (key_of x)) same
key-at (s ∷ rows) (suc k) r e = key-at rows k r e

own_key : (k : RowKey) → IsTrue (same_key k k)
own_key k = (eq_by_cmp_equiv key_total).refl k

one_place : (keys : List RowKey) (j k : ℕ) (q : RowKey) → EachApart keys → slice_get keys j ≡ Some q → slice_get keys k ≡ Some q → j ≡ k
one_place [] j k q apart e f = cc
one_place (x ∷ keys) zero zero q apart e f = refl
one_place (x ∷ keys) zero (suc k) q apart e f = let same : x ≡ q = cc in absurd (none_at (same_key x) keys k q apart.0 f (subst (λ z. IsTrue (same_key x z)) same (own_key x)))
one_place (x ∷ keys) (suc j) zero q apart e f = let same : x ≡ q = cc in absurd (none_at (same_key x) keys j q apart.0 e (subst (λ z. IsTrue (same_key x z)) same (own_key x)))
one_place (x ∷ keys) (suc j) (suc k) q apart e f = ap suc (one_place keys j k q apart.1 e f)

inequality : (r s : Row) → IsTrue (are_opposite r s) → r.kind ≡ AtMost
inequality r s h = go r.kind refl (both (is_at_most r.kind) (is_at_most s.kind) (both (is_at_most r.kind && is_at_most s.kind) (pointwise term_eq (negated_terms r.poly.terms) s.poly.terms) h).0).0
  where
    go : (k : Kind) → r.kind ≡ k → IsTrue (is_at_most k) → r.kind ≡ AtMost
    go AtMost e f = e
    go Equal e f = cc

opposite-has : (r s : Row) → IsTrue (are_opposite r s) → key_of s ≡ opposite_key r
opposite-has r s h = sym (key_exact (opposite_key r) (key_of s) (opposite-key r s (inequality r s h) ∙ h))

-- ---- each once, no key stands twice

apart-behind : (keys : List RowKey) (q : RowKey) → EachApart keys → first_place (same_key q) keys ≡ None → EachApart (keys ++ q ∷ [])
apart-behind [] q apart e = (refl, tt)
apart-behind (k ∷ keys) q apart e = go (same_key q k) refl e (λ f. apart-behind keys q apart.1 f)
  where
    behind : (ks : List RowKey) → same_key k q ≡ false → first_place (same_key k) ks ≡ None → first_place (same_key k) (ks ++ q ∷ []) ≡ None
    behind [] f g = ap (λ b. cond b (Some 0) None) f
    behind (x ∷ ks) f g = step (same_key k x) g (λ h. behind ks f h)
      where
        step : (b : Bool) → cond b (Some 0) (option_map (λ n. n + 1) (first_place (same_key k) ks)) ≡ None → (first_place (same_key k) ks ≡ None → first_place (same_key k) (ks ++ q ∷ []) ≡ None)
            → cond b (Some 0) (option_map (λ n. n + 1) (first_place (same_key k) (ks ++ q ∷ []))) ≡ None
        step true h ih = cc
        step false h ih = ap (option_map (λ n. n + 1)) (ih (none_mapped (first_place (same_key k) ks) h))

    go : (b : Bool) → same_key q k ≡ b → cond b (Some 0) (option_map (λ n. n + 1) (first_place (same_key q) keys)) ≡ None → (first_place (same_key q) keys ≡ None → EachApart (keys ++ q ∷ [])) → EachApart (k ∷ (keys ++ q ∷ []))
    go true f g ih = cc
    go false f g ih = (behind keys ((eq_by_cmp_equiv key_total).symm k q ∙ f) apart.0, ih (none_mapped (first_place (same_key q) keys) g))

keys-append : (rows : List Row) (s : Row) → map key_of (rows ++ s ∷ []) ≡ map key_of rows ++ key_of s ∷ []
keys-append [] s = refl
keys-append (r ∷ rows) s = ap (λ k. key_of r ∷ k) (keys-append rows s)

with_row-apart : (rows : List Row) (s : Row) → EachApart (map key_of rows) → EachApart (map key_of (with_row rows s))
with_row-apart rows s apart = go (first_place (same_key (key_of s)) (map key_of rows)) refl
  where
    kept : (b : Bool) (i : ℕ) (keys : map key_of (set rows i s) ≡ map key_of rows) → map key_of (set rows i (cond b s (get_or rows i s))) ≡ map key_of rows
    kept true i keys = keys
    kept false i keys = ap (map key_of) (set-get_or rows i s)

    go : (o : Option ℕ) → first_place (same_key (key_of s)) (map key_of rows) ≡ o → EachApart (map key_of (with_row rows s))
    go None e = subst EachApart (sym (ap (map key_of) (row-new rows s e) ∙ keys-append rows s)) (apart-behind (map key_of rows) (key_of s) apart e)
    go (Some i) e =
        let put = row-at rows s s i e in
        subst EachApart (sym (ap (map key_of) put.made ∙ kept (int_lt (get_or rows i s).poly.rest s.poly.rest) i put.keys)) apart

fold-apart : (front rows : List Row) → EachApart (map key_of front) → EachApart (map key_of (fold with_row front rows))
fold-apart front [] apart = apart
fold-apart front (s ∷ rows) apart = fold-apart (with_row front s) rows (with_row-apart front s apart)

pub each_once-apart : (rows made : List Row) → made ≡ each_once rows → EachApart (map key_of made)
each_once-apart rows made e = subst (λ l. EachApart (map key_of l)) (sym e) (fold-apart [] rows tt)

-- ---- searches of which at most one place can pass

get-drop : {X : Type 0} (xs : List X) (n k : ℕ) (x : X) → slice_get (drop n xs) k ≡ Some x → slice_get xs (n + k) ≡ Some x
get-drop xs zero k x e = let same : k ≡ zero + k = omega arith in subst (λ i. slice_get xs i ≡ Some x) same e
get-drop [] (suc n) k x e = cc
get-drop (y ∷ xs) (suc n) k x e = let same : suc (n + k) ≡ suc n + k = omega arith in subst (λ i. slice_get (y ∷ xs) i ≡ Some x) same (get-drop xs n k x e)

get-take : {X : Type 0} (xs : List X) (n k : ℕ) (x : X) → slice_get (take n xs) k ≡ Some x → (k < n) × (slice_get xs k ≡ Some x)
get-take [] zero k x e = cc
get-take [] (suc n) k x e = cc
get-take (y ∷ xs) zero k x e = cc
get-take (y ∷ xs) (suc n) zero x e = (omega arith, e)
get-take (y ∷ xs) (suc n) (suc k) x e = let more = get-take xs n k x e in (let lt = more.0 in omega arith, more.1)

none_passes : {X : Type 0} (test : X → Bool) (xs : List X) → ((k : ℕ) (x : X) → slice_get xs k ≡ Some x → IsTrue (test x) → ⊥) → (find test xs ≡ None) × (list_any test xs ≡ false)
none_passes test [] never = (refl, refl)
none_passes test (x ∷ xs) never = go (test x) refl (none_passes test xs (λ k y e h. never (suc k) y e h))
  where
    go : (b : Bool) → test x ≡ b → (find test xs ≡ None) × (list_any test xs ≡ false) → (cond b (Some x) (find test xs) ≡ None) × (b || list_any test xs ≡ false)
    go true t ih = absurd (never 0 x refl t)
    go false t ih = ih

one_passes : {X : Type 0} (test : X → Bool) (xs : List X) (j : ℕ) (x : X) → slice_get xs j ≡ Some x → IsTrue (test x) → ((k : ℕ) (y : X) → slice_get xs k ≡ Some y → IsTrue (test y) → k ≡ j) → (find test xs ≡ Some x) × (list_any test xs ≡ true)
one_passes test [] j x e h one = cc
one_passes test (y ∷ xs) zero x e h one = let same : y ≡ x = cc in let t : test y ≡ true = subst (λ z. IsTrue (test z)) (sym same) h in (ap (λ b. cond b (Some y) (find test xs)) t ∙ ap (λ z. Some z) same, ap (λ b. b || list_any test xs) t)
one_passes test (y ∷ xs) (suc j) x e h one = go (test y) refl (one_passes test xs j x e h (λ k z f g. let at = one (suc k) z f g in omega (arith, at)))
  where
    go : (b : Bool) → test y ≡ b → (find test xs ≡ Some x) × (list_any test xs ≡ true) → (cond b (Some y) (find test xs) ≡ Some x) × (b || list_any test xs ≡ true)
    go true t ih = let at = one 0 y refl t in absurd (omega (arith, at))
    go false t ih = ih

in_list : {X : Type 0} (xs : List X) (j : ℕ) (d : X) → j < length xs → slice_get xs j ≡ Some (get_or xs j d)
in_list [] j d lt = absurd (omega arith)
in_list (x ∷ xs) zero d lt = refl
in_list (x ∷ xs) (suc j) d lt = in_list xs j d (omega arith)

drop-get : {X : Type 0} (xs : List X) (n j : ℕ) (x : X) → n ≤ j → slice_get xs j ≡ Some x → slice_get (drop n xs) (j - n) ≡ Some x
drop-get xs zero j x le e = let same : j ≡ j - zero = omega arith in subst (λ i. slice_get xs i ≡ Some x) same e
drop-get [] (suc n) j x le e = cc
drop-get (y ∷ xs) (suc n) zero x le e = absurd (omega arith)
drop-get (y ∷ xs) (suc n) (suc j) x le e = let same : j - n ≡ suc j - suc n = omega arith in subst (λ i. slice_get (drop n xs) i ≡ Some x) same (drop-get xs n j x (omega arith) e)

take-get : {X : Type 0} (xs : List X) (n j : ℕ) (x : X) → j < n → slice_get xs j ≡ Some x → slice_get (take n xs) j ≡ Some x
take-get [] n j x lt e = cc
take-get (y ∷ xs) zero j x lt e = absurd (omega arith)
take-get (y ∷ xs) (suc n) zero x lt e = e
take-get (y ∷ xs) (suc n) (suc j) x lt e = take-get xs n j x (omega arith) e

-- ---- the one opposite row

module _ (r : Row) (rows : List Row) (apart : EachApart (map key_of rows)) (i : ℕ) where
  -- the row at j is the one opposite row
  pub record Only (j : ℕ) (s : Row) : Type 0 where
    pub at : slice_get rows j ≡ Some s
    pub alone : (k : ℕ) (x : Row) → slice_get rows k ≡ Some x → IsTrue (are_opposite r x) → k ≡ j

  pub only : (j : ℕ) (s : Row) → first_place (are_opposite r) rows ≡ Some j → s ≡ get_or rows j s → Only j s
  only j s e same =
      let found = found_at (are_opposite r) rows j e in
      let at : slice_get rows j ≡ Some s = in_list rows j s found.within ∙ ap (λ x. Some x) (sym same) in
      let passes : IsTrue (are_opposite r s) = subst (λ x. IsTrue (are_opposite r x)) (sym same) (found.passes s) in
      record {
        at = at;
        alone = λ k x f h. one_place (map key_of rows) k j (opposite_key r) apart (key-at rows k x f ∙ ap (λ q. Some q) (opposite-has r x h)) (key-at rows j s at ∙ ap (λ q. Some q) (opposite-has r s passes));
      }

  -- a test that only opposite rows pass
  module _ (test : Row → Bool) (opposite : (x : Row) → IsTrue (test x) → IsTrue (are_opposite r x)) where
    pub none-later : first_place (are_opposite r) rows ≡ None → (find test (drop (i + 1) rows) ≡ None) × (list_any test (drop (i + 1) rows) ≡ false)
    none-later e = none_passes test (drop (i + 1) rows) (λ k x f h. none_at (are_opposite r) rows (i + 1 + k) x e (get-drop rows (i + 1) k x f) (opposite x h))

    pub none-before : first_place (are_opposite r) rows ≡ None → list_any test (take i rows) ≡ false
    none-before e = (none_passes test (take i rows) (λ k x f h. none_at (are_opposite r) rows k x e (get-take rows i k x f).1 (opposite x h))).1

    module _ (j : ℕ) (s : Row) (one : Only j s) where
      is_it : (k : ℕ) (x : Row) → slice_get rows k ≡ Some x → IsTrue (test x) → (k ≡ j) × IsTrue (test s)
      is_it k x f h =
          let at = one.alone k x f (opposite x h) in
          (at, subst (λ y. IsTrue (test y)) (some_same x s (sym f ∙ ap (slice_get rows) at ∙ one.at)) h)
        where
          some_same : (x y : Row) → Some x ≡ Some y → x ≡ y
          some_same x y e = cc

      never : (a b : Bool) → IsTrue b → a && b ≡ false → a ≡ false
      never true true h e = cc
      never true false h e = cc
      never false b h e = refl

      at_later : (nat_lt i j && test s ≡ false) → (find test (drop (i + 1) rows) ≡ None) × (list_any test (drop (i + 1) rows) ≡ false)
      at_later no_pass =
          none_passes test (drop (i + 1) rows)
          (λ k x f h.
          let it = is_it (i + 1 + k) x (get-drop rows (i + 1) k x f) h in
          let at = it.0 in
          clash (nat_lt i j) (below-true i j (omega (arith, at))) (never (nat_lt i j) (test s) it.1 no_pass))
        where
          clash : (b : Bool) → b ≡ true → b ≡ false → ⊥
          clash true e f = cc
          clash false e f = cc

      later-hits : i < j → IsTrue (test s) → (find test (drop (i + 1) rows) ≡ Some s) × (list_any test (drop (i + 1) rows) ≡ true)
      later-hits lt pass =
          one_passes test (drop (i + 1) rows) (j - (i + 1)) s (drop-get rows (i + 1) j s (omega arith) one.at) pass
          (λ k y f h. let at = one.alone (i + 1 + k) y (get-drop rows (i + 1) k y f) (opposite y h) in omega (arith, at))

      pub later-are : (find test (drop (i + 1) rows) ≡ cond (nat_lt i j && test s) (Some s) None) × (list_any test (drop (i + 1) rows) ≡ nat_lt i j && test s)
      later-are = go (nat_lt i j && test s) refl
        where
          go : (b : Bool) → (nat_lt i j && test s) ≡ b → (find test (drop (i + 1) rows) ≡ cond b (Some s) None) × (list_any test (drop (i + 1) rows) ≡ b)
          go true e = let parts = both (nat_lt i j) (test s) e in later-hits (true-below i j parts.0) parts.1
          go false e = at_later e

      at_before : (nat_lt j i && test s ≡ false) → list_any test (take i rows) ≡ false
      at_before no_pass =
          (none_passes test (take i rows)
          (λ k x f h.
          let two = get-take rows i k x f in
          let below = two.0 in
          let it = is_it k x two.1 h in
          let at = it.0 in
          clash (nat_lt j i) (below-true j i (omega (arith, at, below))) (never (nat_lt j i) (test s) it.1 no_pass))).1
        where
          clash : (b : Bool) → b ≡ true → b ≡ false → ⊥
          clash true e f = cc
          clash false e f = cc

      pub before-are : list_any test (take i rows) ≡ nat_lt j i && test s
      before-are = go (nat_lt j i && test s) refl
        where
          go : (b : Bool) → (nat_lt j i && test s) ≡ b → list_any test (take i rows) ≡ b
          go true e =
              let parts = both (nat_lt j i) (test s) e in
              (one_passes test (take i rows) j s (take-get rows i j s (true-below j i parts.0) one.at) parts.1 (λ k y f h. one.alone k y (get-take rows i k y f).1 (opposite y h))).1
          go false e = at_before e

-- the tests that are asked
pub excluding : (r x : Row) → IsTrue (exclude r x) → IsTrue (are_opposite r x)
excluding r x h = (both (are_opposite r x) (int_lt (pos 0) (r.poly.rest +ℤ x.poly.rest)) h).0

pub closing_later : (r x : Row) → IsTrue (close r x) → IsTrue (are_opposite r x)
closing_later r x h = (both (are_opposite r x) (int_eq (r.poly.rest +ℤ x.poly.rest) (pos 0)) h).0

pub closing_before : (r x : Row) → IsTrue (close x r) → IsTrue (are_opposite r x)
closing_before r x h = opposite-turned x r (both (are_opposite x r) (int_eq (x.poly.rest +ℤ r.poly.rest) (pos 0)) h).0

-- ---- for the code

module _ (r : Row) (rows : List Row) (apart : EachApart (map key_of rows)) (i : ℕ) where
  pub excludes_none : None ≡ first_place (are_opposite r) rows → false ≡ list_any (exclude r) (drop (i + 1) rows)
  excludes_none e = sym (none-later r rows apart i (exclude r) (excluding r) (sym e)).1

  pub met_none : None ≡ first_place (are_opposite r) rows → r ∷ [] ≡ with_met r (list_any (λ s. close s r) (take i rows)) (find (close r) (drop (i + 1) rows)) []
  met_none e = λ k. with_met r (sym (none-before r rows apart i (λ s. close s r) (closing_before r) (sym e)) k) (sym (none-later r rows apart i (close r) (closing_later r) (sym e)).0 k) []

  module _ (j : ℕ) (s : Row) (e : Some j ≡ first_place (are_opposite r) rows) (same : s ≡ get_or rows j s) where
    one : Only r rows apart i j s
    one = only r rows apart i j s (sym e) same

    pub excludes_one : nat_lt i j && exclude r s ≡ list_any (exclude r) (drop (i + 1) rows)
    excludes_one = sym (later-are r rows apart i (exclude r) (excluding r) j s one).1

    pub met_one : with_met r (nat_lt j i && close s r) (cond (nat_lt i j && close r s) (Some s) None) [] ≡ with_met r (list_any (λ s. close s r) (take i rows)) (find (close r) (drop (i + 1) rows)) []
    met_one = λ k. with_met r (sym (before-are r rows apart i (λ x. close x r) (closing_before r) j s one) k) (sym (later-are r rows apart i (close r) (closing_later r) j s one).0 k) []

  pub excludes_behind : (j : ℕ) → Some j ≡ first_place (are_opposite r) rows → j ≤ i → false ≡ list_any (exclude r) (drop (i + 1) rows)
  excludes_behind j e le =
      let found = found_at (are_opposite r) rows j (sym e) in
      let s = get_or rows j r in
      let same : s ≡ get_or rows j s = any_default rows j r s found.within in
      ap (λ b. b && exclude r s) (sym (not-below i j le)) ∙ excludes_one j s e same
    where
      any_default : (xs : List Row) (j : ℕ) (d x : Row) → j < length xs → get_or xs j d ≡ get_or xs j x
      any_default [] j d x lt = absurd (omega arith)
      any_default (y ∷ xs) zero d x lt = refl
      any_default (y ∷ xs) (suc j) d x lt = any_default xs j d x (omega arith)
