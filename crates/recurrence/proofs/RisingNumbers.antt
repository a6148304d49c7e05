-- Variables rise, and their columns stand in print order, before and after the turns; which columns
-- are not modified.
use Rattle.std.proofs.Common.{◌≡◌, ℕ, zero, suc, ◌+◌, ◌<◌, ◌≤◌, List, [], ◌∷◌, Bool, true, false, map, refl, sym, ap, subst, ◌∙◌, arith}
use Rattle.std.specs.Prelude.{Option, None, Some, if◌then◌else◌, ◌==◌, ◌||◌, not}
use Rattle.std.specs.Cmp.{nat_cmp_is}
use Rattle.std.specs.List.{AllByRecursion, filter, range_with_len}
use Rattle.std.specs.Ordering.{ordering_then}
use Rattle.std.specs.declared.cmp.Ordering.TheVariants.{Equal, Greater}
use Rattle.items.proofs.Each.{each-more, each-map, each-both}
use Rattle.linear_terms.specs.declared.col.Col.{Col}
use Rattle.linear_terms.specs.declared.col.Col.TheVariants.{At, Aux}
use Rattle.linear_terms.specs.Mono.{mono_cmp}
use Rattle.linear_terms.specs.Polynomial.{Polynomial, column_of}
use Rattle.transition_formula.specs.Transition.{Transition}
use Rattle.polyhedra.specs.Changes.{is_modified, is_exact, modified_variables, moving, occurs_in, changes_of, occurring}
use Rattle.polyhedra.proofs.Lists.{each-filter, filter-passes, unfound, same_number}
use Rattle.recurrence.specs.Star.{after_from, after}
use Rattle.recurrence.specs.Strata.{steady_columns}
use Rattle.recurrence.specs.Products.{unmodified_columns}
use Rattle.recurrence.specs.Words.{Rise, Ascend, is_among, unmodified_columns_by}

-- ---- numbers

range-above : (b a n : ℕ) → b < a → AllByRecursion (λ w. b < w) (range_with_len a n)
range-above b a zero h = tt
range-above b a (suc n) h = (h, range-above b (a + 1) n (omega arith))

range-rises : (a n : ℕ) → Rise (range_with_len a n)
range-rises a zero = tt
range-rises a (suc n) = (range-above a (a + 1) n (omega arith), range-rises (a + 1) n)

filter-rises : (test : ℕ → Bool) (vs : List ℕ) → Rise vs → Rise (filter test vs)
filter-rises test [] h = tt
filter-rises test (v ∷ vs) h = go (test v) (filter-rises test vs h.1)
  where
    go : (b : Bool) → Rise (filter test vs) → Rise (if b then v ∷ filter test vs else filter test vs)
    go true rest = (each-filter (λ w. v < w) test vs h.0, rest)
    go false rest = rest

pub modified-rises : (body : Transition) → Rise (modified_variables true body)
modified-rises body = filter-rises (is_modified true body.cases) (range_with_len 0 body.to) (range-rises 0 body.to)

pub moving-rises : (body : Transition) → Rise (moving true body)
moving-rises body = filter-rises (is_exact true body.cases) (modified_variables true body) (modified-rises body)

-- ---- columns before

entry-after : (v w : ℕ) → v < w → mono_cmp (At w ∷ []) (At v ∷ []) ≡ Greater
entry-after v w h = ap (λ o. ordering_then o Equal) (sym (nat_cmp_is w v Greater h))

auxiliary-after : (m n : ℕ) → m < n → mono_cmp (Aux n ∷ []) (Aux m ∷ []) ≡ Greater
auxiliary-after m n h = ap (λ o. ordering_then o Equal) (sym (nat_cmp_is n m Greater h))

pub entries-ascend : (vs : List ℕ) → Rise vs → Ascend (map (λ v. At v) vs)
entries-ascend [] h = tt
entries-ascend (v ∷ vs) h = (each-map (λ w. v < w) (λ d. mono_cmp (d ∷ []) (At v ∷ []) ≡ Greater) (λ w. At w) (λ w k. entry-after v w k) vs h.0, entries-ascend vs h.1)

-- ---- columns after the turns

-- an auxiliary with no number below one
record IsAuxFrom (n : ℕ) (c : Col) : Type 0 where
  number : ℕ
  from : n ≤ number
  is : c ≡ Aux number

differs : (u w : ℕ) → u < w → (u == w) ≡ false
differs u w h = grind arith

itself : (u : ℕ) → (u == u) ≡ true
itself u = grind arith

-- what comes behind a variable has the column that it has without it
skips : (n u w : ℕ) (us : List ℕ) → u < w → after_from n (u ∷ us) w ≡ after_from (n + 1) us w
skips n u w us h = ap (λ b. if b then Aux n else after_from (n + 1) us w) (differs u w h)

finds : (n u : ℕ) (us : List ℕ) → after_from n (u ∷ us) u ≡ Aux n
finds n u us = ap (λ b. if b then Aux n else after_from (n + 1) us u) (itself u)

auxiliaries-from : (test : ℕ → Bool) (n : ℕ) (us : List ℕ) → Rise us → AllByRecursion (λ w. IsAuxFrom n (after_from n us w)) (filter test us)
auxiliaries-from test n [] h = tt
auxiliaries-from test n (u ∷ us) h = go (test u) (each-more (λ w. (u < w) × IsAuxFrom (n + 1) (after_from (n + 1) us w)) (λ w. IsAuxFrom n (after_from n (u ∷ us) w))
    later (filter test us) (each-both (λ w. u < w) (λ w. IsAuxFrom (n + 1) (after_from (n + 1) us w)) (filter test us) (each-filter (λ w. u < w) test us h.0) (auxiliaries-from test (n + 1) us h.1)))
  where
    later : (w : ℕ) → (u < w) × IsAuxFrom (n + 1) (after_from (n + 1) us w) → IsAuxFrom n (after_from n (u ∷ us) w)
    later w k = record { number = k.1.number; from = let low = k.1.from in omega arith; is = skips n u w us k.0 ∙ k.1.is }

    go : (b : Bool) → AllByRecursion (λ w. IsAuxFrom n (after_from n (u ∷ us) w)) (filter test us) → AllByRecursion (λ w. IsAuxFrom n (after_from n (u ∷ us) w)) (if b then u ∷ filter test us else filter test us)
    go true rest = (record { number = n; from = omega arith; is = finds n u us }, rest)
    go false rest = rest

maps-same : (f g : ℕ → Col) (vs : List ℕ) → AllByRecursion (λ w. f w ≡ g w) vs → map f vs ≡ map g vs
maps-same f g [] h = refl
maps-same f g (v ∷ vs) h = λ i. h.0 i ∷ maps-same f g vs h.1 i

after-ascends : (test : ℕ → Bool) (n : ℕ) (us : List ℕ) → Rise us → Ascend (map (after_from n us) (filter test us))
after-ascends test n [] h = tt
after-ascends test n (u ∷ us) h = go (test u) (after-ascends test (n + 1) us h.1)
  where
    same : map (after_from n (u ∷ us)) (filter test us) ≡ map (after_from (n + 1) us) (filter test us)
    same = maps-same (after_from n (u ∷ us)) (after_from (n + 1) us) (filter test us) (each-more (λ w. u < w) (λ w. after_from n (u ∷ us) w ≡ after_from (n + 1) us w) (λ w k. skips n u w us k) (filter test us) (each-filter (λ w. u < w) test us h.0))

    rest : Ascend (map (after_from (n + 1) us) (filter test us)) → Ascend (map (after_from n (u ∷ us)) (filter test us))
    rest k = subst Ascend (sym same) k

    behind : (w : ℕ) → IsAuxFrom (n + 1) (after_from (n + 1) us w) → mono_cmp (after_from (n + 1) us w ∷ []) (after_from n (u ∷ us) u ∷ []) ≡ Greater
    behind w k = (λ i. mono_cmp (k.is i ∷ []) (finds n u us i ∷ [])) ∙ auxiliary-after n k.number (let low = k.from in omega arith)

    go-true : Ascend (map (after_from (n + 1) us) (filter test us)) → Ascend (map (after_from n (u ∷ us)) (u ∷ filter test us))
    go-true k = (
      subst (AllByRecursion (λ d. mono_cmp (d ∷ []) (after_from n (u ∷ us) u ∷ []) ≡ Greater)) (sym same)
          (each-map (λ w. IsAuxFrom (n + 1) (after_from (n + 1) us w)) (λ d. mono_cmp (d ∷ []) (after_from n (u ∷ us) u ∷ []) ≡ Greater) (after_from (n + 1) us) behind (filter test us) (auxiliaries-from test (n + 1) us h.1)),
      rest k,
    )

    go : (b : Bool) → Ascend (map (after_from (n + 1) us) (filter test us)) → Ascend (map (after_from n (u ∷ us)) (if b then u ∷ filter test us else filter test us))
    go true k = go-true k
    go false k = rest k

pub moving-ascends : (body : Transition) → Ascend (map (after body) (moving true body))
moving-ascends body = after-ascends (is_exact true body.cases) 0 (modified_variables true body) (modified-rises body)

-- ---- columns that are not modified

any-has : (P : ℕ → Type 0) (v : ℕ) (vs : List ℕ) → is_among vs v ≡ true → AllByRecursion P vs → P v
any-has P v [] e h = cc
any-has P v (u ∷ vs) e h = go (u == v) refl e (λ f. any-has P v vs f h.1)
  where
    go : (b : Bool) → (u == v) ≡ b → (b || is_among vs v) ≡ true → (is_among vs v ≡ true → P v) → P v
    go true same f rest = subst P (same_number u v same) h.0
    go false other f rest = rest f

-- a number of a range is among those that pass where it passes
among-passes : (test : ℕ → Bool) (n v : ℕ) → v < n → is_among (filter test (range_with_len 0 n)) v ≡ test v
among-passes test n v low = go (is_among (filter test (range_with_len 0 n)) v) refl
  where
    go : (b : Bool) → is_among (filter test (range_with_len 0 n)) v ≡ b → b ≡ test v
    go true e = sym (any-has (λ w. test w ≡ true) v (filter test (range_with_len 0 n)) e (filter-passes test (range_with_len 0 n)))
    go false e = sym (unfound test v 0 n e (omega arith) (omega arith))

filters-same : (s t : ℕ → Bool) (vs : List ℕ) → AllByRecursion (λ v. s v ≡ t v) vs → filter s vs ≡ filter t vs
filters-same s t [] h = refl
filters-same s t (v ∷ vs) h = λ i. if h.0 i then v ∷ filters-same s t vs h.1 i else filters-same s t vs h.1 i

range-below : (b a n : ℕ) → a + n ≤ b → AllByRecursion (λ v. v < b) (range_with_len a n)
range-below b a zero h = tt
range-below b a (suc n) h = (omega arith, range-below b (a + 1) n (omega arith))

pub steady-same : (body : Transition) → body.from ≡ body.to → filter (λ v. not (is_among (modified_variables true body) v)) (occurring true body) ≡ steady_columns body
steady-same body same =
    filters-same (λ v. not (is_among (modified_variables true body) v)) (λ v. not (is_modified true body.cases v)) (occurring true body)
    (each-more (λ v. v < body.to) (λ v. not (is_among (modified_variables true body) v) ≡ not (is_modified true body.cases v)) (λ v low. ap not (among-passes (is_modified true body.cases) body.to v low)) (occurring true body)
    (each-filter (λ v. v < body.to) (occurs_in (changes_of true body)) (range_with_len 0 body.from) (range-below body.to 0 body.from (let e = same in omega arith))))

pub modified-below : (body : Transition) → AllByRecursion (λ v. v < body.to) (modified_variables true body)
modified-below body = each-filter (λ v. v < body.to) (is_modified true body.cases) (range_with_len 0 body.to) (range-below body.to 0 body.to (omega arith))

maps-alike : (f g : ℕ → Option Polynomial) (vs : List ℕ) → AllByRecursion (λ v. f v ≡ g v) vs → map f vs ≡ map g vs
maps-alike f g [] h = refl
maps-alike f g (v ∷ vs) h = λ i. h.0 i ∷ maps-alike f g vs h.1 i

pub unchanged-same : (body : Transition) (ms : List (List Col)) → unmodified_columns_by (modified_variables true body) body.to ms ≡ unmodified_columns body ms
unchanged-same body [] = refl
unchanged-same body (m ∷ ms) =
    maps-alike (λ v. if is_among (modified_variables true body) v then None else Some (column_of (At v))) (λ v. if is_modified true body.cases v then None else Some (column_of (At v))) (range_with_len 0 body.to)
    (each-more (λ v. v < body.to) (λ v. (if is_among (modified_variables true body) v then None else Some (column_of (At v))) ≡ (if is_modified true body.cases v then None else Some (column_of (At v))))
    (λ v low. ap (λ b. if b then None else Some (column_of (At v))) (among-passes (is_modified true body.cases) body.to v low)) (range_with_len 0 body.to) (range-below body.to 0 body.to (omega arith)))
