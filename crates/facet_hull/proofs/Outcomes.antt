-- The cases of a body's hull, and what its outcome says of them.
use Rattle.std.proofs.Common.{◌≡◌, ℕ, zero, suc, ◌+◌, ◌<◌, Bool, true, false, refl, sym, ap, ◌∙◌, arith, List, [], ◌∷◌, ◌++◌, length, map, take, Result, Ok, Err, ℤ, negsuc}
use Rattle.std.specs.Prelude.{All, IsTrue, ◌==◌, ◌&&◌, Option, None, Some, if◌then◌else◌}
use Rattle.std.specs.List.{AllByRecursion, filter, flat_map, list_all, range_with_len}
use Rattle.std.specs.Result.{is_ok}
use Rattle.std.proofs.lemmas.List.{length-map}
use Rattle.std.proofs.lemmas.List.Elements.{All-from_recursion}
use Rattle.items.specs.Gives.{◌>>=◌, err_map}
use Rattle.whole_numbers.specs.Fits.{sum_of, product_of}
use Rattle.whole_numbers.specs.declared.wide.Wide as Step
use Rattle.linear_terms.specs.declared.error.TermError.{TermError}
use Rattle.linear_terms.specs.declared.error.TermError.TheVariants as term_error
use Rattle.linear_terms.specs.declared.row.Case.{Case}
use Rattle.linear_terms.specs.Expressions.{or_zero}
use Rattle.linear_terms.specs.Operations.{with_term, put, put_all, times_each, multiple_of, sum_of_polys, difference_of_polys}
use Rattle.linear_terms.specs.Polynomial.{Terms, Polynomial, column_of}
use Rattle.linear_terms.specs.declared.col.Col.{Col}
use Rattle.linear_terms.specs.declared.col.Col.TheVariants.{At}
use Rattle.linear_terms.specs.Mono.{mono_cmp}
use Rattle.linear_terms.specs.TermError.{plus, times, wide}
use Rattle.std.specs.Ordering.{match_ordering}
use Rattle.std.specs.declared.cmp.Ordering.{Ordering}
use Rattle.std.specs.declared.cmp.Ordering.TheVariants.{Less, Equal, Greater}
use Rattle.farkas_check.specs.Relations.{has_count, have_equally_many}
use Rattle.farkas_check.specs.declared.answer.Limit.{Limit as AnswerLimit}
use Rattle.farkas_check.specs.declared.answer.Limit.TheVariants as limit
use Rattle.transition_formula.specs.Loss.{losses_of}
use Rattle.transition_formula.specs.Transition.{Transition}
use Rattle.transition_formula.specs.declared.loss.Loss.{Loss}
use Rattle.transition_formula.specs.declared.loss.Loss.TheVariants as loss
use Rattle.posing.specs.Logs.{loss_notes}
use Rattle.polyhedra.specs.Changes.{poly_at, change, changes_in, is_exact, is_modified, lost_changes, modified_variables}
use Rattle.polyhedra.proofs.Lists.{each-filter}
use Rattle.facet_hull.specs.Facets.{hull_cases, is_beyond, first_limit, facets_by, limit_or, Rise}
use Rattle.facet_hull.specs.InBits as in_bits
use Rattle.facet_hull.specs.Laws.{KnowsAllChanges}
use Rattle.facet_hull.specs.declared.outcome.Facets.{Facets}
use Rattle.facet_hull.specs.declared.outcome.Facets.TheVariants.{Normals, Beyond, Limit}

-- ---- variables

range-above : (b a n : ℕ) → b < a → AllByRecursion (λ w. b < w) (range_with_len a n)
range-above b a zero h = tt
range-above b a (suc n) h = (h, range-above b (a + 1) n (omega arith))

range-below : (b a n : ℕ) → a + n ≡ b → AllByRecursion (λ w. w < b) (range_with_len a n)
range-below b a zero h = tt
range-below b a (suc n) h = (omega (arith, h), range-below b (a + 1) n (omega (arith, h)))

range-rises : (a n : ℕ) → Rise (range_with_len a n)
range-rises a zero = tt
range-rises a (suc n) = (range-above a (a + 1) n (omega arith), range-rises (a + 1) n)

filter-rises : (test : ℕ → Bool) (vs : List ℕ) → Rise vs → Rise (filter test vs)
filter-rises test [] h = tt
filter-rises test (v ∷ vs) h = go (test v) (filter-rises test vs h.1)
  where
    go : (b : Bool) → Rise (filter test vs) → Rise (if b then v ∷ filter test vs else filter test vs)
    go true rest = (each-filter (λ w. v < w) test vs h.0, rest)
    go false rest = rest

pub modified-rises : (body : Transition) → Rise (modified_variables true body)
modified-rises body = filter-rises (is_modified true body.cases) (range_with_len 0 body.to) (range-rises 0 body.to)

pub modified-below : (body : Transition) → All (λ v. v < body.to) (modified_variables true body)
modified-below body = All-from_recursion (λ v. v < body.to) (modified_variables true body) (each-filter (λ v. v < body.to) (is_modified true body.cases) (range_with_len 0 body.to) (range-below body.to 0 body.to (omega arith)))

-- ---- cases

-- each case has as many terms as the first
pub cases-equally_many : (vs : List ℕ) (cases : List Case) → IsTrue (have_equally_many (map (changes_in true vs) cases))
cases-equally_many vs [] = refl
cases-equally_many vs (case ∷ cases) = all (case ∷ cases)
  where
    many : ℕ
    many = length (map (λ v. or_zero (change true case v)) vs)

    same : (n : ℕ) → (n == n) ≡ true
    same n = grind arith

    counted : (c : Case) → (length (map (λ v. or_zero (change true c v)) vs) == many) ≡ true
    counted c = ap (λ n. n == many) (length-map vs (λ v. or_zero (change true c v)) ∙ sym (length-map vs (λ v. or_zero (change true case v)))) ∙ same many

    all : (cases : List Case) → IsTrue (list_all (has_count many) (map (changes_in true vs) cases))
    all [] = refl
    all (c ∷ cases) = (λ i. counted c i && list_all (has_count many) (map (changes_in true vs) cases)) ∙ all cases

-- ---- changes that cannot be made

-- what is made, or a step out of 128 bits
abbrev IsMadeOrWide : {X : Type 0} → Result X TermError → Type 0
IsMadeOrWide (Ok x) = Unit {0}
IsMadeOrWide (Err (term_error.Wide left right times)) = Unit {0}
IsMadeOrWide (Err term_error.Degree) = ⊥
IsMadeOrWide (Err term_error.Memory) = ⊥

wide-bind : {X Y : Type 0} (r : Result X TermError) (f : X → Result Y TermError) → IsMadeOrWide r → ((x : X) → IsMadeOrWide (f x)) → IsMadeOrWide (r >>= f)
wide-bind (Ok x) f h k = k x
wide-bind (Err (term_error.Wide left right times)) f h k = tt
wide-bind (Err term_error.Degree) f h k = h
wide-bind (Err term_error.Memory) f h k = h

wide-step : (r : Result ℤ Step.Wide) → IsMadeOrWide (err_map wide r)
wide-step (Ok z) = tt
wide-step (Err step) = tt

wide-put : (m : List Col) (c : ℤ) (ts : Terms) → IsMadeOrWide (put m c ts)
wide-put m c [] = tt
wide-put m c (t ∷ ts) = go (mono_cmp m t.0) (wide-bind (put m c ts) (λ made. Ok (t ∷ made)) (wide-put m c ts) (λ made. tt))
  where
    go : (o : Ordering) → IsMadeOrWide (put m c ts >>= λ made. Ok (t ∷ made)) → IsMadeOrWide (match_ordering o (Ok (with_term m c (t ∷ ts))) (plus t.1 c >>= λ s. Ok (with_term t.0 s ts)) (put m c ts >>= λ made. Ok (t ∷ made)))
    go Less rest = tt
    go Equal rest = wide-bind (plus t.1 c) (λ s. Ok (with_term t.0 s ts)) (wide-step (sum_of t.1 c)) (λ s. tt)
    go Greater rest = rest

wide-put_all : (more ts : Terms) → IsMadeOrWide (put_all ts more)
wide-put_all [] ts = tt
wide-put_all (t ∷ more) ts = wide-bind (put t.0 t.1 ts) (λ made. put_all made more) (wide-put t.0 t.1 ts) (λ made. wide-put_all more made)

wide-times_each : (ts : Terms) (by : ℤ) → IsMadeOrWide (times_each ts by)
wide-times_each [] by = tt
wide-times_each (t ∷ ts) by = wide-bind (times t.1 by) (λ c. times_each ts by >>= λ made. Ok (with_term t.0 c made)) (wide-step (product_of t.1 by)) (λ c. wide-bind (times_each ts by) (λ made. Ok (with_term t.0 c made)) (wide-times_each ts by) (λ made. tt))

wide-sum : (a b : Polynomial) → IsMadeOrWide (sum_of_polys a b)
wide-sum a b = wide-bind (put_all a.terms b.terms) (λ ts. plus a.rest b.rest >>= λ r. Ok record { terms = ts; rest = r }) (wide-put_all b.terms a.terms) (λ ts. wide-bind (plus a.rest b.rest) (λ r. Ok record { terms = ts; rest = r }) (wide-step (sum_of a.rest b.rest)) (λ r. tt))

wide-difference : (a b : Polynomial) → IsMadeOrWide (difference_of_polys a b)
wide-difference a b = wide-bind (multiple_of b (negsuc 0)) (sum_of_polys a)
    (wide-bind (times_each b.terms (negsuc 0)) (λ ts. times b.rest (negsuc 0) >>= λ r. Ok record { terms = ts; rest = r }) (wide-times_each b.terms (negsuc 0)) (λ ts. wide-bind (times b.rest (negsuc 0)) (λ r. Ok record { terms = ts; rest = r }) (wide-step (product_of b.rest (negsuc 0))) (λ r. tt)))
    (wide-sum a)

wide-change : (case : Case) (v : ℕ) → IsMadeOrWide (change true case v)
wide-change case v = wide-difference (poly_at case.post v) (column_of (At v))

-- ---- where no limit is noted

-- the losses of a variable's change in the cases
abbrev losses_in : List Case → ℕ → List Loss
losses_in cases v = flat_map (λ case. losses_of (change true case v)) cases

some_limit : (limit : AnswerLimit) → ◌≡◌ {A = Option AnswerLimit} (Some limit) None → ⊥
some_limit limit e = cc

-- no limit among the losses of one variable: its change is made in each case
exact_where_none : (cases : List Case) (v : ℕ) → first_limit (loss_notes (take 1 (losses_in cases v))) ≡ None → is_exact true cases v ≡ true
exact_where_none [] v e = refl
exact_where_none (case ∷ cases) v e = go (change true case v) (wide-change case v) e (exact_where_none cases v)
  where
    go : (r : Result Polynomial TermError) → IsMadeOrWide r → first_limit (loss_notes (take 1 (losses_of r ++ losses_in cases v))) ≡ None
        → (first_limit (loss_notes (take 1 (losses_in cases v))) ≡ None → is_exact true cases v ≡ true) → (is_ok r && is_exact true cases v) ≡ true
    go (Ok p) h e rest = rest e
    go (Err (term_error.Wide left right times)) h e rest = absurd (some_limit (limit.Wide left right times) e)
    go (Err term_error.Degree) h e rest = absurd h
    go (Err term_error.Memory) h e rest = absurd h

none_in_front : (xs ys : List Loss) → first_limit (loss_notes (xs ++ ys)) ≡ None → first_limit (loss_notes xs) ≡ None
none_in_front [] ys e = refl
none_in_front (loss.Wide left right times ∷ xs) ys e = absurd (some_limit (limit.Wide left right times) e)
none_in_front (loss.Degree ∷ xs) ys e = none_in_front xs ys e

none_behind : (xs ys : List Loss) → first_limit (loss_notes (xs ++ ys)) ≡ None → first_limit (loss_notes ys) ≡ None
none_behind [] ys e = e
none_behind (loss.Wide left right times ∷ xs) ys e = absurd (some_limit (limit.Wide left right times) e)
none_behind (loss.Degree ∷ xs) ys e = none_behind xs ys e

-- no limit among all losses: each of the variables moves
all_move : (cases : List Case) (vs : List ℕ) → first_limit (loss_notes (flat_map (λ v. take 1 (losses_in cases v)) vs)) ≡ None → filter (is_exact true cases) vs ≡ vs
all_move cases [] e = refl
all_move cases (v ∷ vs) e =
    ap (λ b. if b then v ∷ filter (is_exact true cases) vs else filter (is_exact true cases) vs) (exact_where_none cases v (none_in_front own others e))
    ∙ ap (λ ws. v ∷ ws) (all_move cases vs (none_behind own others e))
  where
    own : List Loss
    own = take 1 (losses_in cases v)

    others : List Loss
    others = flat_map (λ w. take 1 (losses_in cases w)) vs

-- ---- the outcome

not_beyond : (polys : List Polynomial) → Beyond ≡ Normals polys → ⊥
not_beyond polys e = cc

not_limit : (limit : AnswerLimit) (polys : List Polynomial) → Limit limit ≡ Normals polys → ⊥
not_limit limit polys e = cc

-- normals come only where no limit is noted
no_limit : (beyond : Bool) (found : Option AnswerLimit) (made : Facets) (polys : List Polynomial) → (if beyond then Beyond else limit_or found made) ≡ Normals polys → found ≡ None
no_limit true found made polys e = absurd (not_beyond polys e)
no_limit false None made polys e = refl
no_limit false (Some limit) made polys e = absurd (not_limit limit polys e)

pub knows_all_changes : KnowsAllChanges
knows_all_changes body polys e =
    all_move body.cases (modified_variables true body)
    (no_limit (is_beyond (modified_variables true body) (hull_cases body)) (first_limit (lost_changes true body)) (facets_by (modified_variables true body) (in_bits.normals (hull_cases body))) polys e)
