-- Which faults an operation cannot have.
use Rattle.std.proofs.Common.{◌≡◌, ◌≢◌, ℕ, Bool, true, false, cond, ℤ, pos, negsuc, List, [], ◌∷◌, Result, Ok, Err, refl}
use Rattle.std.specs.Prelude.{int_div, unsigned_abs, IfErr}
use Rattle.std.specs.Map.{values_of}
use Rattle.std.specs.Ordering.{match_ordering}
use Rattle.std.specs.declared.cmp.Ordering.{Ordering}
use Rattle.std.specs.declared.cmp.Ordering.TheVariants.{Less, Equal, Greater}
use Rattle.items.specs.Gives.{◌>>=◌, err_map, FailsBy, Gives}
use Rattle.items.proofs.Gives.{on_err}
use Rattle.whole_numbers.specs.declared.wide.Wide as Step
use Rattle.whole_numbers.specs.Divisors.{divides, gcd_of_all}
use Rattle.whole_numbers.specs.Fits.{sum_of, product_of}
use Rattle.linear_terms.specs.declared.col.Col.{Col}
use Rattle.linear_terms.specs.declared.error.TermError.{TermError}
use Rattle.linear_terms.specs.declared.error.TermError.TheVariants.{Degree, Memory, Wide}
use Rattle.linear_terms.specs.declared.row.Kind.{Kind}
use Rattle.linear_terms.specs.declared.row.Kind.TheVariants as Kinds
use Rattle.linear_terms.specs.declared.row.Row.{Row}
use Rattle.linear_terms.specs.declared.row.Normal.TheVariants.{Constant, Kept}
use Rattle.linear_terms.specs.TermError.{wide, plus, times, cause}
use Rattle.linear_terms.specs.Mono.{mono_cmp}
use Rattle.linear_terms.specs.Polynomial.{Terms, Polynomial}
use Rattle.linear_terms.specs.Operations.{with_term, put, put_all, sum_of_polys, times_each, multiple_of, difference_of_polys}
use Rattle.linear_terms.specs.Row.{starts_negative, with_positive_first, divided_terms, reduced_row, normal_form, IsTurnFault}

-- ---- sums and multiples have no degree that is too high

step-no_degree : (r : Result ℤ Step.Wide) → err_map wide r ≢ Err Degree
step-no_degree (Ok z) e = cc
step-no_degree (Err step) e = cc

plus-no_degree : (x y : ℤ) → plus x y ≢ Err Degree
plus-no_degree x y = step-no_degree (sum_of x y)

times-no_degree : (x y : ℤ) → times x y ≢ Err Degree
times-no_degree x y = step-no_degree (product_of x y)

put-no_degree : (m : List Col) (c : ℤ) (ts : Terms) → put m c ts ≢ Err Degree
put-no_degree m c [] e = cc
put-no_degree m c (t ∷ ts) e = go (mono_cmp m t.0) e (put-no_degree m c ts)
  where
    go : (o : Ordering) → match_ordering o (Ok (with_term m c (t ∷ ts))) (plus t.1 c >>= λ s. Ok (with_term t.0 s ts)) (put m c ts >>= λ made. Ok (t ∷ made)) ≡ Err Degree → put m c ts ≢ Err Degree → ⊥
    go Less f ih = cc
    go Equal f ih = on_err (plus t.1 c) (λ s. Ok (with_term t.0 s ts)) Degree f (plus-no_degree t.1 c) (λ s g h. cc)
    go Greater f ih = on_err (put m c ts) (λ made. Ok (t ∷ made)) Degree f ih (λ made g h. cc)

pub put_all-no_degree : (more ts : Terms) → put_all ts more ≢ Err Degree
put_all-no_degree [] ts e = cc
put_all-no_degree (t ∷ more) ts e =
    on_err (put t.0 t.1 ts) (λ made. put_all made more) Degree e (put-no_degree t.0 t.1 ts) (λ made f g. put_all-no_degree more made g)

pub sum_of_polys-no_degree : (a b : Polynomial) → sum_of_polys a b ≢ Err Degree
sum_of_polys-no_degree a b e =
    on_err (put_all a.terms b.terms) (λ ts. plus a.rest b.rest >>= λ r. Ok record { terms = ts; rest = r }) Degree e (put_all-no_degree b.terms a.terms)
    (λ ts f g. on_err (plus a.rest b.rest) (λ r. Ok record { terms = ts; rest = r }) Degree g (plus-no_degree a.rest b.rest) (λ r h k. cc))

times_each-no_degree : (ts : Terms) (by : ℤ) → times_each ts by ≢ Err Degree
times_each-no_degree [] by e = cc
times_each-no_degree (t ∷ ts) by e =
    on_err (times t.1 by) (λ c. times_each ts by >>= λ made. Ok (with_term t.0 c made)) Degree e (times-no_degree t.1 by)
    (λ c f g. on_err (times_each ts by) (λ made. Ok (with_term t.0 c made)) Degree g (times_each-no_degree ts by) (λ made h k. cc))

pub multiple_of-no_degree : (a : Polynomial) (by : ℤ) → multiple_of a by ≢ Err Degree
multiple_of-no_degree a by e =
    on_err (times_each a.terms by) (λ ts. times a.rest by >>= λ r. Ok record { terms = ts; rest = r }) Degree e (times_each-no_degree a.terms by)
    (λ ts f g. on_err (times a.rest by) (λ r. Ok record { terms = ts; rest = r }) Degree g (times-no_degree a.rest by) (λ r h k. cc))

pub difference_of_polys-no_degree : (a b : Polynomial) → difference_of_polys a b ≢ Err Degree
difference_of_polys-no_degree a b e =
    on_err (multiple_of b (negsuc 0)) (λ turned. sum_of_polys a turned) Degree e (multiple_of-no_degree b (negsuc 0)) (λ turned f g. sum_of_polys-no_degree a turned g)

-- what a call answers has none then
pub FailsBy-no_degree : {Y : Type 0} (e : TermError) (stated : Result Y TermError) → stated ≢ Err Degree → FailsBy (cause e) stated → e ≢ Degree
FailsBy-no_degree e stated never fails same = never (subst_fails e same fails)
  where
    subst_fails : (d : TermError) → d ≡ Degree → FailsBy (cause d) stated → stated ≡ Err Degree
    subst_fails (Wide left right times) f g = cc
    subst_fails Degree f g = g
    subst_fails Memory f g = cc

-- ---- a normal form fails by a sign that cannot be turned alone

times_each-fault : (ts : Terms) (e : TermError) → times_each ts (negsuc 0) ≡ Err e → IsTurnFault e
times_each-fault [] e f = cc
times_each-fault (t ∷ ts) e f =
    on_err (times t.1 (negsuc 0)) (λ c. times_each ts (negsuc 0) >>= λ made. Ok (with_term t.0 c made)) e f (λ g. (t.1, g))
    (λ c g h. on_err (times_each ts (negsuc 0)) (λ made. Ok (with_term t.0 c made)) e h (times_each-fault ts e) (λ made k l. cc))

turned-fault : (p : Polynomial) (e : TermError) → multiple_of p (negsuc 0) ≡ Err e → IsTurnFault e
turned-fault p e f =
    on_err (times_each p.terms (negsuc 0)) (λ ts. times p.rest (negsuc 0) >>= λ r. Ok record { terms = ts; rest = r }) e f (times_each-fault p.terms e)
    (λ ts g h. on_err (times p.rest (negsuc 0)) (λ r. Ok record { terms = ts; rest = r }) e h (λ k. (p.rest, k)) (λ r k l. cc))

with_positive_first-fault : (p : Polynomial) (e : TermError) → with_positive_first p ≡ Err e → IsTurnFault e
with_positive_first-fault p e f = go (starts_negative p.terms) f
  where
    go : (b : Bool) → cond b (multiple_of p (negsuc 0)) (Ok p) ≡ Err e → IsTurnFault e
    go true g = turned-fault p e g
    go false g = cc

pub reduced-fault : (k : Kind) (g : ℕ) (p : Polynomial) (e : TermError) → reduced_row k g p ≡ Err e → IsTurnFault e
reduced-fault Kinds.AtMost g p e f = cc
reduced-fault Kinds.Equal g p e f = go (divides g (unsigned_abs p.rest)) f
  where
    go : (b : Bool) → cond b (with_positive_first (record { terms = divided_terms g p.terms; rest = int_div p.rest (pos g) }) >>= λ q. Ok (Kept (record { poly = q; kind = Kinds.Equal }))) (Ok (Constant false)) ≡ Err e → IsTurnFault e
    go true h =
        on_err (with_positive_first (record { terms = divided_terms g p.terms; rest = int_div p.rest (pos g) })) (λ q. Ok (Kept (record { poly = q; kind = Kinds.Equal }))) e h
        (with_positive_first-fault (record { terms = divided_terms g p.terms; rest = int_div p.rest (pos g) }) e) (λ q k l. cc)
    go false h = cc

pub normal_form-fault : (row : Row) (e : TermError) → normal_form row ≡ Err e → IsTurnFault e
normal_form-fault row e f = go row.poly.terms f
  where
    go : (ts : Terms) → normal_form (record { poly = record { terms = ts; rest = row.poly.rest }; kind = row.kind }) ≡ Err e → IsTurnFault e
    go [] g = cc
    go (t ∷ ts) g = reduced-fault row.kind (gcd_of_all (values_of (t ∷ ts))) (record { terms = t ∷ ts; rest = row.poly.rest }) e g

-- the fault of a call is then one
pub FailsBy-fault : {Y : Type 0} (e : TermError) (stated : Result Y TermError) → ((f : TermError) → stated ≡ Err f → IsTurnFault f) → FailsBy (cause e) stated → e ≢ Memory → IsTurnFault e
FailsBy-fault (Wide left right times) stated faults fails some = faults (Wide left right times) fails
FailsBy-fault Degree stated faults fails some = faults Degree fails
FailsBy-fault Memory stated faults fails some = absurd (some refl)

pub IfErr-fault : {X Y : Type 0} (view : X → Y) (r : Result X TermError) (stated : Result Y TermError) → ((f : TermError) → stated ≡ Err f → IsTurnFault f) → Gives cause view r stated → IfErr r (λ e. e ≢ Memory → IsTurnFault e)
IfErr-fault view (Ok x) stated faults gives = tt
IfErr-fault view (Err e) stated faults gives = FailsBy-fault e stated faults gives
