-- No operation on plain polynomials answers want of memory: each that has no answer is noted.
use Rattle.std.proofs.Common.{◌≡◌, ◌≢◌, ℕ, ◌+◌, Bool, true, false, cond, ℤ, pos, negsuc, length, List, [], ◌∷◌, ◌++◌, Result, Ok, Err, refl}
use Rattle.std.specs.Prelude.{nat_lt}
use Rattle.std.specs.Ordering.{int_eq, match_ordering}
use Rattle.std.specs.declared.cmp.Ordering.{Ordering}
use Rattle.std.specs.declared.cmp.Ordering.TheVariants.{Less, Equal, Greater}
use Rattle.items.specs.Gives.{◌>>=◌, err_map}
use Rattle.whole_numbers.specs.declared.wide.Wide as Step
use Rattle.whole_numbers.specs.Fits.{sum_of, product_of}
use Rattle.linear_terms.specs.declared.col.Col.{Col}
use Rattle.linear_terms.specs.declared.col.Col.TheVariants.{Aux}
use Rattle.linear_terms.specs.declared.error.TermError.{TermError}
use Rattle.linear_terms.specs.declared.error.TermError.TheVariants.{Wide, Degree, Memory}
use Rattle.linear_terms.specs.declared.row.Row.{Row}
use Rattle.linear_terms.specs.Auxiliaries.{occurs, put_for, without}
use Rattle.linear_terms.specs.Mono.{mono_cmp, in_order}
use Rattle.linear_terms.specs.Operations.{with_term, put, put_all, sum_of_polys, times_each, multiple_of, difference_of_polys, parts, put_part, add_product, add_row, add_rows, product_of_polys, product_on, product_in, substituted_monomial, add_substituted, substituted_polynomial}
use Rattle.linear_terms.specs.Polynomial.{Terms, Polynomial, coefficient_in, constant_of}
use Rattle.linear_terms.specs.Row.{normal_form}
use Rattle.linear_terms.specs.TermError.{wide, plus, times}
use Rattle.linear_terms.proofs.Faults.{normal_form-fault}
use Rattle.transition_formula.specs.Loss.{error_losses}
use Rattle.transition_formula.specs.Order.{solution, with_solution}

-- it is no want of memory
abbrev pub Tells : {A : Type 0} → Result A TermError → Type 0
Tells r = r ≢ Err Memory

pub bind-tells : {A B : Type 0} (r : Result A TermError) (f : A → Result B TermError) → Tells r → ((a : A) → Tells (f a)) → Tells (r >>= f)
bind-tells (Ok a) f h k = k a
bind-tells (Err (Wide left right times)) f h k = λ e. cc
bind-tells (Err Degree) f h k = λ e. cc
bind-tells (Err Memory) f h k = λ e. h refl

-- ---- sums and multiples

step-tells : (r : Result ℤ Step.Wide) → Tells (err_map wide r)
step-tells (Ok z) e = cc
step-tells (Err step) e = cc

plus-tells : (x y : ℤ) → Tells (plus x y)
plus-tells x y = step-tells (sum_of x y)

times-tells : (x y : ℤ) → Tells (times x y)
times-tells x y = step-tells (product_of x y)

put-tells : (m : List Col) (c : ℤ) (ts : Terms) → Tells (put m c ts)
put-tells m c [] = λ e. cc
put-tells m c (t ∷ ts) = go (mono_cmp m t.0) (put-tells m c ts)
  where
    go : (o : Ordering) → Tells (put m c ts) → Tells (match_ordering o (Ok (with_term m c (t ∷ ts))) (plus t.1 c >>= λ s. Ok (with_term t.0 s ts)) (put m c ts >>= λ made. Ok (t ∷ made)))
    go Less ih = λ e. cc
    go Equal ih = bind-tells (plus t.1 c) (λ s. Ok (with_term t.0 s ts)) (plus-tells t.1 c) (λ s e. cc)
    go Greater ih = bind-tells (put m c ts) (λ made. Ok (t ∷ made)) ih (λ made e. cc)

put_all-tells : (ts more : Terms) → Tells (put_all ts more)
put_all-tells ts [] = λ e. cc
put_all-tells ts (t ∷ more) = bind-tells (put t.0 t.1 ts) (λ made. put_all made more) (put-tells t.0 t.1 ts) (λ made. put_all-tells made more)

pub sum_of_polys-tells : (a b : Polynomial) → Tells (sum_of_polys a b)
sum_of_polys-tells a b =
    bind-tells (put_all a.terms b.terms) (λ ts. plus a.rest b.rest >>= λ r. Ok record { terms = ts; rest = r }) (put_all-tells a.terms b.terms)
    (λ ts. bind-tells (plus a.rest b.rest) (λ r. Ok record { terms = ts; rest = r }) (plus-tells a.rest b.rest) (λ r e. cc))

times_each-tells : (ts : Terms) (by : ℤ) → Tells (times_each ts by)
times_each-tells [] by = λ e. cc
times_each-tells (t ∷ ts) by =
    bind-tells (times t.1 by) (λ c. times_each ts by >>= λ made. Ok (with_term t.0 c made)) (times-tells t.1 by)
    (λ c. bind-tells (times_each ts by) (λ made. Ok (with_term t.0 c made)) (times_each-tells ts by) (λ made e. cc))

pub multiple_of-tells : (p : Polynomial) (by : ℤ) → Tells (multiple_of p by)
multiple_of-tells p by =
    bind-tells (times_each p.terms by) (λ ts. times p.rest by >>= λ r. Ok record { terms = ts; rest = r }) (times_each-tells p.terms by)
    (λ ts. bind-tells (times p.rest by) (λ r. Ok record { terms = ts; rest = r }) (times-tells p.rest by) (λ r e. cc))

pub difference_of_polys-tells : (a b : Polynomial) → Tells (difference_of_polys a b)
difference_of_polys-tells a b = bind-tells (multiple_of b (negsuc 0)) (λ turned. sum_of_polys a turned) (multiple_of-tells b (negsuc 0)) (λ turned. sum_of_polys-tells a turned)

-- ---- products

put_part-tells : (m : List Col) (c : ℤ) (p : Polynomial) → Tells (put_part m c p)
put_part-tells [] c p = bind-tells (plus p.rest c) (λ r. Ok record { terms = p.terms; rest = r }) (plus-tells p.rest c) (λ r e. cc)
put_part-tells (x ∷ m) c p = bind-tells (put (x ∷ m) c p.terms) (λ ts. Ok record { terms = ts; rest = p.rest }) (put-tells (x ∷ m) c p.terms) (λ ts e. cc)

add_product-tells : (m : List Col) (c : ℤ) (n : List Col) (d : ℤ) (sum : Polynomial) → Tells (add_product m c n d sum)
add_product-tells m c n d sum = go (nat_lt 4 (length m + length n))
  where
    go : (b : Bool) → Tells (cond b (Err Degree) (times c d >>= λ e. put_part (in_order (m ++ n)) e sum))
    go true = λ e. cc
    go false = bind-tells (times c d) (λ e. put_part (in_order (m ++ n)) e sum) (times-tells c d) (λ e. put_part-tells (in_order (m ++ n)) e sum)

add_row-tells : (m : List Col) (c : ℤ) (ts : Terms) (sum : Polynomial) → Tells (add_row m c ts sum)
add_row-tells m c [] sum = λ e. cc
add_row-tells m c (t ∷ ts) sum = bind-tells (add_product m c t.0 t.1 sum) (λ made. add_row m c ts made) (add_product-tells m c t.0 t.1 sum) (λ made. add_row-tells m c ts made)

add_rows-tells : (ts others : Terms) (sum : Polynomial) → Tells (add_rows ts others sum)
add_rows-tells [] others sum = λ e. cc
add_rows-tells (t ∷ ts) others sum = bind-tells (add_row t.0 t.1 others sum) (λ made. add_rows ts others made) (add_row-tells t.0 t.1 others sum) (λ made. add_rows-tells ts others made)

pub product_of_polys-tells : (a b : Polynomial) → Tells (product_of_polys a b)
product_of_polys-tells a b = add_rows-tells (parts a) (parts b) (constant_of (pos 0))

-- ---- substitution

product_on-tells : (put_in : Col → Polynomial) (made : Polynomial) (m : List Col) → Tells (product_on put_in made m)
product_on-tells put_in made [] = λ e. cc
product_on-tells put_in made (c ∷ m) = bind-tells (product_of_polys made (put_in c)) (λ next. product_on put_in next m) (product_of_polys-tells made (put_in c)) (λ next. product_on-tells put_in next m)

product_in-tells : (put_in : Col → Polynomial) (m : List Col) → Tells (product_in put_in m)
product_in-tells put_in [] = λ e. cc
product_in-tells put_in (c ∷ m) = product_on-tells put_in (put_in c) m

replaced-tells : (put_in : Col → Polynomial) (m : List Col) (c : ℤ) → Tells (substituted_monomial put_in m c)
replaced-tells put_in m c = bind-tells (product_in put_in m) (λ product. multiple_of product c) (product_in-tells put_in m) (λ product. multiple_of-tells product c)

add_substituted-tells : (put_in : Col → Polynomial) (ts : Terms) (sum : Polynomial) → Tells (add_substituted put_in ts sum)
add_substituted-tells put_in [] sum = λ e. cc
add_substituted-tells put_in (t ∷ ts) sum =
    bind-tells (substituted_monomial put_in t.0 t.1) (λ term. sum_of_polys sum term >>= λ made. add_substituted put_in ts made) (replaced-tells put_in t.0 t.1)
    (λ term. bind-tells (sum_of_polys sum term) (λ made. add_substituted put_in ts made) (sum_of_polys-tells sum term) (λ made. add_substituted-tells put_in ts made))

pub substituted-tells : (put_in : Col → Polynomial) (p : Polynomial) → Tells (substituted_polynomial put_in p)
substituted-tells put_in p =
    bind-tells (add_substituted put_in p.terms (constant_of (pos 0))) (λ sum. plus sum.rest p.rest >>= λ r. Ok record { terms = sum.terms; rest = r }) (add_substituted-tells put_in p.terms (constant_of (pos 0)))
    (λ sum. bind-tells (plus sum.rest p.rest) (λ r. Ok record { terms = sum.terms; rest = r }) (plus-tells sum.rest p.rest) (λ r e. cc))

-- ---- normal forms and solutions

pub normal_form-tells : (row : Row) → Tells (normal_form row)
normal_form-tells row e = let fault = normal_form-fault row Memory e in times-tells fault.0 (negsuc 0) fault.1

pub solution-tells : (p : Polynomial) (n : ℕ) → Tells (solution p n)
solution-tells p n = go (int_eq (coefficient_in p.terms (Aux n ∷ [])) (negsuc 0))
  where
    go : (b : Bool) → Tells (cond b (Ok (without n p)) (multiple_of (without n p) (negsuc 0)))
    go true = λ e. cc
    go false = multiple_of-tells (without n p) (negsuc 0)

pub with_solution-tells : (n : ℕ) (q p : Polynomial) → Tells (with_solution n q p)
with_solution-tells n q p = go (occurs n p)
  where
    go : (b : Bool) → Tells (cond b (substituted_polynomial (put_for n q) p) (Ok p))
    go true = substituted-tells (put_for n q) p
    go false = λ e. cc

-- ---- so a step without an answer is noted

pub lost-some : {A : Type 0} (r : Result A TermError) (e : TermError) → Tells r → r ≡ Err e → error_losses e ≡ [] → ⊥
lost-some r (Wide left right times) tells is h = cc
lost-some r Degree tells is h = cc
lost-some r Memory tells is h = tells is
