-- A form over variables that rise as a polynomial, made from the last variable on.
use Rattle.std.proofs.Common.{◌≡◌, ℕ, ◌<◌, ◌≤◌, ◌^◌, ◌-◌, drop, length, take, slice_index_or, Bool, true, false, refl, sym, ap, ◌∙◌, arith, List, [], ◌∷◌, map, Result, Ok, Err, ℤ, pos, ◌*ℤ◌}
use Rattle.std.specs.Prelude.{if◌then◌else◌}
use Rattle.std.specs.Cmp.{nat_cmp_is}
use Rattle.std.specs.List.{AllByRecursion}
use Rattle.std.specs.Ordering.{int_eq, match_ordering, ordering_then}
use Rattle.std.specs.declared.cmp.Ordering.TheVariants.{Less, Equal}
use Rattle.std.proofs.lemmas.Bool.{lt-ltb}
use Rattle.std.proofs.lemmas.Int.{ints}
use Rattle.std.proofs.lemmas.List.{take_all}
use Rattle.std.proofs.Math.IntN.{zero-*ℤ}
use Rattle.whole_numbers.specs.Fits.{fits}
use Rattle.items.specs.Gives.{◌>>=◌, err_map}
use Rattle.linear_terms.specs.declared.col.Col.{Col}
use Rattle.linear_terms.specs.declared.col.Col.TheVariants.{At}
use Rattle.linear_terms.specs.declared.error.TermError.{TermError}
use Rattle.linear_terms.specs.declared.error.TermError.TheVariants.{Wide}
use Rattle.linear_terms.specs.Expressions.{coefficients, linear}
use Rattle.linear_terms.specs.Mono.{mono_cmp}
use Rattle.linear_terms.specs.Operations.{with_term, put, put_all, multiple_of, sum_of_polys}
use Rattle.linear_terms.specs.Polynomial.{Terms, Polynomial, column_of}
use Rattle.linear_terms.specs.TermError.{plus, times, wide}
use Rattle.facet_hull.specs.Facets.{Rise, with_column}

-- ---- numbers

-- a product that is known, or its operands
abbrev product_or : ℤ → ℤ → ℤ → Bool → Result ℤ TermError
product_or a b z fit = err_map wide (if fit then Ok z else Err record { left = a; right = b; times = true })

abbrev sum_or : Bool → Result ℤ TermError
sum_or fit = err_map wide (if fit then Ok (pos 0) else Err record { left = pos 0; right = pos 0; times = false })

once : (n : ℤ) → pos 1 *ℤ n ≡ n
once n = omega (arith, ints)

fits-zero : fits (pos 0) ≡ true
fits-zero = lt-ltb 0 (2 ^ 127) (omega arith)

times-once : (n : ℤ) (fit : Bool) → fits n ≡ fit → times (pos 1) n ≡ product_or (pos 1) n n fit
times-once n fit h = ap (λ z. product_or (pos 1) n z (fits z)) (once n) ∙ ap (product_or (pos 1) n n) h

times-none : (n : ℤ) → times (pos 0) n ≡ Ok (pos 0)
times-none n = ap (λ z. product_or (pos 0) n z (fits z)) (zero-*ℤ n) ∙ ap (product_or (pos 0) n (pos 0)) fits-zero

plus-zero : plus (pos 0) (pos 0) ≡ Ok (pos 0)
plus-zero = ap sum_or fits-zero

-- ---- one column

-- the terms without a constant
abbrev plain : Terms → Polynomial
plain ts = record { terms = ts; rest = pos 0 }

-- the rest of the multiple, once the column's own number is made
abbrev after_number : ℤ → Col → Result ℤ TermError → Result Polynomial TermError
after_number n c made = (made >>= λ a. Ok (with_term (c ∷ []) a [])) >>= λ ts. times (pos 0) n >>= λ r. Ok record { terms = ts; rest = r }

multiple-fits : (n : ℤ) (c : Col) → fits n ≡ true → multiple_of (column_of c) n ≡ Ok (plain (with_term (c ∷ []) n []))
multiple-fits n c h = ap (after_number n c) (times-once n true h) ∙ ap (λ (made : Result ℤ TermError). made >>= λ r. Ok record { terms = with_term (c ∷ []) n []; rest = r }) (times-none n)

multiple-wide : (n : ℤ) (c : Col) → fits n ≡ false → multiple_of (column_of c) n ≡ Err (Wide (pos 1) n true)
multiple-wide n c h = ap (after_number n c) (times-once n false h)

-- ---- a column before others

-- each monomial stands in print order behind a column
abbrev AllBehind : Col → Terms → Type 0
AllBehind c ts = AllByRecursion (λ t. mono_cmp (c ∷ []) t.0 ≡ Less) ts

put-first : (c : Col) (n : ℤ) (ts : Terms) → AllBehind c ts → put (c ∷ []) n ts ≡ Ok (with_term (c ∷ []) n ts)
put-first c n [] h = refl
put-first c n (t ∷ ts) h = ap (λ o. match_ordering o (Ok (with_term (c ∷ []) n (t ∷ ts))) (plus t.1 n >>= λ s. Ok (with_term t.0 s ts)) (put (c ∷ []) n ts >>= λ made. Ok (t ∷ made))) h.0

put_all-first : (c : Col) (n : ℤ) (ts : Terms) → AllBehind c ts → put_all ts (with_term (c ∷ []) n []) ≡ Ok (with_term (c ∷ []) n ts)
put_all-first c n ts h = go (int_eq n (pos 0)) refl
  where
    go : (b : Bool) → int_eq n (pos 0) ≡ b → put_all ts (if b then [] else (c ∷ [], n) ∷ []) ≡ Ok (if b then ts else (c ∷ [], n) ∷ ts)
    go true e = refl
    go false e = ap (λ r. r >>= λ made. Ok made) (put-first c n ts h) ∙ ap (λ b. Ok (if b then ts else (c ∷ [], n) ∷ ts)) e

with_column-fits : (n : ℤ) (c : Col) (ts : Terms) → fits n ≡ true → AllBehind c ts → with_column n c (plain ts) ≡ Ok (plain (with_term (c ∷ []) n ts))
with_column-fits n c ts fit h =
    ap (λ r. r >>= λ own. sum_of_polys (plain ts) own) (multiple-fits n c fit)
    ∙ ap (λ (r : Result Terms TermError). r >>= λ all. plus (pos 0) (pos 0) >>= λ z. Ok record { terms = all; rest = z }) (put_all-first c n ts h)
    ∙ ap (λ (r : Result ℤ TermError). r >>= λ z. Ok record { terms = with_term (c ∷ []) n ts; rest = z }) plus-zero

-- the terms at columns behind one stand behind it
pub coefficients-behind : (c : Col) (ns : List ℤ) (cs : List Col) → AllByRecursion (λ d. mono_cmp (c ∷ []) (d ∷ []) ≡ Less) cs → AllBehind c (coefficients ns cs)
coefficients-behind c [] cs h = tt
coefficients-behind c (n ∷ ns) [] h = tt
coefficients-behind c (n ∷ ns) (d ∷ cs) h = go (int_eq n (pos 0)) (coefficients-behind c ns cs h.1)
  where
    go : (b : Bool) → AllBehind c (coefficients ns cs) → AllBehind c (if b then coefficients ns cs else (d ∷ [], n) ∷ coefficients ns cs)
    go true rest = rest
    go false rest = (h.0, rest)

pub variables-behind : (v : ℕ) (vs : List ℕ) → AllByRecursion (λ w. v < w) vs → AllByRecursion (λ d. mono_cmp (At v ∷ []) (d ∷ []) ≡ Less) (map (λ w. At w) vs)
variables-behind v [] h = tt
variables-behind v (w ∷ vs) h = (ap (λ o. ordering_then o Equal) (sym (nat_cmp_is v w Less h.0)), variables-behind v vs h.1)

only : (p q : Polynomial) → ◌≡◌ {A = Result Polynomial TermError} (Ok p) (Ok q) → q ≡ p
only p q e = cc

never : (p : Polynomial) (e : TermError) → ◌≡◌ {A = Result Polynomial TermError} (Err e) (Ok p) → ⊥
never p e same = cc

-- what is made of a number at a variable and the form behind it
pub linear-next : (n : ℤ) (ns : List ℤ) (v : ℕ) (vs : List ℕ) (rest made : Polynomial) → Rise (v ∷ vs) → rest ≡ linear ns (map (λ w. At w) vs) → with_column n (At v) rest ≡ Ok made → made ≡ linear (n ∷ ns) (map (λ w. At w) (v ∷ vs))
linear-next n ns v vs rest made h is came = go (fits n) refl
  where
    here : with_column n (At v) (linear ns (map (λ w. At w) vs)) ≡ Ok made
    here = ap (with_column n (At v)) (sym is) ∙ came

    go : (b : Bool) → fits n ≡ b → made ≡ linear (n ∷ ns) (map (λ w. At w) (v ∷ vs))
    go true fit = only (linear (n ∷ ns) (map (λ w. At w) (v ∷ vs))) made (sym (with_column-fits n (At v) (coefficients ns (map (λ w. At w) vs)) fit (coefficients-behind (At v) ns (map (λ w. At w) vs) (variables-behind v vs h.0))) ∙ here)
    go false fit = absurd (never made (Wide (pos 1) n true) (sym (ap (λ r. r >>= λ own. sum_of_polys (linear ns (map (λ w. At w) vs)) own) (multiple-wide n (At v) fit)) ∙ here))

-- the same of lists that are not empty, by their first numbers and what stands behind these
behind-first : {A : Type 0} (x : A) (xs : List A) → take (length (x ∷ xs) - 1) xs ≡ xs
behind-first x xs = take_all (length (x ∷ xs) - 1) xs (omega arith)

pub linear-cut : (ns : List ℤ) (vs : List ℕ) (rest made : Polynomial) → 1 ≤ length ns → 1 ≤ length vs → Rise vs
    → rest ≡ linear (take (length ns - 1) (drop 1 ns)) (map (λ w. At w) (take (length vs - 1) (drop 1 vs)))
    → with_column (slice_index_or ns 0 (pos 0)) (At (slice_index_or vs 0 0)) rest ≡ Ok made → made ≡ linear ns (map (λ w. At w) vs)
linear-cut [] vs rest made some more rise e w = absurd (omega (arith, some))
linear-cut (n ∷ ns) [] rest made some more rise e w = absurd (omega (arith, more))
linear-cut (n ∷ ns) (v ∷ vs) rest made some more rise e w =
    linear-next n ns v vs rest made rise
    (e ∙ ap (λ xs. linear xs (map (λ u. At u) (take (length (v ∷ vs) - 1) vs))) (behind-first n ns) ∙ ap (λ us. linear ns (map (λ u. At u) us)) (behind-first v vs)) w
