-- A combination of columns is the linear polynomial of its numbers; only a number that is none of
-- 128 bits hinders it.
use Rattle.std.proofs.Common.{◌≡◌, List, [], ◌∷◌, ◌++◌, Bool, true, false, Result, Ok, Err, ◌⊎◌, inl, inr, map, refl, sym, ap, ◌∙◌, append_assoc, append-nil, arith, ℤ, pos, negsuc, ◌*ℤ◌, ◌^◌, SFits}
use Rattle.std.specs.Int.{w128}
use Rattle.std.specs.Prelude.{if◌then◌else◌}
use Rattle.std.specs.List.{AllByRecursion}
use Rattle.std.specs.Ordering.{int_eq, match_ordering}
use Rattle.std.specs.declared.cmp.Ordering.TheVariants.{Greater}
use Rattle.std.proofs.lemmas.Bool.{lt-ltb}
use Rattle.std.proofs.lemmas.Int.{ints}
use Rattle.whole_numbers.specs.Fits.{fits}
use Rattle.items.specs.Gives.{◌>>=◌, err_map}
use Rattle.items.proofs.Each.{each-append}
use Rattle.linear_terms.specs.declared.col.Col.{Col}
use Rattle.linear_terms.specs.declared.error.TermError.{TermError}
use Rattle.linear_terms.specs.declared.error.TermError.TheVariants.{Wide, Degree}
use Rattle.linear_terms.specs.Expressions.{Made, ◌⊠◌, ◌⊞◌, whole, coefficients, linear, sum_from, weighted_sum}
use Rattle.linear_terms.specs.Mono.{mono_cmp, in_order}
use Rattle.linear_terms.specs.Operations.{with_term, put, put_all, put_part, add_row, add_rows, product_of_polys, sum_of_polys, parts}
use Rattle.linear_terms.specs.Polynomial.{Terms, Polynomial, constant_of, column_of}
use Rattle.linear_terms.specs.TermError.{plus, times, wide}
use Rattle.recurrence.specs.Words.{Ascend}

-- ---- one number times one column

-- a product that is known, or its operands
abbrev product_or : ℤ → ℤ → ℤ → Bool → Result ℤ TermError
product_or a b z fit = err_map wide (if fit then Ok z else Err record { left = a; right = b; times = true })

abbrev sum_or : Bool → Result ℤ TermError
sum_or fit = err_map wide (if fit then Ok (pos 0) else Err record { left = pos 0; right = pos 0; times = false })

once : (n : ℤ) → n *ℤ pos 1 ≡ n
once n = omega (arith, ints)

never : (n : ℤ) → n *ℤ pos 0 ≡ pos 0
never n = omega (arith, ints)

fits-zero : fits (pos 0) ≡ true
fits-zero = lt-ltb 0 (2 ^ 127) (omega arith)

times-once : (n : ℤ) (fit : Bool) → fits n ≡ fit → times n (pos 1) ≡ product_or n (pos 1) n fit
times-once n fit h = ap (λ z. product_or n (pos 1) z (fits z)) (once n) ∙ ap (product_or n (pos 1) n) h

times-never : (n : ℤ) → times n (pos 0) ≡ Ok (pos 0)
times-never n = ap (λ z. product_or n (pos 0) z (fits z)) (never n) ∙ ap (product_or n (pos 0) (pos 0)) fits-zero

plus-zero : plus (pos 0) (pos 0) ≡ Ok (pos 0)
plus-zero = ap sum_or fits-zero

-- the rest of the product, once the column's own number is made
abbrev after_number : ℤ → Col → Result ℤ TermError → Made
after_number n c made =
    ((made >>= λ a. put_part (in_order (c ∷ [])) a (constant_of (pos 0))) >>= λ q. add_row [] n (([], pos 0) ∷ []) q) >>= λ q. add_rows [] (parts (column_of c)) q

-- the rest of it, once its constant is made
abbrev after_constant : ℤ → Col → Result ℤ TermError → Made
after_constant n c made =
    ((made >>= λ z. put_part [] z record { terms = with_term (c ∷ []) n []; rest = pos 0 }) >>= λ q. add_row [] n [] q) >>= λ q. add_rows [] (parts (column_of c)) q

product-fits : (n : ℤ) (c : Col) → fits n ≡ true → product_of_polys (constant_of n) (column_of c) ≡ Ok record { terms = with_term (c ∷ []) n []; rest = pos 0 }
product-fits n c h =
    ap (after_number n c) (times-once n true h) ∙ ap (after_constant n c) (times-never n)
    ∙ ap (λ (made : Result ℤ TermError). made >>= λ r. Ok record { terms = with_term (c ∷ []) n []; rest = r }) plus-zero

product-wide : (n : ℤ) (c : Col) → fits n ≡ false → product_of_polys (constant_of n) (column_of c) ≡ Err (Wide n (pos 1) true)
product-wide n c h = ap (after_number n c) (times-once n false h)

-- ---- a sum of terms before the column

-- each monomial stands in print order before a column
abbrev AllBefore : Terms → Col → Type 0
AllBefore ts c = AllByRecursion (λ t. mono_cmp (c ∷ []) t.0 ≡ Greater) ts

put-last : (c : Col) (n : ℤ) (ts : Terms) → AllBefore ts c → put (c ∷ []) n ts ≡ Ok (ts ++ with_term (c ∷ []) n [])
put-last c n [] h = refl
put-last c n (t ∷ ts) h =
    ap (λ o. match_ordering o (Ok (with_term (c ∷ []) n (t ∷ ts))) (plus t.1 n >>= λ s. Ok (with_term t.0 s ts)) (put (c ∷ []) n ts >>= λ made. Ok (t ∷ made))) h.0
    ∙ ap (λ r. r >>= λ made. Ok (t ∷ made)) (put-last c n ts h.1)

put_all-last : (c : Col) (n : ℤ) (ts : Terms) → AllBefore ts c → put_all ts (with_term (c ∷ []) n []) ≡ Ok (ts ++ with_term (c ∷ []) n [])
put_all-last c n ts h = go (int_eq n (pos 0)) refl
  where
    go : (b : Bool) → int_eq n (pos 0) ≡ b → put_all ts (if b then [] else (c ∷ [], n) ∷ []) ≡ Ok (ts ++ (if b then [] else (c ∷ [], n) ∷ []))
    go true e = ap (λ xs. Ok xs) (sym (append-nil ts))
    go false e = ap (λ r. r >>= λ made. Ok made) (put-last c n ts h) ∙ ap (λ b. Ok (ts ++ (if b then [] else (c ∷ [], n) ∷ []))) e

kept-append : (c : Col) (n : ℤ) (xs : Terms) → with_term (c ∷ []) n [] ++ xs ≡ with_term (c ∷ []) n xs
kept-append c n xs = go (int_eq n (pos 0))
  where
    go : (b : Bool) → (if b then [] else (c ∷ [], n) ∷ []) ++ xs ≡ (if b then xs else (c ∷ [], n) ∷ xs)
    go true = refl
    go false = refl

-- the terms without a constant
abbrev plain : Terms → Polynomial
plain ts = record { terms = ts; rest = pos 0 }

-- a sum so far with one more column
with-column : (ts : Terms) (n : ℤ) (c : Col) → fits n ≡ true → AllBefore ts c → Ok (plain ts) ⊞ whole n ⊠ Ok (column_of c) ≡ Ok (plain (ts ++ with_term (c ∷ []) n []))
with-column ts n c fit h =
    ap (λ (r : Made). r >>= λ q. sum_of_polys (plain ts) q) (product-fits n c fit)
    ∙ ap (λ (r : Result Terms TermError). r >>= λ all. plus (pos 0) (pos 0) >>= λ z. Ok record { terms = all; rest = z }) (put_all-last c n ts h)
    ∙ ap (λ (r : Result ℤ TermError). r >>= λ z. Ok record { terms = ts ++ with_term (c ∷ []) n []; rest = z }) plus-zero

-- the sum so far stands before the columns that are left
still-before : (ts : Terms) (n : ℤ) (c d : Col) → AllBefore ts d → mono_cmp (d ∷ []) (c ∷ []) ≡ Greater → AllBefore (ts ++ with_term (c ∷ []) n []) d
still-before ts n c d h k = each-append (λ t. mono_cmp (d ∷ []) t.0 ≡ Greater) ts (with_term (c ∷ []) n []) h (go (int_eq n (pos 0)))
  where
    go : (b : Bool) → AllBefore (if b then [] else (c ∷ [], n) ∷ []) d
    go true = tt
    go false = (k, tt)

all-before : (ts : Terms) (n : ℤ) (c : Col) (cs : List Col) → AllByRecursion (AllBefore ts) cs → AllByRecursion (λ d. mono_cmp (d ∷ []) (c ∷ []) ≡ Greater) cs → AllByRecursion (AllBefore (ts ++ with_term (c ∷ []) n [])) cs
all-before ts n c [] h k = tt
all-before ts n c (d ∷ cs) h k = (still-before ts n c d h.0 k.0, all-before ts n c cs h.1 k.1)

-- ---- all numbers and columns

-- the sum is made, or one of the numbers is none of 128 bits, and its product is told
abbrev ComesTo : Made → Polynomial → Type 0
ComesTo made p = (made ≡ Ok p) ⊎ ((n : ℤ) × (made ≡ Err (Wide n (pos 1) true)) × (fits n ≡ false))

carried : (made more : Made) (p q : Polynomial) → made ≡ more → q ≡ p → ComesTo more q → ComesTo made p
carried made more p q same is (inl e) = inl (same ∙ e ∙ ap (λ x. Ok x) is)
carried made more p q same is (inr (n, e, f)) = inr (n, same ∙ e, f)

sum_from-comes : (cs : List Col) (ns : List ℤ) (ts : Terms) → Ascend cs → AllByRecursion (AllBefore ts) cs → ComesTo (sum_from (plain ts) ns (map column_of cs)) (plain (ts ++ coefficients ns cs))
sum_from-comes cs [] ts a h = inl (ap (λ xs. Ok (plain xs)) (sym (append-nil ts)))
sum_from-comes [] (n ∷ ns) ts a h = inl (ap (λ xs. Ok (plain xs)) (sym (append-nil ts)))
sum_from-comes (c ∷ cs) (n ∷ ns) ts a h = go (fits n) refl (sum_from-comes cs ns (ts ++ with_term (c ∷ []) n []) a.1 (all-before ts n c cs h.1 a.0))
  where
    go : (b : Bool) → fits n ≡ b → ComesTo (sum_from (plain (ts ++ with_term (c ∷ []) n [])) ns (map column_of cs)) (plain ((ts ++ with_term (c ∷ []) n []) ++ coefficients ns cs))
        → ComesTo (sum_from (plain ts) (n ∷ ns) (map column_of (c ∷ cs))) (plain (ts ++ coefficients (n ∷ ns) (c ∷ cs)))
    go true fit rest =
        carried (sum_from (plain ts) (n ∷ ns) (map column_of (c ∷ cs))) (sum_from (plain (ts ++ with_term (c ∷ []) n [])) ns (map column_of cs))
        (plain (ts ++ coefficients (n ∷ ns) (c ∷ cs))) (plain ((ts ++ with_term (c ∷ []) n []) ++ coefficients ns cs))
        (ap (λ (r : Made). r >>= λ next. sum_from next ns (map column_of cs)) (with-column ts n c fit h.0))
        (ap plain (append_assoc ts (with_term (c ∷ []) n []) (coefficients ns cs) ∙ ap (λ xs. ts ++ xs) (kept-append c n (coefficients ns cs)))) rest
    go false fit rest =
        inr (n, ap (λ (r : Made). (r >>= λ q. sum_of_polys (plain ts) q) >>= λ next. sum_from next ns (map column_of cs)) (product-wide n c fit), fit)

none-before : (cs : List Col) → AllByRecursion (AllBefore []) cs
none-before [] = tt
none-before (c ∷ cs) = (tt, none-before cs)

weighted-comes : (ns : List ℤ) (cs : List Col) → Ascend cs → ComesTo (weighted_sum ns (map column_of cs)) (linear ns cs)
weighted-comes ns cs a = sum_from-comes cs ns [] a (none-before cs)

made-once : (made : Made) (p q : Polynomial) → made ≡ Ok p → ComesTo made q → q ≡ p
made-once made p q e (inl f) = cc
made-once made p q e (inr (n, f, g)) = cc

pub weighted-made : (ns : List ℤ) (cs : List Col) (p : Polynomial) → Ascend cs → weighted_sum ns (map column_of cs) ≡ Ok p → linear ns cs ≡ p
weighted-made ns cs p a e = made-once (weighted_sum ns (map column_of cs)) p (linear ns cs) e (weighted-comes ns cs a)

not_degree : (made : Made) (q : Polynomial) → made ≡ Err Degree → ComesTo made q → ⊥
not_degree made q e (inl f) = cc
not_degree made q e (inr (n, f, g)) = cc

pub weighted-not_degree : (ns : List ℤ) (cs : List Col) → Ascend cs → weighted_sum ns (map column_of cs) ≡ Err Degree → ⊥
weighted-not_degree ns cs a e = not_degree (weighted_sum ns (map column_of cs)) (linear ns cs) e (weighted-comes ns cs a)

fits-number : (z : ℤ) → SFits w128 z → fits z ≡ true
fits-number (pos n) h = lt-ltb n (2 ^ 127) h.sfits
fits-number (negsuc n) h = lt-ltb n (2 ^ 127) h.sfits

not_wide : (made : Made) (q : Polynomial) (left right : ℤ) (product : Bool) → made ≡ Err (Wide left right product) → fits left ≡ true → ComesTo made q → ⊥
not_wide made q left right product e fit (inl f) = cc
not_wide made q left right product e fit (inr (n, f, g)) = cc

pub weighted-not_wide : (ns : List ℤ) (cs : List Col) (left right : ℤ) (product : Bool) → Ascend cs → SFits w128 left → weighted_sum ns (map column_of cs) ≡ Err (Wide left right product) → ⊥
weighted-not_wide ns cs left right product a fit e =
    not_wide (weighted_sum ns (map column_of cs)) (linear ns cs) left right product e (fits-number left fit) (weighted-comes ns cs a)
