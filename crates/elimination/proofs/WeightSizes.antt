-- How great the values around an inner point are, and the multiples that read what a polynomial has
-- at a place.
use Rattle.std.proofs.Common.{◌≡◌, ℕ, zero, suc, ◌+◌, ◌*◌, ◌≤◌, Bool, true, false, cond, List, [], ◌∷◌, ◌++◌, length, ap, arith, ℤ, pos, negsuc, ◌+ℤ◌, ◌*ℤ◌}
use Rattle.std.specs.Prelude.{nat_eq, nat_lt, unsigned_abs}
use Rattle.std.specs.List.{AllByRecursion}
use Rattle.whole_numbers.proofs.Ring.{unsigned_abs-+ℤ}
use Rattle.linear_terms.specs.declared.col.Col.{Col}
use Rattle.linear_terms.specs.declared.row.Row.{Row}
use Rattle.linear_terms.specs.Polynomial.{Polynomial}
use Rattle.farkas_check.specs.Calm.{paired_sum}
use Rattle.farkas_check.specs.Frames.{line_of}
use Rattle.farkas_check.specs.Relations.{entry}
use Rattle.farkas_check.specs.Sizes.{HasNumbersUpTo}
use Rattle.simplex.proofs.Small.{product-small}
use Rattle.simplex.proofs.SmallSums.{coefficient-small}
use Rattle.elimination.specs.declared.inner.Inner.{Inner}
use Rattle.elimination.specs.Around.{around_value, sum_of_all, constant_weight, column_weight, weight_at}
use Rattle.elimination.specs.Probes.{read_at, value_in, IsInner}

-- each number is at most so great in magnitude
abbrev pub AreWithin : ℕ → List ℤ → Type 0
AreWithin most numbers = AllByRecursion (λ z. unsigned_abs z ≤ most) numbers

pub entry-size : (most : ℕ) (numbers : List ℤ) (place : ℕ) → AreWithin most numbers → unsigned_abs (entry numbers place) ≤ most
entry-size most [] place h = omega arith
entry-size most (z ∷ zs) zero h = h.0
entry-size most (z ∷ zs) (suc place) h = entry-size most zs place h.1

sum-size : (a b : ℕ) (x y : ℤ) → unsigned_abs x ≤ a → unsigned_abs y ≤ b → unsigned_abs (x +ℤ y) ≤ a + b
sum-size a b x y h k = let both : unsigned_abs (x +ℤ y) ≤ unsigned_abs x + unsigned_abs y = unsigned_abs-+ℤ x y in omega (arith, both, h, k)

-- ---- values

paired-size : (m n : ℕ) (xs ys : List ℤ) → AreWithin m xs → AreWithin n ys → unsigned_abs (paired_sum xs ys) ≤ length xs * (m * n)
paired-size m n [] ys h k = omega arith
paired-size m n (x ∷ xs) [] h k = omega arith
paired-size m n (x ∷ xs) (y ∷ ys) h k =
    let whole : unsigned_abs (x *ℤ y +ℤ paired_sum xs ys) ≤ m * n + length xs * (m * n) = sum-size (m * n) (length xs * (m * n)) (x *ℤ y) (paired_sum xs ys) (product-small m n x y h.0 k.0) (paired-size m n xs ys h.1 k.1) in
    let more : suc (length xs) * (m * n) ≡ m * n + length xs * (m * n) = omega arith in
    omega (arith, whole, more)

line-within : (most : ℕ) (cs : List (List Col)) (p : Polynomial) → HasNumbersUpTo most p → AreWithin most (line_of cs p)
line-within most [] p h = (h.rest, tt)
line-within most (c ∷ cs) p h = (coefficient-small most p.terms c h.terms, line-within most cs p h)

line-length : (cs : List (List Col)) (p : Polynomial) → length (line_of cs p) ≡ suc (length cs)
line-length [] p = omega arith
line-length (c ∷ cs) p = ap (λ (n : ℕ). suc n) (line-length cs p)

within-last : (most : ℕ) (zs : List ℤ) (z : ℤ) → AreWithin most zs → unsigned_abs z ≤ most → AreWithin most (zs ++ z ∷ [])
within-last most [] z h k = (k, tt)
within-last most (x ∷ zs) z h k = (h.0, within-last most zs z h.1 k)

pub value_in-size : (cs : List (List Col)) (rows : List Row) (inner : Inner) (p : Polynomial) → length cs ≤ 3 → IsInner cs rows inner → HasNumbersUpTo 4 p → unsigned_abs (value_in cs inner p) ≤ 51200000
value_in-size cs rows inner p few i h =
    let size : unsigned_abs (value_in cs inner p) ≤ length (line_of cs p) * (4 * 3200000) = paired-size 4 3200000 (line_of cs p) (inner.numbers ++ inner.over ∷ []) (line-within 4 cs p h) (within-last 3200000 inner.numbers inner.over i.small i.over_small) in
    let long : length (line_of cs p) ≡ suc (length cs) = line-length cs p in
    omega (arith, size, long, few)

pub read_at-size : (most : ℕ) (cs : List (List Col)) (place : ℕ) (p : Polynomial) → HasNumbersUpTo most p → unsigned_abs (read_at cs place p) ≤ most
read_at-size most [] zero p h = h.rest
read_at-size most [] (suc place) p h = omega arith
read_at-size most (c ∷ cs) zero p h = coefficient-small most p.terms c h.terms
read_at-size most (c ∷ cs) (suc place) p h = read_at-size most cs place p h

pub around_value-size : (cs : List (List Col)) (rows : List Row) (inner : Inner) (i : ℕ) (p : Polynomial) → length cs ≤ 3 → IsInner cs rows inner → HasNumbersUpTo 4 p → unsigned_abs (around_value cs inner i p) ≤ 268435456
around_value-size cs rows inner zero p few i h =
    let size : unsigned_abs (pos 4 *ℤ value_in cs inner p) ≤ 4 * 51200000 = product-small 4 51200000 (pos 4) (value_in cs inner p) (omega arith) (value_in-size cs rows inner p few i h) in
    omega (arith, size)
around_value-size cs rows inner (suc column) p few i h =
    let first : unsigned_abs (pos 4 *ℤ value_in cs inner p) ≤ 4 * 51200000 = product-small 4 51200000 (pos 4) (value_in cs inner p) (omega arith) (value_in-size cs rows inner p few i h) in
    let size : unsigned_abs (pos 4 *ℤ value_in cs inner p +ℤ read_at cs column p) ≤ 4 * 51200000 + 4 = sum-size (4 * 51200000) 4 (pos 4 *ℤ value_in cs inner p) (read_at cs column p) first (read_at-size 4 cs column p h) in
    omega (arith, size)

-- ---- the common denominator, and multiples

pub over-size : (cs : List (List Col)) (rows : List Row) (inner : Inner) → IsInner cs rows inner → unsigned_abs (pos 4 *ℤ inner.over) ≤ 12800000
over-size cs rows inner i = product-small 4 3200000 (pos 4) inner.over (omega arith) i.over_small

sum_of_all-size : (most : ℕ) (zs : List ℤ) → AreWithin most zs → unsigned_abs (sum_of_all zs) ≤ length zs * most
sum_of_all-size most [] h = omega arith
sum_of_all-size most (z ∷ zs) h =
    let whole : unsigned_abs (z +ℤ sum_of_all zs) ≤ most + length zs * most = sum-size most (length zs * most) z (sum_of_all zs) h.0 (sum_of_all-size most zs h.1) in
    let more : suc (length zs) * most ≡ most + length zs * most = omega arith in
    omega (arith, whole, more)

constant_weight-size : (inner : Inner) (i : ℕ) → length inner.numbers ≤ 3 → AreWithin 3200000 inner.numbers → unsigned_abs (constant_weight inner i) ≤ 67108864
constant_weight-size inner zero few h =
    let all : unsigned_abs (sum_of_all inner.numbers) ≤ length inner.numbers * 3200000 = sum_of_all-size 3200000 inner.numbers h in
    let most : unsigned_abs (sum_of_all inner.numbers) ≤ 9600000 = omega (arith, all, few) in
    let times : unsigned_abs (pos 4 *ℤ sum_of_all inner.numbers) ≤ 4 * 9600000 = product-small 4 9600000 (pos 4) (sum_of_all inner.numbers) (omega arith) most in
    let size : unsigned_abs (pos 1 +ℤ pos 4 *ℤ sum_of_all inner.numbers) ≤ 1 + 4 * 9600000 = sum-size 1 (4 * 9600000) (pos 1) (pos 4 *ℤ sum_of_all inner.numbers) (omega arith) times in
    omega (arith, size)
constant_weight-size inner (suc column) few h =
    let size : unsigned_abs (negsuc 3 *ℤ entry inner.numbers column) ≤ 4 * 3200000 = product-small 4 3200000 (negsuc 3) (entry inner.numbers column) (omega arith) (entry-size 3200000 inner.numbers column h) in
    omega (arith, size)

column_weight-size : (inner : Inner) (own i : ℕ) → unsigned_abs inner.over ≤ 3200000 → unsigned_abs (column_weight inner own i) ≤ 67108864
column_weight-size inner own zero h =
    let size : unsigned_abs (negsuc 3 *ℤ inner.over) ≤ 4 * 3200000 = product-small 4 3200000 (negsuc 3) inner.over (omega arith) h in
    omega (arith, size)
column_weight-size inner own (suc column) h = go (nat_eq column own)
  where
    go : (b : Bool) → unsigned_abs (cond b (pos 4 *ℤ inner.over) (pos 0)) ≤ 67108864
    go true =
        let size : unsigned_abs (pos 4 *ℤ inner.over) ≤ 4 * 3200000 = product-small 4 3200000 (pos 4) inner.over (omega arith) h in
        omega (arith, size)
    go false = omega arith

pub weight_at-size : (cs : List (List Col)) (rows : List Row) (inner : Inner) (place i : ℕ) → length cs ≤ 3 → IsInner cs rows inner → unsigned_abs (weight_at (length cs) inner place i) ≤ 67108864
weight_at-size cs rows inner place i few k = go (nat_lt place (length cs))
  where
    go : (b : Bool) → unsigned_abs (cond b (column_weight inner place i) (constant_weight inner i)) ≤ 67108864
    go true = column_weight-size inner place i k.over_small
    go false = constant_weight-size inner i (let each : length inner.numbers ≡ length cs = k.each in omega (arith, each, few)) k.small
