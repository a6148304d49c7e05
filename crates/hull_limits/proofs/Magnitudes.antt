-- How great the numbers are that steps on vectors make.
use Rattle.std.proofs.Common.{◌≡◌, ℕ, suc, ◌+◌, ◌*◌, ◌^◌, ◌<◌, ◌≤◌, Bool, true, false, cond, sym, ◌∙◌, arith, List, [], ◌∷◌, length, map, nat_eq, ℤ, pos, negsuc, ◌+ℤ◌, ◌*ℤ◌, Ok}
use Rattle.std.specs.Prelude.{IsOkAnd, int_div, int_lt, unsigned_abs}
use Rattle.std.specs.List.{AllByRecursion}
use Rattle.std.proofs.lemmas.Int.{unsigned_abs-mul}
use Rattle.std.proofs.Math.Nat.{mul-le-mul, mul-le-mul_left, add-mul, mul-add, mul_comm, zero-mul, div-le_self}
use Rattle.items.proofs.Each.{each-more, each-map}
use Rattle.items.specs.Gives.{◌>>=◌}
use Rattle.whole_numbers.specs.Divisors.{gcd_of, gcd_of_all}
use Rattle.whole_numbers.specs.Fits.{fits, sum_of, product_of}
use Rattle.whole_numbers.proofs.CommonDivisors.{gcd_of-times}
use Rattle.whole_numbers.proofs.Quotients.{unsigned_abs-int_div}
use Rattle.whole_numbers.proofs.Ring.{unsigned_abs-+ℤ}
use Rattle.farkas_check.specs.Relations.{entry}
use Rattle.cones.specs.InBits.{Made, ◌⊞◌}
use Rattle.cones.specs.InBits as in_bits
use Rattle.cones.specs.Vectors.{lowest}
use Rattle.hull_limits.proofs.MadeSteps.{IsOkAnd-bind, IsOkAnd-more, behind-makes, each-makes}

-- ---- numbers

-- a number is at most so great in magnitude
abbrev pub IsWithin : ℕ → ℤ → Type 0
IsWithin n z = unsigned_abs z ≤ n

-- and so is each of a list
abbrev pub AreWithin : ℕ → List ℤ → Type 0
AreWithin n numbers = AllByRecursion (IsWithin n) numbers

pub within-places : (n : ℕ) (v : List ℤ) → ((i : ℕ) → i < length v → unsigned_abs (entry v i) ≤ n) → AreWithin n v
within-places n [] h = tt
within-places n (z ∷ v) h = (h 0 (omega arith), within-places n v (λ i l. h (suc i) (omega (arith, l))))

fits-within : (z : ℤ) → unsigned_abs z < 2 ^ 127 → fits z ≡ true
fits-within (pos n) h = grind (arith, h)
fits-within (negsuc n) h = grind (arith, h)

pub product-within : (a b : ℤ) (m n : ℕ) → IsWithin m a → IsWithin n b → IsWithin (m * n) (a *ℤ b)
product-within a b m n h k = omega (arith, unsigned_abs-mul a b, mul-le-mul h k)

pub product-makes : (a b : ℤ) (m n : ℕ) → IsWithin m a → IsWithin n b → m * n < 2 ^ 127 → IsOkAnd (product_of a b) (IsWithin (m * n))
product-makes a b m n h k l =
    let small : unsigned_abs (a *ℤ b) ≤ m * n = product-within a b m n h k in
    rw (fits-within (a *ℤ b) (omega (arith, small, l))) small

pub sum-within : (a b : ℤ) (m n : ℕ) → IsWithin m a → IsWithin n b → IsWithin (m + n) (a +ℤ b)
sum-within a b m n h k = omega (arith, unsigned_abs-+ℤ a b, h, k)

pub sum-makes : (a b : ℤ) (m n : ℕ) → IsWithin m a → IsWithin n b → m + n < 2 ^ 127 → IsOkAnd (sum_of a b) (IsWithin (m + n))
sum-makes a b m n h k l =
    let small : unsigned_abs (a +ℤ b) ≤ m + n = sum-within a b m n h k in
    rw (fits-within (a +ℤ b) (omega (arith, small, l))) small

pub two-makes : (r s : Made ℤ) (m n : ℕ) → IsOkAnd r (IsWithin m) → IsOkAnd s (IsWithin n) → m + n < 2 ^ 127 → IsOkAnd (r ⊞ s) (IsWithin (m + n))
two-makes r s m n h k l =
    IsOkAnd-bind (IsWithin m) (IsWithin (m + n)) r (λ x. s >>= λ y. sum_of x y) h (λ x p. IsOkAnd-bind (IsWithin n) (IsWithin (m + n)) s (λ y. sum_of x y) k (λ y q. sum-makes x y m n p q l))

pub opposite_number-makes : (z : ℤ) (n : ℕ) → IsWithin n z → n < 2 ^ 127 → IsOkAnd (in_bits.opposite_number z) (IsWithin n)
opposite_number-makes z n h l = IsOkAnd-more (IsWithin (n * 1)) (IsWithin n) (product_of z (negsuc 0)) (λ x k. omega (arith, k)) (product-makes z (negsuc 0) n 1 h (omega arith) (omega (arith, l)))

pub magnitude-makes : (z : ℤ) (n : ℕ) → IsWithin n z → n < 2 ^ 127 → IsOkAnd (in_bits.magnitude z) (IsWithin n)
magnitude-makes z n h l = go (int_lt z (pos 0))
  where
    go : (b : Bool) → IsOkAnd (cond b (in_bits.opposite_number z) (Ok z)) (IsWithin n)
    go true = opposite_number-makes z n h l
    go false = h

pub opposite_along-makes : (sign z : ℤ) (n : ℕ) → IsWithin n z → n < 2 ^ 127 → IsOkAnd (in_bits.opposite_along sign z) (IsWithin n)
opposite_along-makes sign z n h l = go (int_lt sign (pos 0))
  where
    go : (b : Bool) → IsOkAnd (cond b (Ok z) (in_bits.opposite_number z)) (IsWithin n)
    go true = h
    go false = opposite_number-makes z n h l

-- ---- vectors

-- the sum of the magnitudes of numbers
abbrev pub total : List ℤ → ℕ
total [] = 0
total (z ∷ zs) = unsigned_abs z + total zs

pub total-within : (n : ℕ) (v : List ℤ) → AreWithin n v → total v ≤ length v * n
total-within n [] h = omega arith
total-within n (z ∷ v) h = omega (arith, h.0, total-within n v h.1, add-mul 1 (length v) n)

pub dot-makes : (most : ℕ) (line v : List ℤ) → AreWithin most line → most * total v < 2 ^ 127 → IsOkAnd (in_bits.dot line v) (IsWithin (most * total v))
dot-makes most [] v h l = omega arith
dot-makes most (x ∷ line) [] h l = omega arith
dot-makes most (x ∷ line) (y ∷ v) h l =
    let parts : most * (unsigned_abs y + total v) ≡ most * unsigned_abs y + most * total v = mul-add most (unsigned_abs y) (total v) in
    IsOkAnd-more (IsWithin (most * unsigned_abs y + most * total v)) (IsWithin (most * (unsigned_abs y + total v))) (product_of x y ⊞ in_bits.dot line v) (λ z k. omega (arith, k, parts))
    (two-makes (product_of x y) (in_bits.dot line v) (most * unsigned_abs y) (most * total v)
    (product-makes x y most (unsigned_abs y) h.0 (omega arith) (omega (arith, l, parts))) (dot-makes most line v h.1 (omega (arith, l, parts))) (omega (arith, l, parts)))

-- each number times another
scaled-makes : (b : ℤ) (n : ℕ) (ys : List ℤ) → IsWithin n b → n * total ys < 2 ^ 127 → IsOkAnd (in_bits.each (product_of b) ys) (λ w. total w ≤ n * total ys)
scaled-makes b n [] h l = omega arith
scaled-makes b n (y ∷ ys) h l =
    let parts : n * (unsigned_abs y + total ys) ≡ n * unsigned_abs y + n * total ys = mul-add n (unsigned_abs y) (total ys) in
    IsOkAnd-bind (IsWithin (n * unsigned_abs y)) (λ w. total w ≤ n * (unsigned_abs y + total ys)) (product_of b y) (λ z. in_bits.behind (z ∷ []) (in_bits.each (product_of b) ys))
    (product-makes b y n (unsigned_abs y) h (omega arith) (omega (arith, l, parts)))
    (λ z k. IsOkAnd-bind (λ w. total w ≤ n * total ys) (λ w. total w ≤ n * (unsigned_abs y + total ys)) (in_bits.each (product_of b) ys) (λ made. Ok (z ∷ made))
    (scaled-makes b n ys h (omega (arith, l, parts))) (λ made m. omega (arith, k, m, parts)))

pub combination-makes : (a b : ℤ) (m n : ℕ) (v u : List ℤ) → IsWithin m a → IsWithin n b → m * total v + n * total u < 2 ^ 127 → IsOkAnd (in_bits.combination a v b u) (λ w. total w ≤ m * total v + n * total u)
combination-makes a b m n [] ys h k l = IsOkAnd-more (λ w. total w ≤ n * total ys) (λ w. total w ≤ m * 0 + n * total ys) (in_bits.each (product_of b) ys) (λ w e. omega (arith, e)) (scaled-makes b n ys k (omega (arith, l)))
combination-makes a b m n (x ∷ xs) [] h k l =
    IsOkAnd-more (λ w. total w ≤ m * total (x ∷ xs)) (λ w. total w ≤ m * total (x ∷ xs) + n * 0) (in_bits.each (product_of a) (x ∷ xs)) (λ w e. omega (arith, e)) (scaled-makes a m (x ∷ xs) h (omega (arith, l)))
combination-makes a b m n (x ∷ xs) (y ∷ ys) h k l =
    let left : m * (unsigned_abs x + total xs) ≡ m * unsigned_abs x + m * total xs = mul-add m (unsigned_abs x) (total xs) in
    let right : n * (unsigned_abs y + total ys) ≡ n * unsigned_abs y + n * total ys = mul-add n (unsigned_abs y) (total ys) in
    IsOkAnd-bind (IsWithin (m * unsigned_abs x + n * unsigned_abs y)) (λ w. total w ≤ m * (unsigned_abs x + total xs) + n * (unsigned_abs y + total ys))
    (in_bits.sum_of_products a x b y) (λ z. in_bits.behind (z ∷ []) (in_bits.combination a xs b ys))
    (two-makes (product_of a x) (product_of b y) (m * unsigned_abs x) (n * unsigned_abs y)
    (product-makes a x m (unsigned_abs x) h (omega arith) (omega (arith, l, left, right)))
    (product-makes b y n (unsigned_abs y) k (omega arith) (omega (arith, l, left, right))) (omega (arith, l, left, right)))
    (λ z p. IsOkAnd-bind (λ w. total w ≤ m * total xs + n * total ys) (λ w. total w ≤ m * (unsigned_abs x + total xs) + n * (unsigned_abs y + total ys))
    (in_bits.combination a xs b ys) (λ made. Ok (z ∷ made))
    (combination-makes a b m n xs ys h k (omega (arith, l, left, right))) (λ made q. omega (arith, p, q, left, right)))

-- ---- each number of a vector

scaled_each-makes : (b : ℤ) (n most : ℕ) (ys : List ℤ) → IsWithin n b → AreWithin most ys → n * most < 2 ^ 127 → IsOkAnd (in_bits.each (product_of b) ys) (AreWithin (n * most))
scaled_each-makes b n most ys h k l = each-makes (IsWithin most) (IsWithin (n * most)) (product_of b) (λ y p. product-makes b y n most h p l) ys k

pub combination_each-makes : (a b : ℤ) (m n p q : ℕ) (v u : List ℤ) → IsWithin m a → IsWithin n b → AreWithin p v → AreWithin q u → m * p + n * q < 2 ^ 127 → IsOkAnd (in_bits.combination a v b u) (AreWithin (m * p + n * q))
combination_each-makes a b m n p q [] ys h k s t l =
    IsOkAnd-more (AreWithin (n * q)) (AreWithin (m * p + n * q)) (in_bits.each (product_of b) ys) (λ w. each-more (IsWithin (n * q)) (IsWithin (m * p + n * q)) (λ z e. omega (arith, e)) w)
    (scaled_each-makes b n q ys k t (omega (arith, l)))
combination_each-makes a b m n p q (x ∷ xs) [] h k s t l =
    IsOkAnd-more (AreWithin (m * p)) (AreWithin (m * p + n * q)) (in_bits.each (product_of a) (x ∷ xs)) (λ w. each-more (IsWithin (m * p)) (IsWithin (m * p + n * q)) (λ z e. omega (arith, e)) w)
    (scaled_each-makes a m p (x ∷ xs) h s (omega (arith, l)))
combination_each-makes a b m n p q (x ∷ xs) (y ∷ ys) h k s t l =
    IsOkAnd-bind (IsWithin (m * p + n * q)) (AreWithin (m * p + n * q)) (in_bits.sum_of_products a x b y) (λ z. in_bits.behind (z ∷ []) (in_bits.combination a xs b ys))
    (two-makes (product_of a x) (product_of b y) (m * p) (n * q) (product-makes a x m p h s.0 (omega (arith, l))) (product-makes b y n q k t.0 (omega (arith, l))) l)
    (λ z e. behind-makes (IsWithin (m * p + n * q)) (z ∷ []) (in_bits.combination a xs b ys) (e, tt) (combination_each-makes a b m n p q xs ys h k s.1 t.1 l))

pub opposite-makes : (v : List ℤ) (n : ℕ) → AreWithin n v → n < 2 ^ 127 → IsOkAnd (in_bits.opposite v) (AreWithin n)
opposite-makes v n h l = each-makes (IsWithin n) (IsWithin n) in_bits.opposite_number (λ z k. opposite_number-makes z n k l) v h

pub opposite_total-makes : (v : List ℤ) (n : ℕ) → total v ≤ n → n < 2 ^ 127 → IsOkAnd (in_bits.opposite v) (λ w. total w ≤ n)
opposite_total-makes [] n h l = omega arith
opposite_total-makes (z ∷ zs) n h l =
    IsOkAnd-bind (IsWithin (unsigned_abs z)) (λ w. total w ≤ n) (in_bits.opposite_number z) (λ y. in_bits.behind (y ∷ []) (in_bits.opposite zs)) (opposite_number-makes z (unsigned_abs z) (omega arith) (omega (arith, h, l)))
    (λ y k. IsOkAnd-bind (λ w. total w ≤ total zs) (λ w. total w ≤ n) (in_bits.opposite zs) (λ made. Ok (y ∷ made)) (opposite_total-makes zs (total zs) (omega arith) (omega (arith, h, l))) (λ made m. omega (arith, h, k, m)))

-- ---- without common divisor

quotient-within : (z : ℤ) (d n : ℕ) → IsWithin n z → IsWithin n (int_div z (pos d))
quotient-within z d n h = omega (arith, h, unsigned_abs-int_div z d, div-le_self (unsigned_abs z) d)

quotients-total : (d : ℕ) (zs : List ℤ) → total (map (λ z. int_div z (pos d)) zs) ≤ total zs
quotients-total d [] = omega arith
quotients-total d (z ∷ zs) = omega (arith, quotient-within z d (unsigned_abs z) (omega arith), quotients-total d zs)

pub lowest-total : (v : List ℤ) → total (lowest v) ≤ total v
lowest-total v = go (nat_eq (gcd_of_all v) 0)
  where
    go : (b : Bool) → total (cond b v (map (λ z. int_div z (pos (gcd_of_all v))) v)) ≤ total v
    go true = omega arith
    go false = quotients-total (gcd_of_all v) v

pub lowest-within : (n : ℕ) (v : List ℤ) → AreWithin n v → AreWithin n (lowest v)
lowest-within n v h = go (nat_eq (gcd_of_all v) 0)
  where
    go : (b : Bool) → AreWithin n (cond b v (map (λ z. int_div z (pos (gcd_of_all v))) v))
    go true = h
    go false = each-map (IsWithin n) (IsWithin n) (λ z. int_div z (pos (gcd_of_all v))) (λ z. quotient-within z (gcd_of_all v) n) v h

-- the common divisor of a multiple
pub multiple-divisor : (m : ℤ) (v : List ℤ) → 0 < unsigned_abs m → gcd_of_all (map (λ z. m *ℤ z) v) ≡ gcd_of_all v * unsigned_abs m
multiple-divisor m [] p = sym (zero-mul (unsigned_abs m))
multiple-divisor m (z ∷ v) p =
    (λ i. gcd_of ((unsigned_abs-mul m z ∙ mul_comm (unsigned_abs m) (unsigned_abs z)) i) (multiple-divisor m v p i))
    ∙ gcd_of-times (unsigned_abs z) (gcd_of_all v) (unsigned_abs m) p

-- ---- moved along a pivot

-- magnitudes of a vector that is moved along another one, both of at most so great a total, to where
-- a line is 0 whose numbers are at most so great
abbrev pub moved_total : ℕ → ℕ → ℕ
moved_total most n = most * n * n + most * n * n

pub projection-makes : (most n : ℕ) (line pivot v : List ℤ) → AreWithin most line → total pivot ≤ n → total v ≤ n → most * n < 2 ^ 127 → moved_total most n < 2 ^ 127 → IsOkAnd (in_bits.projection line pivot v) (λ w. total w ≤ moved_total most n)
projection-makes most n line pivot v h p q l k =
    IsOkAnd-bind (IsWithin (most * n)) Moved (in_bits.dot line pivot) _ (value pivot p) (λ own a.
    IsOkAnd-bind (IsWithin (most * n)) Moved (in_bits.dot line v) _ (value v q) (λ other b.
    IsOkAnd-bind (IsWithin (most * n)) Moved (in_bits.magnitude own) _ (magnitude-makes own (most * n) a l) (λ times c.
    IsOkAnd-bind (IsWithin (most * n)) Moved (in_bits.opposite_along own other) _ (opposite_along-makes own other (most * n) b l) (λ by d.
    IsOkAnd-bind Moved Moved (in_bits.combination times v by pivot) (λ made. Ok (lowest made)) (whole times by c d) (λ made e. omega (arith, lowest-total made, e))))))
  where
    Moved : List ℤ → Type 0
    Moved w = total w ≤ moved_total most n

    value : (w : List ℤ) → total w ≤ n → IsOkAnd (in_bits.dot line w) (IsWithin (most * n))
    value w r =
        let up : most * total w ≤ most * n = mul-le-mul_left most r in
        IsOkAnd-more (IsWithin (most * total w)) (IsWithin (most * n)) (in_bits.dot line w) (λ z s. omega (arith, up, s)) (dot-makes most line w h (omega (arith, up, l)))

    whole : (times by : ℤ) → IsWithin (most * n) times → IsWithin (most * n) by → IsOkAnd (in_bits.combination times v by pivot) Moved
    whole times by c d =
        let left : most * n * total v ≤ most * n * n = mul-le-mul_left (most * n) q in
        let right : most * n * total pivot ≤ most * n * n = mul-le-mul_left (most * n) p in
        IsOkAnd-more (λ w. total w ≤ most * n * total v + most * n * total pivot) Moved (in_bits.combination times v by pivot) (λ w s. omega (arith, left, right, s))
        (combination-makes times by (most * n) (most * n) v pivot c d (omega (arith, left, right, k)))
