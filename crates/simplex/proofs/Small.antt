-- An exchange of small numbers stays within 128 bits.
use Rattle.std.proofs.Common.{◌≡◌, ℕ, zero, suc, ◌+◌, ◌*◌, ◌^◌, ◌<◌, ◌≤◌, Bool, true, false, cond, List, [], ◌∷◌, get_or, refl, sym, ap, subst, ◌∙◌, arith, Ok, Err, ℤ, pos, negsuc, ◌+ℤ◌, ◌*ℤ◌}
use Rattle.std.specs.Prelude.{slice_set, unsigned_abs, nat_eq, int_lt, Result}
use Rattle.std.specs.Ordering.{int_eq}
use Rattle.std.proofs.lemmas.Int.{ints, unsigned_abs-mul}
use Rattle.std.proofs.lemmas.Bool.{lt-ltb}
use Rattle.std.proofs.Math.Nat.{mul-le-mul}
use Rattle.items.specs.Gives.{◌>>=◌}
use Rattle.whole_numbers.specs.Fits.{fits, sum_of, product_of}
use Rattle.whole_numbers.specs.declared.wide.Wide as Step
use Rattle.simplex.specs.declared.tableau.Tableau.{Tableau}
use Rattle.simplex.specs.Calm.{HasSquares}
use Rattle.simplex.proofs.Numbers.{line_multiple-number, tableau_ok}
use Rattle.simplex.specs.Exchange.{sum_of_products, sum_of_lines, line_multiple, reduced_line, upright_line, line_without, line_without_at, lines_without, exchange}
use Rattle.farkas_check.specs.Relations.{entry}

-- each number is at most n in size
abbrev pub AreSmall : ℕ → List ℤ → Type 0
AreSmall n line = (j : ℕ) → unsigned_abs (entry line j) ≤ n

-- the result is a value
abbrev pub HasValue : {X : Type 0} → Result X Step.Wide → Type 0
HasValue {X} r = (x : X) × (r ≡ Ok x)

pub bind_value : {X Y : Type 0} (r : Result X Step.Wide) (f : X → Result Y Step.Wide) → HasValue r → ((x : X) → r ≡ Ok x → HasValue (f x)) → HasValue (r >>= f)
bind_value (Ok x) f h k = k x refl
bind_value (Err e) f h k = let clash = h.1 in cc

-- ---- single numbers

fits-below : (z : ℤ) → unsigned_abs z < 2 ^ 127 → fits z ≡ true
fits-below (pos n) h = lt-ltb n (2 ^ 127) h
fits-below (negsuc n) h = lt-ltb n (2 ^ 127) (omega (arith, h))

pub product-small : (m n : ℕ) (a b : ℤ) → unsigned_abs a ≤ m → unsigned_abs b ≤ n → unsigned_abs (a *ℤ b) ≤ m * n
product-small m n a b h k = rw (unsigned_abs-mul a b) (mul-le-mul h k)

sum-small : (a b : ℤ) → unsigned_abs (a +ℤ b) ≤ unsigned_abs a + unsigned_abs b
sum-small a b = omega (arith, ints)

pub product_of-fits : (a b : ℤ) → unsigned_abs (a *ℤ b) < 2 ^ 127 → product_of a b ≡ Ok (a *ℤ b)
product_of-fits a b h = rw (fits-below (a *ℤ b) h) refl

pub sum_of-fits : (a b : ℤ) → unsigned_abs (a +ℤ b) < 2 ^ 127 → sum_of a b ≡ Ok (a +ℤ b)
sum_of-fits a b h = rw (fits-below (a +ℤ b) h) refl

-- sizes whose two products together are below 2 ^ 127

sum_of_products-fits : (n : ℕ) (p a q b : ℤ) → HasSquares n → unsigned_abs p ≤ n → unsigned_abs a ≤ n → unsigned_abs q ≤ n → unsigned_abs b ≤ n → sum_of_products p a q b ≡ Ok (p *ℤ a +ℤ q *ℤ b)
sum_of_products-fits n p a q b room hp ha hq hb =
    let x : unsigned_abs (p *ℤ a) ≤ n * n = product-small n n p a hp ha in
    let y : unsigned_abs (q *ℤ b) ≤ n * n = product-small n n q b hq hb in
    let z : unsigned_abs (p *ℤ a +ℤ q *ℤ b) ≤ unsigned_abs (p *ℤ a) + unsigned_abs (q *ℤ b) = sum-small (p *ℤ a) (q *ℤ b) in
    rw (product_of-fits p a (omega arith), product_of-fits q b (omega arith)) (sum_of-fits (p *ℤ a) (q *ℤ b) (omega arith))

-- ---- lines

tail-small : (n : ℕ) (a : ℤ) (line : List ℤ) → AreSmall n (a ∷ line) → AreSmall n line
tail-small n a line h j = h (suc j)

sum_of_lines-fits : (n : ℕ) (p : ℤ) (line : List ℤ) (q : ℤ) (pivot : List ℤ) → HasSquares n → unsigned_abs p ≤ n → unsigned_abs q ≤ n → AreSmall n line → AreSmall n pivot → HasValue (sum_of_lines p line q pivot)
sum_of_lines-fits n p [] q pivot room hp hq h k = ([], refl)
sum_of_lines-fits n p (a ∷ line) q [] room hp hq h k = ([], refl)
sum_of_lines-fits n p (a ∷ line) q (b ∷ pivot) room hp hq h k =
    bind_value (sum_of_products p a q b) (λ z. sum_of_lines p line q pivot >>= λ made. Ok (z ∷ made)) (p *ℤ a +ℤ q *ℤ b, sum_of_products-fits n p a q b room hp (h 0) hq (k 0))
    (λ z e. rest z (sum_of_lines-fits n p line q pivot room hp hq (tail-small n a line h) (tail-small n b pivot k)))
  where
    rest : (z : ℤ) → HasValue (sum_of_lines p line q pivot) → HasValue (sum_of_lines p line q pivot >>= λ made. Ok (z ∷ made))
    rest z v = bind_value (sum_of_lines p line q pivot) (λ made. Ok (z ∷ made)) v (λ made e. (z ∷ made, refl))

pub negative-fits : (n : ℕ) (a : ℤ) → HasSquares n → unsigned_abs a ≤ n → product_of a (negsuc 0) ≡ Ok (a *ℤ negsuc 0)
negative-fits n a room h = product_of-fits a (negsuc 0) (let x : unsigned_abs (a *ℤ negsuc 0) ≡ unsigned_abs a = omega (arith, ints) in small (unsigned_abs a) (unsigned_abs (a *ℤ negsuc 0)) x h)
  where
    small : (x y : ℕ) → y ≡ x → x ≤ n → y < 2 ^ 127
    small x y e k = let m : n ≤ n * n + n * n = at_least n in omega arith
      where
        at_least : (n : ℕ) → n ≤ n * n + n * n
        at_least zero = omega arith
        at_least (suc n) = let m : suc n * 1 ≤ suc n * suc n = mul-le-mul (omega arith) (omega arith) in omega arith

pub line_multiple-fits : (n : ℕ) (line : List ℤ) → HasSquares n → AreSmall n line → HasValue (line_multiple line (negsuc 0))
line_multiple-fits n [] room h = ([], refl)
line_multiple-fits n (a ∷ line) room h =
    bind_value (product_of a (negsuc 0)) (λ z. line_multiple line (negsuc 0) >>= λ made. Ok (z ∷ made)) (a *ℤ negsuc 0, negative-fits n a room (h 0))
    (λ z e. rest z (line_multiple-fits n line room (tail-small n a line h)))
  where
    rest : (z : ℤ) → HasValue (line_multiple line (negsuc 0)) → HasValue (line_multiple line (negsuc 0) >>= λ made. Ok (z ∷ made))
    rest z v = bind_value (line_multiple line (negsuc 0)) (λ made. Ok (z ∷ made)) v (λ made e. (z ∷ made, refl))

pub upright-fits : (n column : ℕ) (line : List ℤ) → HasSquares n → AreSmall n line → HasValue (upright_line column line)
upright-fits n column line room h = go (int_lt (entry line column) (pos 0))
  where
    go : (b : Bool) → HasValue (cond b (line_multiple line (negsuc 0)) (Ok line))
    go true = line_multiple-fits n line room h
    go false = (line, refl)

line_without-fits : (n column : ℕ) (pivot line : List ℤ) → HasSquares n → AreSmall n line → AreSmall n pivot → HasValue (line_without column pivot line)
line_without-fits n column pivot line room h k = go (int_eq (entry line column) (pos 0))
  where
    sizes : (a : ℤ) → unsigned_abs (a *ℤ negsuc 0) ≡ unsigned_abs a
    sizes a = omega (arith, ints)

    go : (b : Bool) → HasValue (cond b (Ok line) (product_of (entry line column) (negsuc 0) >>= λ q. sum_of_lines (entry pivot column) line q pivot >>= λ made. Ok (reduced_line made)))
    go true = (line, refl)
    go false =
        bind_value (product_of (entry line column) (negsuc 0)) (λ q. sum_of_lines (entry pivot column) line q pivot >>= λ made. Ok (reduced_line made)) (entry line column *ℤ negsuc 0, negative-fits n (entry line column) room (h column))
        (λ q e. rest q (sum_of_lines-fits n (entry pivot column) line q pivot room (k column) (small q e) h k))
      where
        small : (q : ℤ) → product_of (entry line column) (negsuc 0) ≡ Ok q → unsigned_abs q ≤ n
        small q e =
            let same : entry line column *ℤ negsuc 0 ≡ q = let f : Ok (entry line column *ℤ negsuc 0) ≡ Ok q = sym (negative-fits n (entry line column) room (h column)) ∙ e in cc in
            let size : unsigned_abs q ≡ unsigned_abs (entry line column) = ap unsigned_abs (sym same) ∙ sizes (entry line column) in
            let known : unsigned_abs (entry line column) ≤ n = h column in omega arith

        rest : (q : ℤ) → HasValue (sum_of_lines (entry pivot column) line q pivot) → HasValue (sum_of_lines (entry pivot column) line q pivot >>= λ made. Ok (reduced_line made))
        rest q v = bind_value (sum_of_lines (entry pivot column) line q pivot) (λ made. Ok (reduced_line made)) v (λ made e. (reduced_line made, refl))

upright-small : (n column : ℕ) (line made : List ℤ) → AreSmall n line → upright_line column line ≡ Ok made → AreSmall n made
upright-small n column line made h e = go (int_lt (entry line column) (pos 0)) e
  where
    sizes : (a : ℤ) → unsigned_abs (a *ℤ negsuc 0) ≡ unsigned_abs a
    sizes a = omega (arith, ints)

    go : (b : Bool) → cond b (line_multiple line (negsuc 0)) (Ok line) ≡ Ok made → AreSmall n made
    go true f j =
        let size : unsigned_abs (entry made j) ≡ unsigned_abs (entry line j) = ap unsigned_abs (line_multiple-number line (negsuc 0) made f j) ∙ sizes (entry line j) in
        let known : unsigned_abs (entry line j) ≤ n = h j in omega arith
    go false f j = let same : line ≡ made = cc in subst (AreSmall n) same h j

-- each line is small
abbrev pub EachSmall : ℕ → List (List ℤ) → Type 0
EachSmall n lines = (i : ℕ) → AreSmall n (get_or lines i [])

lines_without-fits : (n column : ℕ) (pivot : List ℤ) (place i : ℕ) (lines : List (List ℤ)) → HasSquares n → AreSmall n pivot → EachSmall n lines → HasValue (lines_without column pivot place i lines)
lines_without-fits n column pivot place i [] room k h = ([], refl)
lines_without-fits n column pivot place i (line ∷ lines) room k h =
    bind_value (line_without_at column pivot place i line) (λ made. lines_without column pivot place (i + 1) lines >>= λ more. Ok (made ∷ more)) (first (nat_eq i place))
    (λ made e. rest made (lines_without-fits n column pivot place (i + 1) lines room k (λ l. h (suc l))))
  where
    first : (b : Bool) → HasValue (cond b (Ok pivot) (line_without column pivot line))
    first true = (pivot, refl)
    first false = line_without-fits n column pivot line room (h 0) k

    rest : (made : List ℤ) → HasValue (lines_without column pivot place (i + 1) lines) → HasValue (lines_without column pivot place (i + 1) lines >>= λ more. Ok (made ∷ more))
    rest made v = bind_value (lines_without column pivot place (i + 1) lines) (λ more. Ok (made ∷ more)) v (λ more e. (made ∷ more, refl))

-- no step of an exchange of small numbers leaves 128 bits
pub exchange-fits : (n : ℕ) (t : Tableau) (line column : ℕ) → HasSquares n → EachSmall n t.lines → HasValue (exchange t line column)
exchange-fits n t line column room h =
    bind_value (upright_line column (get_or t.lines line [])) (λ pivot. lines_without column pivot line 0 t.lines >>= λ lines. tableau_ok (record { lines = lines; chosen = slice_set t.chosen line column })) (upright-fits n column (get_or t.lines line []) room (h line))
    (λ pivot e. rest pivot (lines_without-fits n column pivot line 0 t.lines room (upright-small n column (get_or t.lines line []) pivot (h line) e) h))
  where
    rest : (pivot : List ℤ) → HasValue (lines_without column pivot line 0 t.lines) → HasValue (lines_without column pivot line 0 t.lines >>= λ lines. tableau_ok (record { lines = lines; chosen = slice_set t.chosen line column }))
    rest pivot v = bind_value (lines_without column pivot line 0 t.lines) (λ lines. tableau_ok (record { lines = lines; chosen = slice_set t.chosen line column })) v (λ lines e. (record { lines = lines; chosen = slice_set t.chosen line column }, refl))
