-- The text of a ratio reads as it.
use Rattle.std.proofs.Common.{arith, ◌≡◌, ℕ, ◌+◌, ◌<◌, ◌^◌, ◌<ℤ◌, Bool, true, false, List, [], ◌∷◌, ◌++◌, length, take, drop, ℤ, pos, negsuc, FitsSigned, get_or, zero, suc, ap, sym, ◌∙◌, refl, length-append}
use Rattle.std.specs.Int.{w128}
use Rattle.std.specs.Prelude.{None, Some, ◌&&◌, not, if◌then◌else◌, int_lt, nat_lt, position, option_map, option_and_then, Result, Ok, Err, IfOk}
use Rattle.std.specs.Fmt.{decimal, signed_decimal}
use Rattle.std.specs.List.{position_or_len}
use Rattle.std.specs.Ordering.{int_eq}
use Rattle.std.specs.Str.Parse.{AllDigits}
use Rattle.std.proofs.lemmas.Bool.{and_from, eq-eqb, le-ltb, lt-ltb, ne_eqb}
use Rattle.std.proofs.lemmas.Bool.Decides.{Decides-int_eq}
use Rattle.std.proofs.lemmas.Int.{ints}
use Rattle.std.proofs.lemmas.List.{append-nil}
use Rattle.std.proofs.lemmas.Fmt.{decimal_is_IsNumeral_wide}
use Rattle.std.proofs.lemmas.List.Sums.{position_or_len_is}
use Rattle.std.proofs.lemmas.Str.Parse.{digit_at}
use Rattle.std.proofs.Math.ListN.{get_or-append}
use Rattle.std.proofs.Math.Seq.{drop-append-add, get_or-append_seam, take-append_seam}
use Rattle.farkas_check.specs.Ratios.{Fraction, IsLowest, is_lowest, ratio_text, whole}
use Rattle.serde_json.specs.Data.{string}
use Rattle.serde_json.specs.View.{view}
use Rattle.serde_json.specs.declared.value.Value.{Value}
use Rattle.wire.specs.Shapes.{or_wrong}
use Rattle.wire.specs.Numbers.{is_slash, number_of, ratio, ratio_cut, ratio_of, ratio_of_two, ratio_over}
use Rattle.wire.proofs.NumberTexts.{number_of-signed_decimal}

int_lt-true : (x y : ℤ) → x <ℤ y → int_lt x y ≡ true
int_lt-true x y lt = each (int_lt x y) refl where
  each : (b : Bool) → int_lt x y ≡ b → int_lt x y ≡ true
  each true e = e
  each false e = absurd (omega (arith, ints, lt, e))

is_lowest-true : (r : Fraction) → IsLowest r → is_lowest r.num r.den ≡ true
is_lowest-true r lowest = and_from (int_lt (pos 0) r.den) _ (int_lt-true (pos 0) r.den lowest.positive) (eq-eqb _ 1 lowest.lowest)

digits-slash : (ds : List ℕ) (k : ℕ) → AllDigits 10 ds → k < length ds → is_slash (get_or ds k 0) ≡ false
digits-slash ds k digits lt = let digit = digit_at ds k digits lt in ne_eqb (get_or ds k 0) 47 (λ e. omega (arith, e, digit))

-- no byte of a number's text is a slash
signed_decimal-slash : (z : ℤ) → FitsSigned w128 z → (k : ℕ) → k < length (signed_decimal z) → is_slash (get_or (signed_decimal z) k 0) ≡ false
signed_decimal-slash (pos n) f k lt = let small : n < 2 ^ 127 = f.sfits in digits-slash (decimal n) k (decimal_is_IsNumeral_wide n (omega (arith, small))).0.1 lt
signed_decimal-slash (negsuc n) f zero lt = refl
signed_decimal-slash (negsuc n) f (suc k) lt =
    let small : n < 2 ^ 127 = f.sfits in digits-slash (decimal (suc n)) k (decimal_is_IsNumeral_wide (suc n) (omega (arith, small))).0.1 (omega (arith, lt))

position-none : (ds : List ℕ) → ((k : ℕ) → k < length ds → is_slash (get_or ds k 0) ≡ false) → position is_slash ds ≡ None
position-none ds plain =
    let place = position_or_len_is is_slash ds (length ds) 0 (omega arith) plain (λ lt. absurd (omega (arith, lt))) in
    ap (λ n. if nat_lt n (length ds) then Some n else None) place ∙ ap (λ b. if b then Some (length ds) else None) (not_below (length ds))
  where
    not_below : (n : ℕ) → nat_lt n n ≡ false
    not_below n = le-ltb n n (omega arith)

-- a text that is cut at its first slash
position-cut : (above below : List ℕ) → ((k : ℕ) → k < length above → is_slash (get_or above k 0) ≡ false) → position_or_len is_slash (above ++ 47 ∷ below) ≡ length above
position-cut above below plain = position_or_len_is is_slash (above ++ 47 ∷ below) (length above) 0 (rw length-append (omega arith))
    (λ k lt. ap is_slash (get_or-append above (47 ∷ below) 0 k lt) ∙ plain k lt)
    (λ lt. ap is_slash (get_or-append_seam above 47 below 0))

position-some : (above below : List ℕ) → position_or_len is_slash (above ++ 47 ∷ below) ≡ length above → position is_slash (above ++ 47 ∷ below) ≡ Some (length above)
position-some above below place =
    let within : length above < length (above ++ 47 ∷ below) = (rw length-append (omega arith)) in
    ap (λ n. if nat_lt n (length (above ++ 47 ∷ below)) then Some n else None) place
    ∙ ap (λ b. if b then Some (length above) else None) (lt-ltb (length above) (length (above ++ 47 ∷ below)) within)

ratio_of-cut : (above below : List ℕ) → ((k : ℕ) → k < length above → is_slash (get_or above k 0) ≡ false) → ratio_of (above ++ 47 ∷ below) ≡ ratio_of_two above below
ratio_of-cut above below plain =
    let place = position-cut above below plain in
    ap (λ at. ratio_cut at (above ++ 47 ∷ below)) (position-some above below place)
    ∙ ap (λ n. ratio_of_two (take n (above ++ 47 ∷ below)) (drop (n + 1) (above ++ 47 ∷ below))) place
    ∙ ap (λ front. ratio_of_two front (drop (length above + 1) (above ++ 47 ∷ below))) (take-append_seam above (47 ∷ below))
    ∙ ap (ratio_of_two above) (drop-append-add above (47 ∷ below) 1)

ratio_of_two-texts : (r : Fraction) → IsLowest r → int_eq r.den (pos 1) ≡ false → FitsSigned w128 r.num → FitsSigned w128 r.den
    → ratio_of_two (signed_decimal r.num) (signed_decimal r.den) ≡ Some r
ratio_of_two-texts r lowest uneven n d =
    ap (λ num. option_and_then (λ num. option_and_then (ratio_over num) (number_of (signed_decimal r.den))) num) (number_of-signed_decimal r.num n)
    ∙ ap (option_and_then (ratio_over r.num)) (number_of-signed_decimal r.den d)
    ∙ ap (λ b. if not b && is_lowest r.num r.den then Some r else None) uneven
    ∙ ap (λ b. if b then Some r else None) (is_lowest-true r lowest)

pub ratio_of-ratio_text : (r : Fraction) → IsLowest r → FitsSigned w128 r.num → FitsSigned w128 r.den → ratio_of (ratio_text r) ≡ Some r
ratio_of-ratio_text r lowest n d = cut (int_eq r.den (pos 1)) refl where
  cut : (b : Bool) → int_eq r.den (pos 1) ≡ b → ratio_of (ratio_text r) ≡ Some r
  cut false e = ap (λ b. ratio_of (signed_decimal r.num ++ (if b then [] else 47 ∷ signed_decimal r.den))) e
      ∙ ratio_of-cut (signed_decimal r.num) (signed_decimal r.den) (signed_decimal-slash r.num n) ∙ ratio_of_two-texts r lowest e n d
  cut true e = ap (λ b. ratio_of (signed_decimal r.num ++ (if b then [] else 47 ∷ signed_decimal r.den))) e
      ∙ ap ratio_of (append-nil (signed_decimal r.num))
      ∙ ap (λ at. ratio_cut at (signed_decimal r.num)) (position-none (signed_decimal r.num) (signed_decimal-slash r.num n))
      ∙ ap (option_map whole) (number_of-signed_decimal r.num n)
      ∙ ap (λ den. Some record { num = r.num; den = den }) (sym ((Decides-int_eq r.den (pos 1)).0 e))

-- what is made of the text of a ratio reads as it
pub ratio-string : {E : Type 0} (r : Fraction) (bytes : List ℕ) (made : Result Value E) → bytes ≡ ratio_text r → ratio_of (ratio_text r) ≡ Some r
    → IfOk made (λ part. view part ≡ string bytes) → IfOk made (λ part. ratio (view part) ≡ Ok r)
ratio-string r bytes (Ok part) text reads is = ap ratio is ∙ ap (λ t. or_wrong (ratio_of t)) text ∙ ap or_wrong reads
ratio-string r bytes (Err e) text reads is = tt
