-- A frame with few columns before its units, and small numbers, is calm.
use Rattle.std.proofs.Common.{◌≡◌, ℕ, zero, suc, ◌+◌, ◌*◌, ◌<◌, ◌≤◌, Bool, true, false, cond, List, [], ◌∷◌, map, length, get_or, refl, sym, ap, subst, ◌∙◌, arith, ⊎_elim, ℤ, pos, ◌*ℤ◌, ◌<ℤ◌}
use Rattle.std.specs.Prelude.{◌==◌, ◌^◌, nat_eq, nat_lt, unsigned_abs}
use Rattle.std.specs.Int.{◌∣◌}
use Rattle.std.specs.List.{AllByRecursion}
use Rattle.std.proofs.lemmas.Int.{ints, unsigned_abs-mul}
use Rattle.std.proofs.lemmas.Bool.{cases_eq, cases_lt, eq-eqb, ne_eqb, lt-ltb, ltb-true}
use Rattle.std.proofs.lemmas.Nat.Gcd.{dvd-zero, le_of_dvd}
use Rattle.std.proofs.Math.Nat.{zero-mul, mul_comm, mul_assoc, mul-pos, mul-le-mul_left, mul-le-mul_right, le_of_mul-le-mul_right, dvd-mul_right}
use Rattle.whole_numbers.specs.Divisors.{gcd_of_all}
use Rattle.whole_numbers.proofs.CommonDivisors.{gcd_of_all-positive}
use Rattle.farkas_check.specs.Frames.{Frame, number_in, width, line_count, sum_below, IsTableau, AreUpTo, IsCalmUpTo}
use Rattle.farkas_check.specs.Relations.{entry, places}
use Rattle.simplex.proofs.Primitive.{divides_all}
use Rattle.elimination.proofs.Tableaux.{HasUnits, Writes, HasLine, line_of_tableau}
use Rattle.elimination.proofs.Multiples.{HasColumn, column_of_tableau}

-- ---- numbers at places

mapped : {A B C : Type 0} (f : B → C) (g : A → B) (xs : List A) → map f (map g xs) ≡ map (λ x. f (g x)) xs
mapped f g [] = refl
mapped f g (x ∷ xs) = ap (λ ys. f (g x) ∷ ys) (mapped f g xs)

all_places : (P : ℤ → Type 0) (f : ℕ → ℤ) (w : ℕ) → ((j : ℕ) → j < w → P (f j)) → AllByRecursion P (map f (places w))
all_places P f zero h = tt
all_places P f (suc w) h = (h 0 (omega arith), subst (AllByRecursion P) (sym (mapped f (λ i. suc i) (places w))) (all_places P (λ i. f (suc i)) w (λ j k. h (suc j) (omega (arith, k)))))

entry_at_place : (f : ℕ → ℤ) (w j : ℕ) → j < w → entry (map f (places w)) j ≡ f j
entry_at_place f zero j h = absurd (omega (arith, h))
entry_at_place f (suc w) zero h = refl
entry_at_place f (suc w) (suc j) h = ap (λ zs. entry zs j) (mapped f (λ i. suc i) (places w)) ∙ entry_at_place (λ i. f (suc i)) w j (omega (arith, h))

entry_past : (f : ℕ → ℤ) (w j : ℕ) → w ≤ j → entry (map f (places w)) j ≡ pos 0
entry_past f zero j h = refl
entry_past f (suc w) zero h = absurd (omega (arith, h))
entry_past f (suc w) (suc j) h = ap (λ zs. entry zs j) (mapped f (λ i. suc i) (places w)) ∙ entry_past (λ i. f (suc i)) w j (omega (arith, h))

-- ---- numbers over their least common denominator

size_positive : (z : ℤ) → (z ≡ pos 0 → ⊥) → 0 < unsigned_abs z
size_positive z n = ⊎_elim (λ (e : unsigned_abs z ≡ 0). absurd (n (zero_size z e))) (λ other. omega (arith, other)) (cases_eq (unsigned_abs z) 0)
  where
    zero_size : (z : ℤ) → unsigned_abs z ≡ 0 → z ≡ pos 0
    zero_size z e = omega (arith, ints, e)

-- numbers and their denominator that are proportional to small whole numbers are small over their
-- least common denominator
up_to : (most w : ℕ) (over bottom : ℤ) (top m : ℕ → ℤ) → pos 0 <ℤ over → (bottom ≡ pos 0 → ⊥) → ((j : ℕ) → j < w → over *ℤ top j ≡ bottom *ℤ m j)
    → unsigned_abs bottom ≤ most → ((j : ℕ) → j < w → unsigned_abs (top j) ≤ most) → AreUpTo most (over ∷ map m (places w))
up_to most w over bottom top m above apart is bottom_small top_small =
    (at_over, all_places (λ z. unsigned_abs z ≤ most * gcd_of_all (over ∷ map m (places w))) m w (λ j h. at_place j h))
  where
    common : ℕ
    common = gcd_of_all (over ∷ map m (places w))

    not_zero : (z : ℤ) → pos 0 <ℤ z → z ≡ pos 0 → ⊥
    not_zero z h e = omega (arith, ints, h, e)

    common_above : 0 < gcd_of_all (over ∷ map m (places w))
    common_above = gcd_of_all-positive over (map m (places w)) (not_zero over above)

    bottom_above : 0 < unsigned_abs bottom
    bottom_above = size_positive bottom apart

    sizes : (j : ℕ) → j < w → unsigned_abs (m j) * unsigned_abs bottom ≡ unsigned_abs over * unsigned_abs (top j)
    sizes j h = mul_comm (unsigned_abs (m j)) (unsigned_abs bottom) ∙ sym (unsigned_abs-mul bottom (m j)) ∙ ap unsigned_abs (sym (is j h)) ∙ unsigned_abs-mul over (top j)

    divided : (j : ℕ) → unsigned_abs over ∣ (unsigned_abs (entry (over ∷ map m (places w)) j) * unsigned_abs bottom)
    divided zero = dvd-mul_right (unsigned_abs over) (unsigned_abs bottom)
    divided (suc j) =
        ⊎_elim (λ (h : j < w). subst (λ n. unsigned_abs over ∣ n) (sym (ap (λ z. unsigned_abs z * unsigned_abs bottom) (entry_at_place m w j h) ∙ sizes j h)) (dvd-mul_right (unsigned_abs over) (unsigned_abs (top j))))
        (λ (h : w ≤ j). subst (λ n. unsigned_abs over ∣ n) (sym (ap (λ z. unsigned_abs z * unsigned_abs bottom) (entry_past m w j h) ∙ zero-mul (unsigned_abs bottom))) (dvd-zero (unsigned_abs over))) (cases_lt j w)

    below : unsigned_abs over ≤ gcd_of_all (over ∷ map m (places w)) * unsigned_abs bottom
    below = le_of_dvd (mul-pos common_above bottom_above) (divides_all (unsigned_abs over) (unsigned_abs bottom) (over ∷ map m (places w)) bottom_above divided)

    at_over : unsigned_abs over ≤ most * gcd_of_all (over ∷ map m (places w))
    at_over =
        let a : gcd_of_all (over ∷ map m (places w)) * unsigned_abs bottom ≤ gcd_of_all (over ∷ map m (places w)) * most = mul-le-mul_left (gcd_of_all (over ∷ map m (places w))) bottom_small in
        let b : gcd_of_all (over ∷ map m (places w)) * most ≡ most * gcd_of_all (over ∷ map m (places w)) = mul_comm (gcd_of_all (over ∷ map m (places w))) most in
        omega (arith, below, a, b)

    at_place : (j : ℕ) → j < w → unsigned_abs (m j) ≤ most * gcd_of_all (over ∷ map m (places w))
    at_place j h =
        let product : unsigned_abs over * unsigned_abs (top j) ≤ common * unsigned_abs bottom * unsigned_abs (top j) = mul-le-mul_right (unsigned_abs (top j)) below in
        let turned : common * unsigned_abs bottom * unsigned_abs (top j) ≡ common * unsigned_abs (top j) * unsigned_abs bottom = mul_assoc common (unsigned_abs bottom) (unsigned_abs (top j)) ∙ ap (λ n. common * n) (mul_comm (unsigned_abs bottom) (unsigned_abs (top j))) ∙ sym (mul_assoc common (unsigned_abs (top j)) (unsigned_abs bottom)) in
        let same : unsigned_abs (m j) * unsigned_abs bottom ≡ unsigned_abs over * unsigned_abs (top j) = sizes j h in
        let whole : unsigned_abs (m j) ≤ common * unsigned_abs (top j) = le_of_mul-le-mul_right {k = unsigned_abs bottom} (omega (arith, product, turned, same)) bottom_above in
        let more : common * unsigned_abs (top j) ≤ common * most = mul-le-mul_left common (top_small j h) in
        let last : common * most ≡ most * common = mul_comm common most in
        omega (arith, whole, more, last)

-- ---- a frame as lines and columns

pub has_units : (size : ℕ) (frame : Frame) → ((l j : ℕ) → unsigned_abs (entry (get_or frame.lines l []) j) ≤ size) → HasUnits size (line_count frame) frame.units (number_in frame)
has_units size frame small = record {
  unit = λ l h. behind l l ∙ ap (λ b. cond b (pos 1) (pos 0)) (eq-eqb (frame.units + l) (frame.units + l) refl);
  nothing = λ l k h g other. behind l k ∙ ap (λ b. cond b (pos 1) (pos 0)) (ne_eqb (frame.units + k) (frame.units + l) (λ e. other (omega (arith, e))));
  small = λ l j h g. let same : unsigned_abs (number_in frame l j) ≡ unsigned_abs (entry (get_or frame.lines l []) j) = ap (λ b. unsigned_abs (cond b (entry (get_or frame.lines l []) j) (cond (j == frame.units + l) (pos 1) (pos 0)))) (lt-ltb j frame.units g) in let up : unsigned_abs (entry (get_or frame.lines l []) j) ≤ size = small l j in omega (arith, same, up);
}
  where
    behind : (l k : ℕ) → number_in frame l (frame.units + k) ≡ cond (nat_eq (frame.units + k) (frame.units + l)) (pos 1) (pos 0)
    behind l k = ap (λ b. cond b (entry (get_or frame.lines l []) (frame.units + k)) (cond (nat_eq (frame.units + k) (frame.units + l)) (pos 1) (pos 0))) (not_before (nat_lt (frame.units + k) frame.units) refl)
      where
        not_before : (b : Bool) → nat_lt (frame.units + k) frame.units ≡ b → b ≡ false
        not_before true e = absurd (let h : frame.units + k < frame.units = ltb-true (frame.units + k) frame.units e in omega (arith, h))
        not_before false e = refl

each_below : (P : ℕ → Type 0) (xs : List ℕ) (i : ℕ) → AllByRecursion P xs → i < length xs → P (get_or xs i 0)
each_below P [] i h k = absurd (omega (arith, k))
each_below P (x ∷ xs) zero h k = h.0
each_below P (x ∷ xs) (suc i) h k = each_below P xs i h.1 (omega (arith, k))

pub writes_of : (frame : Frame) (chosen : List ℕ) (over : ℤ) (multiple : ℕ → ℕ → ℤ) → IsTableau frame chosen over multiple → Writes (line_count frame) frame.units (number_in frame) (λ k. get_or chosen k 0) over multiple
writes_of frame chosen over multiple t = record {
  within = λ k h. each_below (λ column. column < width frame) chosen k t.within (subst (λ (n : ℕ). k < n) (sym t.each) h);
  positive = t.positive;
  writes = t.writes;
}

pub calm_frame : (most size : ℕ) (frame : Frame) → 0 < size → 0 < frame.units → ((l j : ℕ) → unsigned_abs (entry (get_or frame.lines l []) j) ≤ size)
    → (line_count frame * size) ^ frame.units ≤ most → (frame.units * size) ^ frame.units ≤ most → IsCalmUpTo most frame
calm_frame most size frame above some small lines_room columns_room = record {
  lines = λ chosen over multiple t k h. of_line chosen over multiple t k h (line_of_tableau size (line_count frame) frame.units (number_in frame) (λ i. get_or chosen i 0) over multiple k (has_units size frame small) (writes_of frame chosen over multiple t) above h);
  columns = λ chosen over multiple t column h. of_column chosen over multiple t column (column_of_tableau size (line_count frame) frame.units (number_in frame) (λ i. get_or chosen i 0) over multiple column (has_units size frame small) (writes_of frame chosen over multiple t) above some h);
}
  where
    below : (a b c : ℕ) → a ≤ b → b ≤ c → a ≤ c
    below a b c h k = omega (arith, h, k)

    of_line : (chosen : List ℕ) (over : ℤ) (multiple : ℕ → ℕ → ℤ) → (t : IsTableau frame chosen over multiple) → (k : ℕ) → k < line_count frame → HasLine ((line_count frame * size) ^ frame.units) (line_count frame) frame.units (number_in frame) (λ i. get_or chosen i 0) over multiple k
        → AreUpTo most (over ∷ map (multiple k) (places (width frame)))
    of_line chosen over multiple t k here line =
        up_to most (width frame) over (sum_below (line_count frame) (λ l. number_in frame l (get_or chosen k 0) *ℤ line.by l)) (λ j. sum_below (line_count frame) (λ l. number_in frame l j *ℤ line.by l)) (multiple k) t.positive line.own line.is
        (below (unsigned_abs (sum_below (line_count frame) (λ l. number_in frame l (get_or chosen k 0) *ℤ line.by l))) ((line_count frame * size) ^ frame.units) most (line.small (get_or chosen k 0) ((writes_of frame chosen over multiple t).within k here)) lines_room) (λ j h. below (unsigned_abs (sum_below (line_count frame) (λ l. number_in frame l j *ℤ line.by l))) ((line_count frame * size) ^ frame.units) most (line.small j h) lines_room)

    of_column : (chosen : List ℕ) (over : ℤ) (multiple : ℕ → ℕ → ℤ) → (t : IsTableau frame chosen over multiple) → (column : ℕ) → HasColumn ((frame.units * size) ^ frame.units) (line_count frame) over multiple column
        → AreUpTo most (over ∷ map (λ k. multiple k column) (places (line_count frame)))
    of_column chosen over multiple t column c =
        up_to most (line_count frame) over c.bottom c.top (λ k. multiple k column) t.positive c.apart c.is
        (below (unsigned_abs c.bottom) ((frame.units * size) ^ frame.units) most c.bottom_small columns_room) (λ j h. below (unsigned_abs (c.top j)) ((frame.units * size) ^ frame.units) most (c.top_small j h) columns_room)
