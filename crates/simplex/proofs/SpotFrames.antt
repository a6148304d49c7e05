-- The tableau of the frame of spots that chooses the unit columns, and what is read at its lines.
use Rattle.std.proofs.Common.{◌≡◌, ℕ, zero, suc, ◌+◌, ◌<◌, Bool, true, false, cond, List, [], ◌∷◌, ◌++◌, length, get_or, refl, sym, ap, subst, ◌∙◌, arith, ⊎_elim, ℤ, pos, ◌*ℤ◌, ◌<ℤ◌}
use Rattle.std.specs.Prelude.{nat_eq, Result, Ok, Err, IfOk, int_div}
use Rattle.items.specs.Gives.{◌>>=◌, Gives}
use Rattle.items.proofs.Gives.{on_ok}
use Rattle.whole_numbers.specs.Fits.{product_of}
use Rattle.std.proofs.lemmas.Int.{ints}
use Rattle.std.proofs.lemmas.Bool.{cases_eq, eq-eqb, ne_eqb}
use Rattle.std.proofs.Math.IntN.{zero-*ℤ}
use Rattle.whole_numbers.proofs.Ring.{one-*ℤ}
use Rattle.farkas_check.specs.Ratios.{Fraction}
use Rattle.farkas_check.specs.Relations.{entry}
use Rattle.simplex.specs.declared.tableau.Tableau.{Tableau}
use Rattle.simplex.specs.Exchange.{ArePrimitive, cause, numbers_of, choices_of, IsTableauOf}
use Rattle.simplex.specs.declared.stop.SearchStop.{SearchStop}
use Rattle.simplex.specs.Frames.{IsWholeTableau}
use Rattle.simplex.specs.Rows.{units_to}
use Rattle.simplex.specs.Spots.{entries_to, spot_row, spot_rows, spots_framed, IsSpotTableau, numerators_over}
use Rattle.simplex.proofs.Corners.{none, single}
use Rattle.simplex.proofs.Divisors.{one-primitive}
use Rattle.simplex.proofs.RowTableaux.{at_front, after_front, long, units_to-length, units_to-at, units_from-length, units_from-at}

pub entries_to-length : (line : List ℤ) (n : ℕ) → length (entries_to line n) ≡ n
entries_to-length line zero = refl
entries_to-length line (suc n) = long (entries_to line n) (entry line n ∷ []) ∙ (let e : length (entries_to line n) ≡ n = entries_to-length line n in omega (arith, e))

pub entries_to-at : (line : List ℤ) (n j : ℕ) → j < n → entry (entries_to line n) j ≡ entry line j
entries_to-at line zero j h = absurd (omega (arith, h))
entries_to-at line (suc n) j h =
    ⊎_elim (λ (same : j ≡ n). last same)
    (λ other. at_front (entries_to line n) (entry line n ∷ []) (pos 0) j (let e : length (entries_to line n) ≡ n = entries_to-length line n in omega (arith, e, h, other)) ∙ entries_to-at line n j (omega (arith, h, other))) (cases_eq j n)
  where
    last : j ≡ n → entry (entries_to line n ++ entry line n ∷ []) j ≡ entry line j
    last same =
        let e : length (entries_to line n) ≡ n = entries_to-length line n in
        let f : j ≡ length (entries_to line n) + 0 = omega (arith, e, same) in
        ap (λ (m : ℕ). entry (entries_to line n ++ entry line n ∷ []) m) f ∙ after_front (entries_to line n) (entry line n ∷ []) (pos 0) 0 ∙ ap (entry line) (sym same)

pub spot_row-length : (count all place : ℕ) (line : List ℤ) → length (spot_row count all place line) ≡ count + all
spot_row-length count all place line =
    long (entries_to line count) (units_to all place) ∙ (let e : length (entries_to line count) ≡ count = entries_to-length line count in let f : length (units_to all place) ≡ all = units_to-length all place in omega (arith, e, f))

pub spot_row-number : (count all place : ℕ) (line : List ℤ) (j : ℕ) → j < count → entry (spot_row count all place line) j ≡ entry line j
spot_row-number count all place line j h =
    at_front (entries_to line count) (units_to all place) (pos 0) j (let e : length (entries_to line count) ≡ count = entries_to-length line count in omega (arith, e, h)) ∙ entries_to-at line count j h

pub spot_row-unit : (count all place : ℕ) (line : List ℤ) (k : ℕ) → k < all → entry (spot_row count all place line) (count + k) ≡ cond (nat_eq k place) (pos 1) (pos 0)
spot_row-unit count all place line k h =
    ap (λ (n : ℕ). entry (entries_to line count ++ units_to all place) n) (let e : length (entries_to line count) ≡ count = entries_to-length line count in let f : count + k ≡ length (entries_to line count) + k = omega (arith, e) in f)
    ∙ after_front (entries_to line count) (units_to all place) (pos 0) k ∙ units_to-at all place k h

pub spot_rows-length : (count all place : ℕ) (lines : List (List ℤ)) → length (spot_rows count all place lines) ≡ length lines
spot_rows-length count all place [] = refl
spot_rows-length count all place (line ∷ lines) = let e : length (spot_rows count all (place + 1) lines) ≡ length lines = spot_rows-length count all (place + 1) lines in omega (arith, e)

-- the line at a place
pub spot_rows-at : (count all place : ℕ) (lines : List (List ℤ)) (l : ℕ) → l < length lines → get_or (spot_rows count all place lines) l [] ≡ spot_row count all (place + l) (get_or lines l [])
spot_rows-at count all place [] l h = absurd (omega (arith, h))
spot_rows-at count all place (line ∷ lines) zero h = let e : place ≡ place + 0 = omega arith in ap (λ (n : ℕ). spot_row count all n line) e
spot_rows-at count all place (line ∷ lines) (suc l) h = spot_rows-at count all (place + 1) lines l (omega (arith, h)) ∙ (let e : place + 1 + l ≡ place + suc l = omega arith in ap (λ (n : ℕ). spot_row count all n (get_or lines l [])) e)

-- ---- the tableau

pub framed-number : (count : ℕ) (lines : List (List ℤ)) (i j : ℕ) → i < length lines → j < count → numbers_of (spots_framed count lines) i j ≡ entry (get_or lines i []) j
framed-number count lines i j h g = ap (λ (line : List ℤ). entry line j) (spot_rows-at count (length lines) 0 lines i h) ∙ spot_row-number count (length lines) (0 + i) (get_or lines i []) j g

pub framed-unit : (count : ℕ) (lines : List (List ℤ)) (i k : ℕ) → i < length lines → k < length lines → numbers_of (spots_framed count lines) i (count + k) ≡ cond (nat_eq k i) (pos 1) (pos 0)
framed-unit count lines i k h g =
    ap (λ (line : List ℤ). entry line (count + k)) (spot_rows-at count (length lines) 0 lines i h) ∙ spot_row-unit count (length lines) (0 + i) (get_or lines i []) k g
    ∙ (let e : 0 + i ≡ i = omega arith in ap (λ (n : ℕ). cond (nat_eq k n) (pos 1) (pos 0)) e)

framed-is : (count : ℕ) (lines : List (List ℤ)) → IsTableauOf count (numbers_of (spots_framed count lines)) (spots_framed count lines)
framed-is count lines = record {
  shape = record {
    wide = λ i h. ap length (spot_rows-at count (length lines) 0 lines i (in_lines i h)) ∙ spot_row-length count (length lines) (0 + i) (get_or lines i []) ∙ ap (λ (n : ℕ). count + n) (sym many);
    choices = units_from-length count (length lines) ∙ sym many;
  };
  is = subst (λ (n : ℕ). IsWholeTableau n count (count + n) (numbers_of (spots_framed count lines)) (numbers_of (spots_framed count lines)) (choices_of (spots_framed count lines))) (sym many) is;
  within = λ i h. subst (λ (n : ℕ). choices_of (spots_framed count lines) i < count + n) (sym many) (let e : choices_of (spots_framed count lines) i ≡ count + i = units_from-at count (length lines) i (in_lines i h) in let g : i < length lines = in_lines i h in omega (arith, e, g));
}
  where
    many : length (spot_rows count (length lines) 0 lines) ≡ length lines
    many = spot_rows-length count (length lines) 0 lines

    in_lines : (i : ℕ) → i < length (spot_rows count (length lines) 0 lines) → i < length lines
    in_lines i h = subst (λ (n : ℕ). i < n) (spot_rows-length count (length lines) 0 lines) h

    at_choice : (i k : ℕ) → i < length lines → k < length lines → numbers_of (spots_framed count lines) i (choices_of (spots_framed count lines) k) ≡ cond (nat_eq k i) (pos 1) (pos 0)
    at_choice i k h g = ap (numbers_of (spots_framed count lines) i) (units_from-at count (length lines) k g) ∙ framed-unit count lines i k h g

    times_unit : (a : ℤ) (b : Bool) → b ≡ false → cond b (pos 1) (pos 0) *ℤ a ≡ pos 0
    times_unit a true e = cc
    times_unit a false e = zero-*ℤ a

    is : IsWholeTableau (length lines) count (count + length lines) (numbers_of (spots_framed count lines)) (numbers_of (spots_framed count lines)) (choices_of (spots_framed count lines))
    is = record {
      own = λ i h. subst (λ (z : ℤ). pos 0 <ℤ z) (sym (at_choice i i h h ∙ ap (λ (b : Bool). cond b (pos 1) (pos 0)) (eq-eqb i i refl))) (omega (arith, ints));
      others = λ i k h g other. at_choice i k h g ∙ ap (λ (b : Bool). cond b (pos 1) (pos 0)) (ne_eqb k i (λ e. other (sym e)));
      combination = λ i h j m. sym (
          single (length lines) (λ l. numbers_of (spots_framed count lines) i (count + l) *ℤ numbers_of (spots_framed count lines) l j) i h
          (λ l g other. ap (λ z. z *ℤ numbers_of (spots_framed count lines) l j) (framed-unit count lines i l h g) ∙ times_unit (numbers_of (spots_framed count lines) l j) (nat_eq l i) (ne_eqb l i other))
          ∙ ap (λ z. z *ℤ numbers_of (spots_framed count lines) i j) (framed-unit count lines i i h h ∙ ap (λ (b : Bool). cond b (pos 1) (pos 0)) (eq-eqb i i refl)) ∙ one-*ℤ (numbers_of (spots_framed count lines) i j));
      determined = λ w c zero_at j m. c j m ∙ none (length lines) (λ l. w (count + l) *ℤ numbers_of (spots_framed count lines) l j)
          (λ l g. ap (λ z. z *ℤ numbers_of (spots_framed count lines) l j) (ap w (sym (units_from-at count (length lines) l g)) ∙ zero_at l g) ∙ zero-*ℤ (numbers_of (spots_framed count lines) l j));
      solutions = λ x e. e;
    }

framed-primitive : (count : ℕ) (lines : List (List ℤ)) → ArePrimitive (spots_framed count lines)
framed-primitive count lines i h = one-primitive (get_or (spot_rows count (length lines) 0 lines) i []) (count + i) (framed-unit count lines i i inside inside ∙ ap (λ (b : Bool). cond b (pos 1) (pos 0)) (eq-eqb i i refl))
  where
    inside : i < length lines
    inside = subst (λ (n : ℕ). i < n) (spot_rows-length count (length lines) 0 lines) h

pub spots_framed-is : (count : ℕ) (lines : List (List ℤ)) (t : Tableau) → t ≡ spots_framed count lines → IsSpotTableau count lines t
spots_framed-is count lines t e = subst (IsSpotTableau count lines) (sym e) (record {
  many = spot_rows-length count (length lines) 0 lines;
  tableau = framed-is count lines;
  primitive = framed-primitive count lines;
  ends = λ i j h after before. absurd (let own : choices_of (spots_framed count lines) i ≡ count + i = units_from-at count (length lines) i (subst (λ (n : ℕ). i < n) (spot_rows-length count (length lines) 0 lines) h) in omega (arith, own, after, before));
})

-- ---- what is read at a line of the tableau

pub numerators-length : (common : ℤ) (rs : List Fraction) (made : List ℤ) → numerators_over common rs ≡ Ok made → length made ≡ length rs
numerators-length common [] made e = let same : [] ≡ made = cc in ap length (sym same)
numerators-length common (r ∷ rs) made e =
    on_ok (product_of r.num (int_div common r.den)) (λ n. numerators_over common rs >>= λ more. Ok (n ∷ more)) made e
    (λ n f g. on_ok (numerators_over common rs) (λ more. Ok (n ∷ more)) made g
    (λ more h k. let is = chain n more (cc) (numerators-length common rs more h) in omega (arith, is)))
  where
    chain : (n : ℤ) (more : List ℤ) → n ∷ more ≡ made → length more ≡ length rs → length made ≡ length rs + 1
    chain n more e f = let h : length (n ∷ more) ≡ length made = ap length e in omega (arith, h, f)

pub numerators-count : (r : Result (List ℤ) SearchStop) (common : ℤ) (rs : List Fraction) (n : ℕ) → Gives cause (λ (made : List ℤ). made) r (numerators_over common rs) → length rs ≡ n → IfOk r (λ numbers. length numbers ≡ n)
numerators-count (Ok numbers) common rs n g e = numerators-length common rs numbers g ∙ e
numerators-count (Err stop) common rs n g e = tt
