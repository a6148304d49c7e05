-- A call whose stated answer is a value fails by want of memory alone.
use Rattle.std.proofs.Common.{◌≡◌, Ok, Err, ℕ, ◌+◌, List, drop, ℤ, negsuc, ◌*ℤ◌, refl, sym, subst, Bool, true, false, zero, suc, arith, ap, pos, ◌*◌, ◌^◌, ◌<◌, ◌≤◌, take, [], ◌∷◌}
use Rattle.farkas_check.specs.Ratios.{Fraction, lowest_terms}
use Rattle.farkas_check.specs.Relations.{entry}
use Rattle.whole_numbers.specs.Fits.{product_of}
use Rattle.simplex.specs.Answers.{multipliers_of}
use Rattle.simplex.specs.Search.{chosen_number}
use Rattle.simplex.specs.Suprema.{chosen_slope, certificate_of}
use Rattle.simplex.specs.Raise.{sign_of}
use Rattle.farkas_check.specs.declared.answer.Cert.{Cert}
use Rattle.std.proofs.lemmas.List.{get_or-drop}
use Rattle.std.proofs.Math.Nat.{mul-le-mul}
use Rattle.whole_numbers.proofs.Ring.{*ℤ-one}
use Rattle.std.specs.Prelude.{not, unsigned_abs, Result, IfErr}
use Rattle.items.specs.Gives.{FailsBy, Gives}
use Rattle.whole_numbers.specs.declared.wide.Wide as Step
use Rattle.simplex.specs.Calm.{HasSquares, IsSmallLine, HasSmallLines, IsMemory}
use Rattle.simplex.specs.Exchange.{cause, line_multiple, upright_line, exchange}
use Rattle.simplex.specs.declared.stop.SearchStop.{SearchStop}
use Rattle.simplex.specs.declared.stop.SearchStop.TheVariants.{Wide, Memory}
use Rattle.simplex.specs.declared.tableau.Tableau.{Tableau}
use Rattle.simplex.proofs.Small.{HasValue, line_multiple-fits, product_of-fits, bind_value, negative-fits, upright-fits, exchange-fits}

pub only_memory : {X : Type 0} (e : SearchStop) (r : Result X Step.Wide) → FailsBy (cause e) r → HasValue r → IsMemory e
only_memory {X = X} (Wide step) r f v = clash v.0 v.1
  where
    clash : (x : X) → r ≡ Ok x → ⊥
    clash x g = cc
only_memory Memory r f v = tt

pub exchange-calm : (t : Tableau) (line column : ℕ) (r : Result Tableau SearchStop) → Gives cause (λ u. u) r (exchange t line column) → (n : ℕ) → HasSquares n → HasSmallLines n t → IfErr r IsMemory
exchange-calm t line column (Ok u) g n room small = tt
exchange-calm t line column (Err e) g n room small = only_memory e (exchange t line column) g (exchange-fits n t line column room (λ i j. small i j))

lines_ok : List ℤ → Result (List ℤ) Step.Wide
lines_ok zs = Ok zs

pub multipliers-calm : (constants : ℕ) (line : List ℤ) (r : Result (List ℤ) SearchStop) → Gives cause (λ by. by) r (multipliers_of constants line) → (n : ℕ) → HasSquares n → IsSmallLine n line → IfErr r IsMemory
multipliers-calm constants line (Ok by) g n room small = tt
multipliers-calm constants line (Err e) g n room small =
    only_memory e (multipliers_of constants line) g
    (bind_value (upright_line constants line) (λ own. Ok (drop (constants + 1) own)) (upright-fits n constants line room small) (λ own f. (drop (constants + 1) own, refl)))

abbrev ratio_ok : Fraction → Result Fraction Step.Wide
ratio_ok r = Ok r

pub never : {X : Type 0} (r : Result X Step.Wide) → HasValue r → IfErr r (λ _. ⊥)
never (Ok x) v = tt
never {X = X} (Err w) v = clash v.0 v.1
  where
    err : Step.Wide → Result X Step.Wide
    err step = Err step

    clash : (x : X) → err w ≡ Ok x → ⊥
    clash x e = cc

pub corner-calm : (line : List ℤ) (constants column : ℕ) (r : Result Fraction Step.Wide) → r ≡ chosen_number line constants column → (n : ℕ) → HasSquares n → IsSmallLine n line → IfErr r (λ _. ⊥)
corner-calm line constants column r e n room small =
    subst (λ (q : Result Fraction Step.Wide). IfErr q (λ _. ⊥)) (sym e)
    (never (chosen_number line constants column)
    (bind_value (product_of (entry line constants) (negsuc 0)) (λ m. ratio_ok (lowest_terms m (entry line column))) (entry line constants *ℤ negsuc 0, negative-fits n (entry line constants) room (small constants)) (λ m f. (lowest_terms m (entry line column), refl))))

fits_one : (n a : ℕ) → HasSquares n → a ≤ n → a < 2 ^ 127
fits_one zero a room h = omega (arith, h)
fits_one (suc n) a room h = let m : suc n * 1 ≤ suc n * suc n = mul-le-mul (omega arith) (omega arith) in omega (arith, m, h, room)

taken_small : (n : ℕ) (line : List ℤ) (k : ℕ) → IsSmallLine n line → IsSmallLine n (take k line)
taken_small n line zero small j = omega arith
taken_small n [] (suc k) small j = omega arith
taken_small n (z ∷ line) (suc k) small zero = small 0
taken_small n (z ∷ line) (suc k) small (suc j) = taken_small n line k (λ i. small (suc i)) j

pub certificate-calm : (constants goal : ℕ) (line : List ℤ) (r : Result Cert SearchStop) → Gives cause (λ cert. cert) r (certificate_of constants goal line) → (n : ℕ) → HasSquares n → IsSmallLine n line → IfErr r IsMemory
certificate-calm constants goal line (Ok by) g n room small = tt
certificate-calm constants goal line (Err e) g n room small =
    only_memory e (certificate_of constants goal line) g
    (bind_value (line_multiple (take goal (drop (constants + 1) line)) (negsuc 0)) (λ by. cert_ok (record { scale = entry line (constants + 1 + goal); sum = entry line constants; by = by }))
    (line_multiple-fits n (take goal (drop (constants + 1) line)) room (taken_small n (drop (constants + 1) line) goal (λ j. subst (λ (z : ℤ). unsigned_abs z ≤ n) (sym (get_or-drop (constants + 1) line j (pos 0))) (small (constants + 1 + j)))))
    (λ by f. (record { scale = entry line (constants + 1 + goal); sum = entry line constants; by = by }, refl)))
  where
    cert_ok : Cert → Result Cert Step.Wide
    cert_ok c = Ok c

pub slope-calm : (line : List ℤ) (column : ℕ) (up : Bool) (own : ℕ) (r : Result Fraction Step.Wide) → r ≡ chosen_slope line column up own → (n : ℕ) → HasSquares n → IsSmallLine n line → IfErr r (λ _. ⊥)
slope-calm line column up own r e n room small =
    subst (λ (q : Result Fraction Step.Wide). IfErr q (λ _. ⊥)) (sym e)
    (never (chosen_slope line column up own)
    (bind_value (product_of (entry line column) (sign_of (not up))) (λ m. ratio_ok (lowest_terms m (entry line own))) (entry line column *ℤ sign_of (not up), upright_line up) (λ m f. (lowest_terms m (entry line own), refl))))
  where
    upright_line : (up : Bool) → product_of (entry line column) (sign_of (not up)) ≡ Ok (entry line column *ℤ sign_of (not up))
    upright_line true = negative-fits n (entry line column) room (small column)
    upright_line false = product_of-fits (entry line column) (pos 1) (let h : unsigned_abs (entry line column) ≤ n = small column in let e : unsigned_abs (entry line column *ℤ pos 1) ≡ unsigned_abs (entry line column) = ap unsigned_abs (*ℤ-one (entry line column)) in below (unsigned_abs (entry line column)) h e)
      where
        below : (a : ℕ) → a ≤ n → unsigned_abs (entry line column *ℤ pos 1) ≡ a → unsigned_abs (entry line column *ℤ pos 1) < 2 ^ 127
        below a h e = let f : a < 2 ^ 127 = fits_one n a room h in omega (arith, e, f)
