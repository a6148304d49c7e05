-- The numbers of a corner, and a line's multipliers, as the code makes them.
use Rattle.std.proofs.Common.{◌≡◌, ◌⊎◌, inl, inr, ℕ, zero, suc, ◌+◌, ◌<◌, List, [], ◌∷◌, length, drop, get_or, refl, sym, ap, subst, ◌∙◌, arith, ⊎_elim, Ok, Err, ℤ, pos, negsuc, ◌*ℤ◌, ◌<ℤ◌, Bool, ◌≢◌}
use Rattle.std.specs.Prelude.{Result, IfOk, not}
use Rattle.std.proofs.lemmas.Bool.{cases_eq}
use Rattle.items.proofs.Gives.{on_ok}
use Rattle.whole_numbers.specs.Fits.{product_of}
use Rattle.whole_numbers.specs.declared.wide.Wide as Step
use Rattle.farkas_check.specs.Ratios.{Fraction, lowest_terms}
use Rattle.farkas_check.proofs.Lowest.{IsLowest-lowest_terms, positive-lowest_terms}
use Rattle.farkas_check.proofs.PointValues.{Stands-lowest}
use Rattle.simplex.specs.declared.tableau.Tableau.{Tableau}
use Rattle.simplex.specs.Answers.{multipliers_of, IsMultipliers}
use Rattle.simplex.specs.Exchange.{numbers_of, choices_of, upright_line, HasShape, IsTableauOf}
use Rattle.farkas_check.specs.Relations.{entry}
use Rattle.simplex.specs.Raise.{Framed, sign_of}
use Rattle.simplex.specs.Suprema.{SlopeAt, chosen_slope}
use Rattle.simplex.specs.Search.{CornerAt, chosen_number}
use Rattle.simplex.proofs.Eliminations.{choose_apart}
use Rattle.simplex.proofs.Lines.{upright-length}
use Rattle.simplex.proofs.Numbers.{product_of-value, upright-is, IsUpright}

abbrev ratio_ok : Fraction → Result Fraction Step.Wide
ratio_ok q = Ok q

pub corner-chosen : (over : Framed) (t : Tableau) (constants column line : ℕ) (r : Fraction) → IsTableauOf over.units over.frame t → line < length t.lines → choices_of t line ≡ column → chosen_number (get_or t.lines line []) constants column ≡ Ok r → CornerAt t constants column r
corner-chosen over t constants column line r s here chosen e =
    on_ok (product_of (numbers_of t line constants) (negsuc 0)) (λ n. ratio_ok (lowest_terms n (numbers_of t line column))) r e
    (λ n f g. let same : lowest_terms n (numbers_of t line column) ≡ r = cc in subst (λ q. CornerAt t constants column q) same (made n (product_of-value (numbers_of t line constants) (negsuc 0) n f)))
  where
    own : pos 0 <ℤ numbers_of t line column
    own = subst (λ (j : ℕ). pos 0 <ℤ numbers_of t line j) chosen (s.is.own line here)

    made : (n : ℤ) → n ≡ numbers_of t line constants *ℤ negsuc 0 → CornerAt t constants column (lowest_terms n (numbers_of t line column))
    made n f = record {
      positive = positive-lowest_terms n (numbers_of t line column) own;
      chosen = λ k h is. ⊎_elim (λ (same : k ≡ line). at_line k same) (λ other. absurd (choose_apart over t k line s h here other (is ∙ sym chosen))) (cases_eq k line);
      free = λ none. absurd (none line here chosen);
      lowest = IsLowest-lowest_terms n (numbers_of t line column) own;
    }
      where
        at_line : (k : ℕ) → k ≡ line → (lowest_terms n (numbers_of t line column)).num *ℤ numbers_of t k column ≡ numbers_of t k constants *ℤ negsuc 0 *ℤ (lowest_terms n (numbers_of t line column)).den
        at_line k same =
            ap (λ (l : ℕ). (lowest_terms n (numbers_of t line column)).num *ℤ numbers_of t l column) same
            ∙ (Stands-lowest n (numbers_of t line column) n (numbers_of t line column) own refl).same
            ∙ ap (λ z. z *ℤ (lowest_terms n (numbers_of t line column)).den) (f ∙ ap (λ (l : ℕ). numbers_of t l constants *ℤ negsuc 0) (sym same))

pub corner-chosen-ok : (over : Framed) (t : Tableau) (constants column line : ℕ) (r : Result Fraction Step.Wide) → IsTableauOf over.units over.frame t → line < length t.lines → choices_of t line ≡ column → r ≡ chosen_number (get_or t.lines line []) constants column → IfOk r (λ q. CornerAt t constants column q)
corner-chosen-ok over t constants column line (Ok q) s here chosen e = corner-chosen over t constants column line q s here chosen (sym e)
corner-chosen-ok over t constants column line (Err w) s here chosen e = tt

-- ---- rays

pub slope-chosen : (over : Framed) (t : Tableau) (column own line : ℕ) (up : Bool) (r : Fraction) → IsTableauOf over.units over.frame t → own ≢ column → line < length t.lines → choices_of t line ≡ own → chosen_slope (get_or t.lines line []) column up own ≡ Ok r → SlopeAt t column up own r
slope-chosen over t column own line up r s apart here chosen e =
    on_ok (product_of (numbers_of t line column) (sign_of (not up))) (λ n. ratio_ok (lowest_terms n (numbers_of t line own))) r e
    (λ n f g. let same : lowest_terms n (numbers_of t line own) ≡ r = cc in subst (λ q. SlopeAt t column up own q) same (made n (product_of-value (numbers_of t line column) (sign_of (not up)) n f)))
  where
    own_above : pos 0 <ℤ numbers_of t line own
    own_above = subst (λ (j : ℕ). pos 0 <ℤ numbers_of t line j) chosen (s.is.own line here)

    made : (n : ℤ) → n ≡ numbers_of t line column *ℤ sign_of (not up) → SlopeAt t column up own (lowest_terms n (numbers_of t line own))
    made n f = record {
      lowest = IsLowest-lowest_terms n (numbers_of t line own) own_above;
      here = λ same. absurd (apart same);
      chosen = λ o k h is. ⊎_elim (λ (same : k ≡ line). at_line k same) (λ other. absurd (choose_apart over t k line s h here other (is ∙ sym chosen))) (cases_eq k line);
      free = λ o none. absurd (none line here chosen);
    }
      where
        at_line : (k : ℕ) → k ≡ line → (lowest_terms n (numbers_of t line own)).num *ℤ numbers_of t k own ≡ numbers_of t k column *ℤ sign_of (not up) *ℤ (lowest_terms n (numbers_of t line own)).den
        at_line k same =
            ap (λ (l : ℕ). (lowest_terms n (numbers_of t line own)).num *ℤ numbers_of t l own) same
            ∙ (Stands-lowest n (numbers_of t line own) n (numbers_of t line own) own_above refl).same
            ∙ ap (λ z. z *ℤ (lowest_terms n (numbers_of t line own)).den) (f ∙ ap (λ (l : ℕ). numbers_of t l column *ℤ sign_of (not up)) (sym same))

pub slope-chosen-ok : (over : Framed) (t : Tableau) (column own line : ℕ) (up : Bool) (r : Result Fraction Step.Wide) → IsTableauOf over.units over.frame t → own ≢ column → line < length t.lines → choices_of t line ≡ own → r ≡ chosen_slope (get_or t.lines line []) column up own → IfOk r (λ q. SlopeAt t column up own q)
slope-chosen-ok over t column own line up (Ok q) s apart here chosen e = slope-chosen over t column own line up q s apart here chosen (sym e)
slope-chosen-ok over t column own line up (Err w) s apart here chosen e = tt

-- ---- multipliers

at_drop : (line : List ℤ) (n k : ℕ) → get_or (drop n line) k (pos 0) ≡ get_or line (n + k) (pos 0)
at_drop line zero k = let e : 0 + k ≡ k = omega arith in ap (λ (m : ℕ). get_or line m (pos 0)) (sym e)
at_drop [] (suc n) k = refl
at_drop (z ∷ line) (suc n) k = let e : suc n + k ≡ suc (n + k) = omega arith in at_drop line n k ∙ ap (λ (m : ℕ). get_or (z ∷ line) m (pos 0)) (sym e)

drop-length : (line : List ℤ) (n : ℕ) → length (drop n line) + n ≡ length line ⊎ (length line < n)
drop-length line zero = inl (omega arith)
drop-length [] (suc n) = inr (omega arith)
drop-length (z ∷ line) (suc n) = ⊎_elim (λ (e : length (drop n line) + n ≡ length line). inl (omega (arith, e))) (λ (h : length line < n). inr (omega (arith, h))) (drop-length line n)

abbrev lines_ok : List ℤ → Result (List ℤ) Step.Wide
lines_ok zs = Ok zs

pub multipliers-are : (t : Tableau) (constants line : ℕ) (by : List ℤ) → HasShape (constants + 1 + length t.lines) t → line < length t.lines → (numbers_of t line constants ≡ pos 0 → ⊥) → multipliers_of constants (get_or t.lines line []) ≡ Ok by → IsMultipliers constants t line by
multipliers-are t constants line by shape here some e =
    on_ok (upright_line constants (get_or t.lines line [])) (λ own. lines_ok (drop (constants + 1) own)) by e
    (λ own f g. let same : drop (constants + 1) own ≡ by = cc in subst (λ zs. IsMultipliers constants t line zs) same
    (made own (upright-length constants (get_or t.lines line []) own f ∙ shape.wide line here) (upright-is constants (get_or t.lines line []) own some f)))
  where
    made : (own : List ℤ) → length own ≡ constants + 1 + length t.lines → IsUpright (numbers_of t line) (entry own) constants → IsMultipliers constants t line (drop (constants + 1) own)
    made own long x = record {
      each = ⊎_elim (λ (e : length (drop (constants + 1) own) + (constants + 1) ≡ length own). omega (arith, e, long)) (λ (h : length own < constants + 1). absurd (omega (arith, h, long))) (drop-length own (constants + 1));
      sign = x.sign;
      one = x.one;
      upright = λ l h. at_drop own (constants + 1) l ∙ x.upright (constants + 1 + l);
      positive = subst (λ (z : ℤ). pos 0 <ℤ z) (x.upright constants) x.positive;
    }
