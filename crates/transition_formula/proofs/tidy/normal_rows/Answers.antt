use Rattle.std.proofs.Common.{◌≡◌, ℕ, ◌+◌, ◌<◌, length, get_or, drop, List, [], ◌∷◌, ◌++◌, true, false, Option, Some, None, Result, Ok, Err, refl, sym, ap, ◌∙◌, append_assoc, append-nil}
use Rattle.std.specs.List.{cons_option}
use Rattle.std.specs.Option.{option_map}
use Rattle.linear_terms.specs.declared.error.TermError.{TermError}
use Rattle.linear_terms.specs.declared.row.Row.{Row}
use Rattle.linear_terms.specs.declared.row.Normal.{Normal}
use Rattle.linear_terms.specs.declared.row.Normal.TheVariants.{Constant, Kept}
use Rattle.linear_terms.specs.Row.{normal_form}
use Rattle.transition_formula.specs.declared.loss.Loss.{Loss}
use Rattle.transition_formula.specs.Loss.{answer_of, losses_of, error_losses}
use Rattle.transition_formula.specs.Rows.{Tidied, with_normal, normal_rows}
use Rattle.transition_formula.specs.Forms.{never_holds, kept_row}
use Rattle.transition_formula.proofs.Loops.{at_index}
use Rattle.transition_formula.proofs.tidy.normal_rows.Goals as goal

-- one row in normal form, and then the rest
one_more : (made : List Row) (losses : List Loss) (r : Result Normal TermError) (rest : Tidied) → never_holds (answer_of r) ≡ false
    → (option_map (λ l. (made ++ cons_option (kept_row (answer_of r)) []) ++ l) rest.rows ≡ option_map (λ l. made ++ l) (with_normal r rest).rows)
    × ((losses ++ losses_of r) ++ rest.losses ≡ losses ++ (with_normal r rest).losses)
one_more made losses (Err e) rest may =
    (ap (λ m. option_map (λ l. m ++ l) rest.rows) (append-nil made), append_assoc losses (error_losses e) rest.losses)
one_more made losses (Ok (Constant true)) rest may =
    (ap (λ m. option_map (λ l. m ++ l) rest.rows) (append-nil made), ap (λ l. l ++ rest.losses) (append-nil losses))
one_more made losses (Ok (Constant false)) rest may = let never : ⊥ = cc in absurd never
one_more made losses (Ok (Kept row)) rest may = (behind rest.rows, ap (λ l. l ++ rest.losses) (append-nil losses))
  where
    behind : (o : Option (List Row)) → option_map (λ l. (made ++ row ∷ []) ++ l) o ≡ option_map (λ l. made ++ l) (option_map (λ rows. row ∷ rows) o)
    behind None = refl
    behind (Some l) = ap (λ x. Some x) (append_assoc made (row ∷ []) l)

next : (rows : List Row) (i : ℕ) (row : Row) (made made2 : List Row) (losses losses2 : List Loss) (o : Option Normal) (left : Option Row)
    → i < length rows → row ≡ get_or rows i row → o ≡ answer_of (normal_form row) → false ≡ never_holds o → left ≡ kept_row o → made2 ≡ made ++ cons_option left [] → losses2 ≡ losses ++ losses_of (normal_form row)
    → (option_map (λ rest. made2 ++ rest) (normal_rows (drop (i + 1) rows)).rows ≡ option_map (λ rest. made ++ rest) (normal_rows (drop i rows)).rows)
    × (losses2 ++ (normal_rows (drop (i + 1) rows)).losses ≡ losses ++ (normal_rows (drop i rows)).losses)
next rows i row made made2 losses losses2 o left lt e f may kept pushed more =
    let rest = normal_rows (drop (i + 1) rows) in
    let begins = at_index rows i row lt e in
    let step = one_more made losses (normal_form row) rest (sym (may ∙ ap never_holds f)) in
    let put : made2 ≡ made ++ cons_option (kept_row (answer_of (normal_form row))) [] = pushed ∙ ap (λ p. made ++ cons_option p []) (kept ∙ ap kept_row f) in (
      ap (λ m. option_map (λ l. m ++ l) rest.rows) put ∙ step.0 ∙ ap (λ l. option_map (λ x. made ++ x) (normal_rows l).rows) (sym begins),
      ap (λ l. l ++ rest.losses) more ∙ step.1 ∙ ap (λ l. losses ++ (normal_rows l).losses) (sym begins),
    )

pub loop-row-preserved : goal.loop-row-preserved
loop-row-preserved c =
    let both =
    next c.args.rows.now c.loop-row.row-index c.row-item.result c.loop-row.made c.push_some.new.rows c.loop-row.losses c.normal_row.new.losses c.in_ok-form.form c.kept_row-row.result
    c.loop-row-test.true c.row-item.is c.in_ok-form.ensures.answer c.if-never_holds.ensures c.kept_row-row.ensures c.in_ok-push_some.ensures c.in_ok-form.ensures.noted in
    record { made = both.0 ∙ c.loop-row.invariant.made; noted = both.1 ∙ c.loop-row.invariant.noted }
