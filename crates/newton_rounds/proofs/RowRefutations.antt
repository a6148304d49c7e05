-- What is found against a row, case by case.
use Rattle.std.proofs.Common.{◌≡◌, ◌≢◌, ◌≤◌, ◌-◌, ℕ, List, [], ◌∷◌, ◌++◌, length, length-drop, take, drop, get_or, refl, sym, subst, ◌∙◌, arith, IsErrAnd}
use Rattle.std.proofs.lemmas.List.{take_all}
use Rattle.std.specs.Prelude.{Option, None, Some, Result, Ok, Err}
use Rattle.items.specs.Gives.{FailsBy, Gives}
use Rattle.items.specs.Gives as gives
use Rattle.linear_terms.specs.declared.error.TermError.{TermError}
use Rattle.linear_terms.specs.declared.row.Kind.TheVariants.{AtMost}
use Rattle.linear_terms.specs.Expressions.{negation}
use Rattle.linear_terms.specs.Operations.{substituted_polynomial}
use Rattle.linear_terms.specs.Polynomial.{Polynomial}
use Rattle.linear_terms.specs.Replacement.{put_in}
use Rattle.linear_terms.specs.TermError.{cause}
use Rattle.linear_terms.specs.declared.row.Case.{Case}
use Rattle.linear_terms.specs.declared.row.Row.{Row}
use Rattle.farkas_check.specs.declared.question.Question.TheVariants.{Infeasible}
use Rattle.farkas_check.specs.declared.answer.Limit.{Limit}
use Rattle.transition_formula.specs.Hiding.{own_auxiliaries}
use Rattle.transition_formula.specs.Rounds.{solved_answer}
use Rattle.posing.specs.Posing.{Done, Noted, answer_to, ◌>>=◌}
use Rattle.posing.specs.declared.note.Witness.TheVariants as witness
use Rattle.leaf_cases.specs.Guard.{columns_of}
use Rattle.newton_rounds.specs.declared.findings.Findings.{Findings}
use Rattle.newton_rounds.specs.Candidates.{contrary, findings_in, limit_notes, outcome_by, with_answer}
use Rattle.newton_rounds.specs.Shapes.{case_left_of}

-- a case with rows is asked about
pub asked-in : (found : Findings) (rows : List Row) → rows ≢ [] → (answer_to (Infeasible rows) >>= λ answer. Done (with_answer found rows answer)) ≡ findings_in found rows
asked-in found [] some = absurd (some refl)
asked-in found (row ∷ rows) some = refl

pub kept-solved : (left : Option Case) → case_left_of (solved_answer left) ≡ left
kept-solved None = refl
kept-solved (Some case) = refl

-- the first limit is told, and the others are noted
pub first-told : (limits : List Limit) (other : Limit) → 1 ≤ length limits → Noted (limit_notes (drop 1 limits)) (Done (Some (witness.Limit (get_or limits 0 other)))) ≡ outcome_by None limits
first-told [] other some = absurd (omega (arith, some))
first-told (limit ∷ limits) other some = refl

-- the others, as a slice has them
pub others-are : (limits : List Limit) → take (length limits - 1) (drop 1 limits) ≡ drop 1 limits
others-are limits = take_all (length limits - 1) (drop 1 limits) (simp length-drop (omega arith))

-- ---- the contrary row

module _ (from : ℕ) (case : Case) (row opposite : Row) (made : negation row.poly ≡ Ok opposite) where
  abbrev put : Result Polynomial TermError
  put = substituted_polynomial (put_in (columns_of from ++ case.post) (own_auxiliaries case.aux)) opposite.poly

  abbrev told : Polynomial → Result Row TermError
  told p = Ok record { poly = p; kind = AtMost }

  contrary-is : contrary from case row ≡ gives.◌>>=◌ put told
  contrary-is = λ i. gives.◌>>=◌ (made i) (λ (o : Row). gives.◌>>=◌ (substituted_polynomial (put_in (columns_of from ++ case.post) (own_auxiliaries case.aux)) o.poly) told)

  pub contrary-made : (p : Polynomial) → put ≡ Ok p → contrary from case row ≡ Ok record { poly = p; kind = AtMost }
  contrary-made p e = contrary-is ∙ (λ i. gives.◌>>=◌ (e i) told)

  fails-by : (o : Option TermError) → FailsBy o put → FailsBy o (contrary from case row)
  fails-by None h = tt
  fails-by (Some fault) h = contrary-is ∙ (λ i. gives.◌>>=◌ (h i) told)

  pub contrary-fails : (result : Result Row TermError) (error : TermError) → FailsBy (cause error) put → IsErrAnd result (λ e. e ≡ error) → Gives cause (λ r. r) result (contrary from case row)
  contrary-fails (Ok r) error h is = absurd is
  contrary-fails (Err e) error h is = subst (λ d. FailsBy (cause d) (contrary from case row)) (sym is) (fails-by (cause error) h)
