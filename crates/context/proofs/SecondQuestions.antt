-- A Yes to a second question proves as much as one to the first.
--     products-point     rows with their products have a whole point where the rows have one
--     second-known       what a verdict after a second question says of its case
use Rattle.std.proofs.Common.{◌≡◌, List, [], ◌∷◌, ◌++◌, Result, Ok, Err, refl, sym, subst}
use Rattle.std.specs.Prelude.{IfOk}
use Rattle.linear_terms.specs.declared.row.Case.{Case}
use Rattle.linear_terms.specs.declared.row.Row.{Row}
use Rattle.linear_terms.specs.Row.{RowsHold}
use Rattle.farkas_check.specs.Asking.{Asking}
use Rattle.farkas_check.specs.declared.answer.Answer.{Answer}
use Rattle.farkas_check.specs.declared.answer.Answer.TheVariants as answer
use Rattle.farkas_check.specs.declared.question.Question.TheVariants.{Infeasible}
use Rattle.farkas_check.specs.Meaning.{IsTrueAnswer}
use Rattle.row_products.specs.Laws.{HasWholePoint}
use Rattle.row_products.specs.Products.{products}
use Rattle.row_products.proofs.Truth.{products-keep_points}
use Rattle.transition_formula.specs.Meaning.{numbers}
use Rattle.posing.specs.declared.error.WorkError.{WorkError}
use Rattle.posing.specs.declared.log.Log.{Log}
use Rattle.posing.specs.Posing.{Posing, ◌>>=◌, Always}
use Rattle.posing.specs.Follows.{Follows}
use Rattle.posing.proofs.Steps.{value_has}
use Rattle.polyhedra.specs.Infeasibility.{is_yes}
use Rattle.report.specs.declared.verdict.Verdict.{Verdict}
use Rattle.report.specs.declared.verdict.Verdict.TheVariants.{Proved, Unproved, UnprovedLimit}
use Rattle.context.specs.Judging.{IsVerdictOn}
use Rattle.context.specs.SecondQuestions.{proved_if, second_rows, second_verdict, verdict_after, with_more, with_products}
use Rattle.context.specs.Verdicts.{verdict_at, verdict_by}

-- ---- rows and their products

more-point : (rows more : List Row) → HasWholePoint rows → HasWholePoint (rows ++ more) → HasWholePoint (with_more rows more)
more-point rows [] point all = (point.0, tt)
more-point rows (row ∷ more) point all = all

-- with their products they have a point where they have one
products-point : (rows : List Row) → HasWholePoint rows → HasWholePoint (with_products rows)
products-point rows point = more-point rows (products rows) point ((products-keep_points rows).1 point)

-- ---- the case of a verdict

-- the verdict carries this case, if it carries one
abbrev IsAbout : Case → Verdict → Type 0
IsAbout case Proved = Unit {0}
IsAbout case (Unproved own point) = own ≡ case
IsAbout case (UnprovedLimit own limit) = own ≡ case

answer-about : (case : Case) (a : Answer) → IsAbout case (verdict_by case a)
answer-about case (answer.Yes by) = tt
answer-about case (answer.No point) = refl
answer-about case (answer.Bound at certs place point) = refl
answer-about case (answer.Unbounded place point ray) = refl
answer-about case (answer.Basis relations spots free) = refl
answer-about case (answer.Limit limit) = refl

first-about : (case : Case) (rows : List Row) → Always (IsAbout case) (verdict_at case rows)
unfolding ◌>>=◌
first-about case [] = refl
first-about case (row ∷ rows) = λ a is_true. answer-about case a

-- ---- after the second question

pointless-proved : (case own : Case) → own ≡ case → (HasWholePoint own.rows → ⊥) → IsVerdictOn case Proved
pointless-proved case own same none =
    record {
      dead = λ e before after holds. none (numbers before holds.0, subst (λ (c : Case). RowsHold (numbers before holds.0) c.rows) (sym same) holds.1.rows);
      refuted = tt;
      fits = λ shown f. tt;
    }

-- whatever is answered about rows which, without a whole point, prove the case
after-known : (case : Case) (verdict : Verdict) (rows : List Row) → IsVerdictOn case verdict → ((HasWholePoint rows → ⊥) → IsVerdictOn case Proved) → Always (IsVerdictOn case) (verdict_after rows verdict)
unfolding ◌>>=◌
after-known case verdict [] known proves = known
after-known case verdict (row ∷ rows) known proves = λ a is_true. go a is_true
  where
    go : (a : Answer) → IsTrueAnswer (Infeasible (row ∷ rows)) a → IsVerdictOn case (proved_if (is_yes a) verdict)
    go (answer.Yes by) is_true = proves (λ point. is_true point.0 point.1)
    go (answer.No point) is_true = known
    go (answer.Bound at certs place point) is_true = known
    go (answer.Unbounded place point ray) is_true = known
    go (answer.Basis relations spots free) is_true = known
    go (answer.Limit limit) is_true = known

rows-prove : (case : Case) (verdict : Verdict) → IsVerdictOn case verdict → IsAbout case verdict → (HasWholePoint (second_rows verdict) → ⊥) → IsVerdictOn case Proved
rows-prove case Proved known about none = known
rows-prove case (Unproved own point) known about none = pointless-proved case own about (λ at. none (products-point own.rows at))
rows-prove case (UnprovedLimit own limit) known about none = pointless-proved case own about (λ at. none (products-point own.rows at))

second-always : (case : Case) (verdict : Verdict) → IsVerdictOn case verdict → IsAbout case verdict → Always (IsVerdictOn case) (second_verdict verdict)
unfolding second_verdict
second-always case verdict known about = after-known case verdict (second_rows verdict) known (rows-prove case verdict known about)

result-has : {S : Type 0} {O : Asking S} {old new : S} {before after : Log} (P : Verdict → Type 0) (result : Result Verdict WorkError) (p : Posing Verdict)
    → Follows O old new before after result p → Always P p → IfOk result P
result-has P (Ok verdict) p follows always = value_has P follows always
result-has P (Err e) p follows always = tt

pub second-known : {S : Type 0} {O : Asking S} {old now new : S} {before between after : Log} (case : Case) (verdict : Verdict) (result : Result Verdict WorkError)
    → Follows O old now before between (Ok verdict) (verdict_at case case.rows) → IsVerdictOn case verdict → Follows O now new between after result (second_verdict verdict) → IfOk result (IsVerdictOn case)
second-known case verdict result first known second =
    result-has (IsVerdictOn case) result (second_verdict verdict) second (second-always case verdict known (value_has (IsAbout case) first (first-about case case.rows)))
