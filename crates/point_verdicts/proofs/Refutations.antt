-- Rows that are called infeasible, alone or with their products, have no whole point.
use Rattle.std.proofs.Common.{Bool, true, false, List, [], ◌∷◌, ◌++◌}
use Rattle.std.proofs.lemmas.Bool.{false≢true}
use Rattle.linear_terms.specs.declared.row.Row.{Row}
use Rattle.farkas_check.specs.declared.answer.Answer.{Answer}
use Rattle.farkas_check.specs.declared.answer.Answer.TheVariants as answer
use Rattle.farkas_check.specs.declared.question.Question.TheVariants.{Infeasible}
use Rattle.farkas_check.specs.Meaning.{IsTrueAnswer}
use Rattle.row_products.specs.Laws.{HasWholePoint}
use Rattle.row_products.specs.Products.{products}
use Rattle.row_products.proofs.Truth.{products-keep_points}
use Rattle.posing.specs.Posing.{◌>>=◌, Always}
use Rattle.posing.proofs.Paths.{always_bind, always_weaker}
use Rattle.polyhedra.specs.Infeasibility.{is_yes}
use Rattle.context.specs.SecondQuestions.{with_more, with_products}
use Rattle.point_verdicts.specs.Exclusions.{refutation, refutation_after, twofold_refutation}
use Rattle.point_verdicts.proofs.Every.{TellsOf}

abbrev HasNone : List Row → Type 0
HasNone rows = HasWholePoint rows → ⊥

refutation-tells : (rows : List Row) → Always (TellsOf (HasNone rows)) (refutation rows)
unfolding ◌>>=◌
refutation-tells [] = λ e. absurd (false≢true e)
refutation-tells (row ∷ rows) = λ a is_true. by a is_true
  where
    by : (a : Answer) → IsTrueAnswer (Infeasible (row ∷ rows)) a → TellsOf (HasNone (row ∷ rows)) (is_yes a)
    by (answer.Yes proof) is_true e = λ point. is_true point.0 point.1
    by _ is_true e = absurd (false≢true e)

-- ---- with products

more-point : (rows more : List Row) → HasWholePoint rows → HasWholePoint (rows ++ more) → HasWholePoint (with_more rows more)
more-point rows [] point all = (point.0, tt)
more-point rows (row ∷ more) point all = all

-- with their products they have a whole point where they have one
products-point : (rows : List Row) → HasWholePoint rows → HasWholePoint (with_products rows)
products-point rows point = more-point rows (products rows) point ((products-keep_points rows).1 point)

pub twofold_refutation-tells : (rows : List Row) → Always (TellsOf (HasWholePoint rows → ⊥)) (twofold_refutation rows)
unfolding twofold_refutation
twofold_refutation-tells rows =
    always_bind (TellsOf (HasNone rows)) (TellsOf (HasNone rows)) (refutation rows) (refutation_after rows) (refutation-tells rows) by
  where
    by : (first : Bool) → TellsOf (HasNone rows) first → Always (TellsOf (HasNone rows)) (refutation_after rows first)
    by true told = told
    by false told =
        always_weaker (TellsOf (HasNone (with_products rows))) (TellsOf (HasNone rows)) (refutation (with_products rows)) (λ yes none e point. none e (products-point rows point)) (refutation-tells (with_products rows))
