-- How much a question weighs: roughly how much it takes to answer it.
--
-- The search for a point of rows begins with the rows themselves, and each of its exchanges is over
-- all of them. How great an objective gets is sought from the last corner of a case on.
use Rattle.std.specs.Prelude.{ℕ, ◌*◌, length}
use Rattle.std.specs.List.{sum_by}
use Rattle.farkas_check.specs.declared.question.Question.{Question}
use Rattle.farkas_check.specs.declared.question.Question.TheVariants.{Infeasible, Sup, Stratum}

-- the square of the number of rows; the rows of all cases; and these once for each term of a case,
-- where relations are asked
abbrev pub weight_of : Question → ℕ
weight_of (Infeasible rows) = length rows * length rows
weight_of (Sup goals) = sum_by (λ goal. length goal.rows) goals
weight_of (Stratum asked) = sum_by (λ case. length case.rows * length case.terms) asked.cases
