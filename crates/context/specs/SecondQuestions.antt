-- A second question about a case that the first one left unproved: whether its rows are infeasible
-- together with their products. Whole numbers that make rows true make these true as well, so a Yes
-- to it proves as much as one to the first.
use Rattle.std.specs.Prelude.{List, [], ◌∷◌, ◌++◌, Bool, true, false}
use Rattle.linear_terms.specs.declared.row.Row.{Row}
use Rattle.farkas_check.specs.declared.question.Question.TheVariants.{Infeasible}
use Rattle.posing.specs.Posing.{Posing, Done, answer_to, ◌>>=◌}
use Rattle.polyhedra.specs.Infeasibility.{is_yes}
use Rattle.report.specs.declared.verdict.Verdict.{Verdict}
use Rattle.report.specs.declared.verdict.Verdict.TheVariants.{Proved, Unproved, UnprovedLimit}
use Rattle.row_products.specs.Products.{products}

-- rows and more rows; none where there are no more
abbrev pub with_more : List Row → List Row → List Row
with_more rows [] = []
with_more rows (row ∷ more) = rows ++ row ∷ more

-- rows with their products; none where they have no products
abbrev pub with_products : List Row → List Row
with_products rows = with_more rows (products rows)

-- the rows that are asked about after a verdict; none where it is proved
abbrev pub second_rows : Verdict → List Row
second_rows Proved = []
second_rows (Unproved case point) = with_products case.rows
second_rows (UnprovedLimit case limit) = with_products case.rows

-- proved where the answer is Yes; else the verdict stands, with its own point or limit
abbrev pub proved_if : Bool → Verdict → Verdict
proved_if true verdict = Proved
proved_if false verdict = verdict

-- the verdict after a question about rows, which is not asked where there are none; what else it is
-- answered is not told
abbrev pub verdict_after : List Row → Verdict → Posing Verdict
verdict_after [] verdict = Done verdict
verdict_after (row ∷ rows) verdict = answer_to (Infeasible (row ∷ rows))
    >>= λ answer. Done (proved_if (is_yes answer) verdict)

-- the verdict after the second question
unfoldable pub second_verdict : Verdict → Posing Verdict
second_verdict verdict = verdict_after (second_rows verdict) verdict

-- a verdict, and then the one after the second question
abbrev pub twofold : Posing Verdict → Posing Verdict
twofold first = first >>= second_verdict

-- so under a rule with phases; under another the first verdict is all
abbrev pub by_rule : Bool → Posing Verdict → Posing Verdict
by_rule false first = first
by_rule true first = twofold first
