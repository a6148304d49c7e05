-- Relations between changes and entry columns that an oracle finds.
use Rattle.std.specs.Prelude.{List, Option, None, Some}
use Rattle.std.specs.List.{filter}
use Rattle.linear_terms.specs.Polynomial.{Polynomial}
use Rattle.farkas_check.specs.declared.answer.Answer.{Answer}
use Rattle.farkas_check.specs.declared.answer.Answer.TheVariants as answer
use Rattle.farkas_check.specs.declared.question.Question.TheVariants.{Stratum}
use Rattle.farkas_check.specs.declared.stratum.Change.{Change}
use Rattle.farkas_check.specs.declared.stratum.Relation.{Relation}
use Rattle.farkas_check.specs.Stratum.{has_unknowns}
use Rattle.posing.specs.Posing.{Posing, Done, Noted, answer_to, ◌>>=◌}
use Rattle.polyhedra.specs.Infeasibility.{limits_of}

-- The relations of a basis. Each has a number for each term and each lower term: so has every one
-- of an answer that passes.
abbrev pub relations_in : List Change → List Polynomial → Answer → Option (List Relation)
relations_in cases lower (answer.Yes by) = None
relations_in cases lower (answer.No point) = None
relations_in cases lower (answer.Bound at certs case point) = None
relations_in cases lower (answer.Unbounded case point ray) = None
relations_in cases lower (answer.Basis relations spots free) =
    Some (filter (has_unknowns cases lower) relations)
relations_in cases lower (answer.Limit limit) = None

-- the relations between the terms of cases and lower terms that are true in each case, if they are
-- known; a limit is noted
unfoldable pub relations_of : List Change → List Polynomial → Posing (Option (List Relation))
relations_of cases lower =
    answer_to (Stratum record {
      cases = cases;
      lower = lower;
    }) >>= λ answer. Noted (limits_of answer) (Done (relations_in cases lower answer))
