-- Assertions that are not proved, judged once more from points.
use Rattle.std.specs.Prelude.{ℕ, ◌+◌, Bool, List, [], ◌∷◌, ◌++◌, Option, None, Some, if◌then◌else◌, slice_get}
use Rattle.syntax_tree.specs.declared.program.Program.{Program}
use Rattle.flow_graph.specs.FlowGraph.{CheckPlace, graph_of}
use Rattle.posing.specs.declared.note.Note.{Note}
use Rattle.posing.specs.Posing.{Posing, Done, ◌>>=◌, each}
use Rattle.report.specs.declared.blocks.Judged.{Judged}
use Rattle.report.specs.Text.{is_proved}
use Rattle.context.specs.SecondQuestions.{proved_if}
use Rattle.point_rounds.specs.declared.round.PointRound.{PointRound}
use Rattle.point_verdicts.specs.Exclusions.{exclusion_of}
use Rattle.analysis.specs.declared.standing.CheckAt.{CheckAt}
use Rattle.analysis.specs.Apart.{apart}
use Rattle.analysis.specs.Judging.{check_with, checks_of}

-- a judgement, proved where its assertion is excluded, with the notes of finding that behind its own
abbrev pub judgement_after : Judged → Bool × List Note → Judged
judgement_after judged found =
    record {
      at = judged.at;
      line = judged.line;
      column = judged.column;
      named = judged.named;
      shown = judged.shown;
      verdict = proved_if found.0 judged.verdict;
      notes = judged.notes ++ found.1;
    }

-- judged from points, by its condition; it stays as it is where it stands in no graph
unfoldable pub judgement_by : Program → PointRound → Judged → CheckAt → Option CheckPlace
    → Posing Judged
judgement_by program left judged c None = Done judged
judgement_by program left judged c (Some at) =
    apart (exclusion_of program c.proc at.cond c.check left.steps left.table) >>= λ found.
    Done (judgement_after judged found)

-- by where it stands
abbrev pub judgement_at : Program → PointRound → Judged → Option CheckAt → Posing Judged
judgement_at program left judged None = Done judged
judgement_at program left judged (Some c) =
    judgement_by program left judged c (slice_get (graph_of program c.proc).checks c.check)

-- the judgement on the assertion of a number; one that is proved stays as it is
unfoldable pub judgement_again : Program → PointRound → ℕ → Judged → Posing Judged
judgement_again program left number judged =
    if is_proved judged then Done judged
    else judgement_at program left judged (check_with number (checks_of 0 program.procs))

-- judgements with the numbers of their assertions, of which the first has this one
abbrev pub judgements_from : ℕ → List Judged → List (ℕ × Judged)
judgements_from number [] = []
judgements_from number (judged ∷ more) = (number, judged) ∷ judgements_from (number + 1) more

-- the judgements made, and one more
unfoldable pub with_judgement : Program → PointRound → List Judged → ℕ × Judged
    → Posing (List Judged)
with_judgement program left made one =
    judgement_again program left one.0 one.1 >>= λ judged. Done (made ++ judged ∷ [])

-- all of them, in the order of the text
unfoldable pub judgements_again : Program → PointRound → List Judged → Posing (List Judged)
judgements_again program left judged =
    each (with_judgement program left) [] (judgements_from 1 judged)
