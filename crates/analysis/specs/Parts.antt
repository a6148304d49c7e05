-- What is found of one group: a summary and a flow for each of its procedures, and the notes of
-- finding them.
use Rattle.std.specs.Prelude.{ℕ, false, true, List, [], ◌∷◌, ◌++◌, Option, map}
use Rattle.std.specs.List.{slice_index_or}
use Rattle.syntax_tree.specs.declared.program.Proc.{Proc}
use Rattle.syntax_tree.specs.declared.program.Program.{Program}
use Rattle.transition_formula.specs.Transition.{Transition}
use Rattle.posing.specs.declared.note.Note.{Note}
use Rattle.posing.specs.declared.note.Note.TheVariants as note
use Rattle.posing.specs.Posing.{Posing, Done, ◌>>=◌, each}
use Rattle.proc_summary.specs.declared.stop.Flow.{Flow}
use Rattle.proc_summary.specs.Flow.{flow_from}
use Rattle.proc_summary.specs.Subject.{subject_of}
use Rattle.proc_summary.specs.Summary.{ends_of, summary_from}
use Rattle.newton_rounds.specs.Close.{group_closure}
use Rattle.newton_rounds.specs.Members.{members_of, with_table}
use Rattle.analysis.specs.declared.planning.GroupKind.{GroupKind}
use Rattle.analysis.specs.declared.planning.GroupKind.TheVariants.{Plain, Linear, Rounds}
use Rattle.analysis.specs.declared.planning.Planned.{Planned}
use Rattle.analysis.specs.declared.parts.Part.{Part}
use Rattle.analysis.specs.declared.parts.GroupSummaries.{GroupSummaries}
use Rattle.analysis.specs.Apart.{apart}

-- ---- summaries and flows

-- the flow of one procedure more, behind those that are made
unfoldable pub with_flow : Program → List (Option Transition) → List Flow → Proc
    → Posing (List Flow)
with_flow program known made p = flow_from (subject_of program p known)
    >>= λ flow. Done (made ++ flow ∷ [])

-- a procedure that does not call itself: its flow, and its summary by that
unfoldable pub with_plain : Program → List (Option Transition) → GroupSummaries → Proc → Posing GroupSummaries
with_plain program known made p =
    flow_from (subject_of program p known) >>= λ flow.
    summary_from (ends_of program p) flow.exit.formula >>= λ f.
    Done record { formulas = made.formulas ++ f ∷ []; flows = made.flows ++ flow ∷ [] }

-- the summaries and flows of a group that is not recursive, in the order of its procedures
unfoldable pub plain_part : Program → List ℕ → List (Option Transition) → Posing GroupSummaries
plain_part program procs known =
    each (with_plain program known) record { formulas = []; flows = [] } (members_of program procs)

-- a recursive group: its summaries, and then a flow for each procedure by these
unfoldable pub recursive_part : Program → List ℕ → List (Option Transition)
    → Posing (List Transition) → Posing GroupSummaries
recursive_part program procs known summaries =
    summaries >>= λ table.
    each (with_flow program (with_table procs table known)) [] (members_of program procs)
    >>= λ flows.
    Done record { formulas = table; flows = flows }

-- the summaries and flows of a group, in the order of its procedures, by its kind
unfoldable pub summaries_by : GroupKind → Program → List ℕ → List (Option Transition) → Posing GroupSummaries
summaries_by Plain program procs known = plain_part program procs known
summaries_by Linear program procs known =
    recursive_part program procs known (group_closure true program procs known)
summaries_by Rounds program procs known =
    recursive_part program procs known (group_closure false program procs known)

-- ---- the group's notes

-- a dropped row is noted by the place of its procedure in the group; in the report that is its
-- place in the program
abbrev pub note_in : List ℕ → Note → Note
note_in procs (note.Dropped place row by) = note.Dropped (slice_index_or procs place 0) row by
note_in procs n = n

-- with notes that tell procedures by their places in the group
abbrev pub part_with : List ℕ → GroupSummaries → List Note → Part
part_with procs made notes =
    record {
      formulas = made.formulas;
      flows = made.flows;
      notes = map (note_in procs) notes;
    }

-- what is found of a planned group where these formulas are known, with its notes
unfoldable pub part_of : Program → Planned → List (Option Transition) → Posing Part
part_of program planned known =
    apart (summaries_by planned.kind program planned.procs known) >>= λ made.
    Done (part_with planned.procs made.0 made.1)
