-- What is found of a program's procedures, group after group.
use Rattle.std.specs.Prelude.{ℕ, List, [], ◌∷◌, Option, None, Some, length, replicate, slice_set}
use Rattle.std.specs.List.{filter_map}
use Rattle.syntax_tree.specs.declared.program.Program.{Program}
use Rattle.posing.specs.declared.note.Note.{Note}
use Rattle.posing.specs.Posing.{Posing, Done, ◌>>=◌, each}
use Rattle.proc_summary.specs.declared.stop.Flow.{Flow}
use Rattle.analysis.specs.declared.planning.Planned.{Planned}
use Rattle.analysis.specs.declared.parts.Part.{Part}
use Rattle.analysis.specs.declared.found.Found.{Found}
use Rattle.analysis.specs.Parts.{part_of}

-- elements put at these places
abbrev pub put_at : {A : Type 0} → List ℕ → List A → List (Option A) → List (Option A)
put_at [] xs all = all
put_at (place ∷ places) [] all = all
put_at (place ∷ places) (x ∷ xs) all = put_at places xs (slice_set all place (Some x))

-- notes stand at the first procedure of their group
abbrev pub with_notes_at : List ℕ → List Note → List (List Note) → List (List Note)
with_notes_at [] notes all = all
with_notes_at (first ∷ procs) notes all = slice_set all first notes

-- what is found of so many procedures before the first group: no summary, no flow and no notes
abbrev pub nothing_found : ℕ → Found
nothing_found procs = record {
  known = replicate procs None;
  flows = replicate procs None;
  notes = replicate procs [];
}

-- what is found, with the part of a group at the places of its procedures
abbrev pub with_part : Found → List ℕ → Part → Found
with_part found procs part =
    record {
      known = put_at procs part.formulas found.known;
      flows = put_at procs part.flows found.flows;
      notes = with_notes_at procs part.notes found.notes;
    }

-- what is found, with one group more, by the summaries of those before it
unfoldable pub with_group : Program → Found → Planned → Posing Found
with_group program found planned = part_of program planned found.known
    >>= λ part. Done (with_part found planned.procs part)

-- what is found of all procedures, group after group in the order of the plan
unfoldable pub findings_by_plan : Program → List Planned → Posing Found
findings_by_plan program plan = each (with_group program) (nothing_found (length program.procs)) plan

-- those that are found, in the order of the text
abbrev pub flows_in : Found → List Flow
flows_in found = filter_map (λ flow. flow) found.flows
