use Rattle.std.proofs.Common.{◌≡◌, ◌++◌, drop}
use Rattle.std.specs.List.{flat_map}
use Rattle.report.specs.Text.{note_line}
use Rattle.report.proofs.text.ReportText.put_notes.Given as goal

abbrev pub invariant-loop-note : goal.invariant-loop-note
invariant-loop-note l =
    l.self ++ flat_map (note_line l.blocks) (drop l.note-index l.notes)
    ≡ l.fn.self ++ flat_map (note_line l.blocks) l.notes
