use Rattle.std.proofs.Common.{◌≡◌, ◌++◌, drop}
use Rattle.checked_tree.proofs.mark.notes_copy.Given as goal

abbrev pub invariant-loop-note : goal.invariant-loop-note
invariant-loop-note l = l.copy ++ drop l.note-index l.notes ≡ l.notes
