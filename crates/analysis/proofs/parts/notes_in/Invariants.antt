use Rattle.std.proofs.Common.{◌≡◌, map}
use Rattle.analysis.specs.Parts.{note_in}
use Rattle.analysis.proofs.parts.notes_in.Given as goal

abbrev pub invariant-loop-note : goal.invariant-loop-note
invariant-loop-note l = l.made ≡ map (note_in l.procs) l.yielded
