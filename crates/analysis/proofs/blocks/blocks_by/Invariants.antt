use Rattle.std.proofs.Common.{◌≡◌, ◌++◌, drop}
use Rattle.analysis.specs.Analysis.{blocks_by}
use Rattle.analysis.proofs.blocks.blocks_by.Given as goal

abbrev pub invariant-loop-place : goal.invariant-loop-place
invariant-loop-place l =
    l.blocks ++ blocks_by l.program (drop l.place l.program.procs) (drop l.place l.known) (drop l.place l.notes)
    ≡ blocks_by l.program l.program.procs l.known l.notes
