use Rattle.std.proofs.Common.{◌≡◌, map, take, drop}
use Rattle.std.specs.Prelude.{slice_index}
use Rattle.linear_terms.specs.Auxiliaries.{renumbered_column}
use Rattle.linear_terms.proofs.mono.renumber_each.Given as goal

abbrev pub invariant-loop-i : goal.invariant-loop-i
invariant-loop-i l =
    record {
      written : take l.i l.cells ≡ map (renumbered_column (slice_index l.numbers)) (take l.i l.columns);
      after : drop l.i l.cells ≡ drop l.i l.initial.cells;
    }
