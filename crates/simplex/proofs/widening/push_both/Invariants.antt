use Rattle.std.proofs.Common.{◌≡◌, ◌++◌, take}
use Rattle.std.specs.Map.{keys_of}
use Rattle.simplex.proofs.widening.push_both.Given as goal

abbrev pub invariant-loop-column : goal.invariant-loop-column
invariant-loop-column l = l.made ≡ l.fn.made ++ take l.column-index l.columns

abbrev pub invariant-loop-mono : goal.invariant-loop-mono
invariant-loop-mono l = l.made ≡ l.fn.made ++ l.columns ++ keys_of (take l.mono-index l.terms)
