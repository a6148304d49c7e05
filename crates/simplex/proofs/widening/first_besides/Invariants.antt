use Rattle.std.proofs.Common.{drop}
use Rattle.std.specs.Map.{keys_of}
use Rattle.farkas_check.proofs.Spreads.{AreAmong}
use Rattle.simplex.proofs.widening.first_besides.Given as goal

abbrev pub invariant-loop-mono : goal.invariant-loop-mono
invariant-loop-mono l = AreAmong (keys_of (drop l.mono-index l.terms)) l.own → AreAmong (keys_of l.terms) l.own
