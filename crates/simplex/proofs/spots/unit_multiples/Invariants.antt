use Rattle.std.proofs.Common.{◌≡◌, ◌+◌, drop}
use Rattle.farkas_check.specs.Relations.{entry}
use Rattle.simplex.specs.Exchange.{behind}
use Rattle.simplex.specs.Spots.{multiples_from}
use Rattle.simplex.proofs.spots.unit_multiples.Given as goal

abbrev pub invariant-loop-spot : goal.invariant-loop-spot
invariant-loop-spot l = behind l.made (multiples_from l.line (entry l.line l.unknown) (l.count + l.spot) (drop l.spot l.scales)) ≡ multiples_from l.line (entry l.line l.unknown) l.count l.scales
