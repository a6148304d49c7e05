use Rattle.std.proofs.Common.{◌≡◌, map, take}
use Rattle.farkas_check.specs.Relations.{numbers_of}
use Rattle.simplex.proofs.strata.number_lists.Given as goal

abbrev pub invariant-loop-relation : goal.invariant-loop-relation
invariant-loop-relation l = l.made ≡ map numbers_of (take l.relation-index l.relations)
