use Rattle.std.proofs.Common.{◌≡◌, length}
use Rattle.std.specs.List.{filter}
use Rattle.std.specs.Prelude.{◌&&◌, ◌==◌}
use Rattle.farkas_check.specs.declared.stratum.Relation.{Relation}
use Rattle.polyhedra.proofs.relations.with_unknowns.Given as goal

abbrev pub invariant-loop-relation : goal.invariant-loop-relation
invariant-loop-relation l = l.kept ≡ filter (λ (r : Relation). length r.a == l.terms && length r.b == l.lower) l.yielded
