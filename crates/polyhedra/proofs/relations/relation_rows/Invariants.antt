use Rattle.std.proofs.Common.{◌≡◌, ◌++◌, drop}
use Rattle.polyhedra.specs.Squash.{relation_rows, relation_losses}
use Rattle.polyhedra.proofs.relations.relation_rows.Given as goal

abbrev pub invariant-loop-relation : goal.invariant-loop-relation
invariant-loop-relation l =
    record {
      rows : l.rows ++ relation_rows l.terms l.lower (drop l.relation-index l.relations) ≡ relation_rows l.terms l.lower l.relations;
      losses : l.losses ++ relation_losses l.terms l.lower (drop l.relation-index l.relations) ≡ relation_losses l.terms l.lower l.relations;
    }
