use Rattle.std.proofs.Common.{◌≡◌, drop, true}
use Rattle.std.specs.List.{list_all}
use Rattle.farkas_check.specs.Listing.{columns_in}
use Rattle.farkas_check.specs.Stratum.{all_of, tested_relation, has_unknowns}
use Rattle.farkas_check.proofs.ties.tested_relations.Given as goal

abbrev pub invariant-loop-relation : goal.invariant-loop-relation
invariant-loop-relation l =
    (all_of (tested_relation (columns_in l.columns) l.cases l.lower) (drop l.relation-index l.relations) ≡ all_of (tested_relation (columns_in l.columns) l.cases l.lower) l.relations)
    × (list_all (has_unknowns l.cases l.lower) (drop l.relation-index l.relations) ≡ true)
