use Rattle.std.proofs.Common.{◌≡◌, drop, map}
use Rattle.syntax_tree.specs.Term.{term_of}
use Rattle.vocabularies.specs.Harvest.{compared_each}
use Rattle.vocabularies.specs.Room.{with_terms}
use Rattle.vocabularies.proofs.comparisons.add_compared_each.Given as goal

abbrev pub invariant-loop-e : goal.invariant-loop-e
invariant-loop-e l =
    with_terms l.terms (compared_each (map term_of (drop l.e-index l.exprs))) ≡ with_terms l.initial.terms (compared_each (map term_of l.exprs))
