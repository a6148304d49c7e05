use Rattle.std.proofs.Common.{map}
use Rattle.syntax_tree.specs.Term.{term_of}
use Rattle.vocabularies.specs.Harvest.{compared_each}
use Rattle.vocabularies.specs.Room.{with_terms}
use Rattle.vocabularies.proofs.Rooms.{each-next, each-end}
use Rattle.vocabularies.proofs.comparisons.add_compared_each.Goals as goal

pub loop-e-preserved : goal.loop-e-preserved
loop-e-preserved c =
    each-next c.args.exprs.now c.loop-e.e-index c.e-item.result c.loop-e.terms c.add_compared.new.terms (with_terms c.args.terms.now (compared_each (map term_of c.args.exprs.now)))
    c.loop-e-test.true c.e-item.is c.loop-e.invariant c.in_ok-add_compared.ensures

pub returns : goal.returns
returns c = each-end c.args.exprs.now c.loop-e.e-index c.loop-e.terms (with_terms c.args.terms.now (compared_each (map term_of c.args.exprs.now))) c.loop-e-test.false c.loop-e.invariant
