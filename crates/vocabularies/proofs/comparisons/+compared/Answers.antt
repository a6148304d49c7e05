use Rattle.syntax_tree.specs.Code.{code_of}
use Rattle.vocabularies.specs.Harvest.{compared_in}
use Rattle.vocabularies.specs.Room.{with_terms}
use Rattle.vocabularies.proofs.Rooms.{code-next, code-end}
use Rattle.vocabularies.proofs.comparisons.+compared.Goals as goal

pub add_compared_in-loop-stmt-preserved : goal.add_compared_in-loop-stmt-preserved
add_compared_in-loop-stmt-preserved t c =
    code-next c.args.stmts.now c.loop-stmt.stmt-index c.stmt-item.result c.loop-stmt.terms c.add_compared_by.new.terms (with_terms c.args.terms.now (compared_in (code_of c.args.stmts.now)))
    c.loop-stmt-test.true c.stmt-item.is c.loop-stmt.invariant c.in_ok-add_compared_by.ensures

pub add_compared_in-returns : goal.add_compared_in-returns
add_compared_in-returns t c =
    code-end c.args.stmts.now c.loop-stmt.stmt-index c.loop-stmt.terms (with_terms c.args.terms.now (compared_in (code_of c.args.stmts.now))) c.loop-stmt-test.false c.loop-stmt.invariant
