use Rattle.std.proofs.Common.{◌≡◌, drop}
use Rattle.syntax_tree.specs.Code.{code_of}
use Rattle.vocabularies.specs.Harvest.{compared_in}
use Rattle.vocabularies.specs.Room.{with_terms}
use Rattle.vocabularies.proofs.comparisons.+compared.Given as goal

abbrev pub invariant-add_compared_in-loop-stmt : goal.invariant-add_compared_in-loop-stmt
invariant-add_compared_in-loop-stmt l =
    with_terms l.terms (compared_in (code_of (drop l.stmt-index l.stmts))) ≡ with_terms l.initial.terms (compared_in (code_of l.stmts))
