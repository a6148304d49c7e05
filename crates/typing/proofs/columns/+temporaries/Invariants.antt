use Rattle.std.proofs.Common.{◌≡◌, ◌++◌, drop}
use Rattle.syntax_tree.specs.SourceExpr.{source_exprs_of}
use Rattle.typing.specs.Lines.{nameless}
use Rattle.typing.specs.Terms.{all_temporaries}
use Rattle.typing.proofs.columns.+temporaries.Given as goal

abbrev pub invariant-all_temporaries-loop-e : goal.invariant-all_temporaries-loop-e
invariant-all_temporaries-loop-e l = l.columns ++ nameless (all_temporaries (source_exprs_of (drop l.e-index l.exprs))) ≡ l.fn.columns ++ nameless (all_temporaries (source_exprs_of l.exprs))
