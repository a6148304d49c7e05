use Rattle.std.proofs.Common.{◌≡◌, List, ◌++◌, subst}
use Rattle.syntax_tree.specs.declared.expr.Expr.{Expr}
use Rattle.syntax_tree.specs.SourceExpr.{source_exprs_of}
use Rattle.typing.specs.Lines.{nameless}
use Rattle.typing.specs.Terms.{all_temporaries}
use Rattle.typing.proofs.Nameless.{grown}
use Rattle.typing.proofs.Steps.{next_left}
use Rattle.typing.proofs.columns.+temporaries.Goals as goal

pub all_temporaries-loop-e-preserved : goal.all_temporaries-loop-e-preserved
all_temporaries-loop-e-preserved t c =
    let left = next_left c.args.exprs.now c.loop-e.e-index c.e-item.result c.e-item.is c.loop-e-test.true in
    rw c.in_ok-temporaries.ensures (grown _ _ _ _
    (subst (λ (es : List Expr). c.loop-e.columns ++ nameless (all_temporaries (source_exprs_of es)) ≡ c.args.columns.now ++ nameless (all_temporaries (source_exprs_of c.args.exprs.now))) left c.loop-e.invariant))
