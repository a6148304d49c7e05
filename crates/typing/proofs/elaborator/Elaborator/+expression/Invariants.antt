use Rattle.std.proofs.Common.{◌≡◌, ◌++◌, drop}
use Rattle.syntax_tree.specs.SourceExpr.{source_exprs_of}
use Rattle.typing.specs.CallFaults.{all_expression_faults}
use Rattle.typing.specs.Calls.{all_calls_in}
use Rattle.typing.specs.Env.{with_columns_taken}
use Rattle.typing.specs.Faults.{least_of}
use Rattle.typing.specs.Terms.{all_temporaries, terms_in}
use Rattle.typing.proofs.elaborator.Elaborator.+expression.Given as goal

abbrev pub invariant-expressions-loop-arg : goal.invariant-expressions-loop-arg
invariant-expressions-loop-arg l = record {
  terms : l.terms ++ terms_in l.self.env (source_exprs_of (drop l.arg-index l.args)) ≡ terms_in l.fn.self.env (source_exprs_of l.args);
  calls : l.out ++ all_calls_in l.self.env (source_exprs_of (drop l.arg-index l.args)) ≡ l.fn.out ++ all_calls_in l.fn.self.env (source_exprs_of l.args);
  env : with_columns_taken (all_temporaries (source_exprs_of (drop l.arg-index l.args))) l.self.env ≡ with_columns_taken (all_temporaries (source_exprs_of l.args)) l.fn.self.env;
  least : least_of l.self.least (all_expression_faults l.self.env l.right (source_exprs_of (drop l.arg-index l.args))) ≡ least_of l.fn.self.least (all_expression_faults l.fn.self.env l.right (source_exprs_of l.args));
}
