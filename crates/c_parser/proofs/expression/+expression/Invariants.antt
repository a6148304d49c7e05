use Rattle.std.proofs.Common.{◌≡◌, ◌<◌, length, map, suc, ◌+◌, ◌*◌}
use Rattle.syntax_tree.specs.SourceExpr.{source_expr_of}
use Rattle.c_parser.specs.Descent.{arguments, expression_below, links, more_arguments, operand, rest_of}
use Rattle.c_parser.proofs.expression.+expression.Given as goal

abbrev pub decreases-arguments : goal.decreases-arguments
decreases-arguments l = 40 * l.level + 28

abbrev pub decreases-bracketed_expression : goal.decreases-bracketed_expression
decreases-bracketed_expression l = 40 * l.levels + 7

abbrev pub decreases-call : goal.decreases-call
decreases-call l = 40 * l.levels + 7

abbrev pub decreases-expression_below : goal.decreases-expression_below
decreases-expression_below l = 40 * l.level + 11 + 2 * l.ranks

abbrev pub decreases-link : goal.decreases-link
decreases-link l = 40 * l.level + 12 + 2 * l.rank

abbrev pub decreases-mark_operand : goal.decreases-mark_operand
decreases-mark_operand l = 40 * l.levels + 8

abbrev pub decreases-signed_operand : goal.decreases-signed_operand
decreases-signed_operand l = 40 * l.levels + 7

abbrev pub decreases-token_operand : goal.decreases-token_operand
decreases-token_operand l = 40 * l.levels + 9

abbrev pub decreases-reference : goal.decreases-reference
decreases-reference l = 40 * l.levels + 8

abbrev pub decreases-operand : goal.decreases-operand
decreases-operand l = 40 * l.levels + 10

-- what is still to be read comes to what the function is to give
abbrev pub invariant-arguments-more : goal.invariant-arguments-more
invariant-arguments-more l = record {
  stated : more_arguments (expression_below (operand l.level) 6) (map source_expr_of l.args, rest_of l.after.tokens.now l.after.operators)
      ≡ arguments (expression_below (operand l.level) 6) (rest_of l.fn.rest.tokens.now l.fn.rest.operators);
  shorter : length l.after.tokens.now < length l.fn.rest.tokens.now;
}

abbrev pub decreases-arguments-more : goal.decreases-arguments-more
decreases-arguments-more l = length l.after.tokens.now

abbrev pub invariant-expression_below-links : goal.invariant-expression_below-links
invariant-expression_below-links l = record {
  rank : l.ranks ≡ suc l.rank;
  stated : links l.rank (expression_below (operand l.level) l.rank) l.at (source_expr_of l.left, rest_of l.after.tokens.now l.after.operators)
      ≡ expression_below (operand l.level) l.ranks (rest_of l.fn.rest.tokens.now l.fn.rest.operators);
  shorter : length l.after.tokens.now < length l.fn.rest.tokens.now;
}

abbrev pub decreases-expression_below-links : goal.decreases-expression_below-links
decreases-expression_below-links l = length l.after.tokens.now
