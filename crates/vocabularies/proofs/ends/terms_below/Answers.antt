use Rattle.std.proofs.Common.{sym, ◌∙◌}
use Rattle.transition_formula.proofs.ColumnTests.{every_column_decides}
use Rattle.vocabularies.proofs.Columns.{below-with, below-without}
use Rattle.vocabularies.proofs.ends.terms_below.Goals as goal

pub loop-term-preserved-in-Continue-1 : goal.loop-term-preserved-in-Continue-1
loop-term-preserved-in-Continue-1 c =
    below-with c.args.columns c.loop-term.yielded c.loop-term.kept c.push.new.self c.in-Some.term c.loop-term.invariant
    (sym (every_column_decides c.args.columns 0 c.in-Some.term c.is_covered.result c.is_covered.ensures) ∙ c.if-is_covered.true) c.in_ok-push.ensures.ok

pub loop-term-preserved : goal.loop-term-preserved
loop-term-preserved c =
    below-without c.args.columns c.loop-term.yielded c.loop-term.kept c.in-Some.term c.loop-term.invariant
    (sym (every_column_decides c.args.columns 0 c.in-Some.term c.is_covered.result c.is_covered.ensures) ∙ c.if-is_covered.false)
