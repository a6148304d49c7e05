use Rattle.std.proofs.Common.{sym, ◌∙◌}
use Rattle.linear_terms.proofs.Merge.{none as no_terms}
use Rattle.farkas_check.specs.Columns.{columns}
use Rattle.simplex.proofs.MergedColumns.{none, at_first, after_less, after_equal, after_greater, no_left, no_right}
use Rattle.simplex.proofs.widening.columns_with.Goals as goal
use Rattle.simplex.proofs.widening.columns_with.Goals.{in_default, in-Some+in_default-split_first}

pub loop-column-init : goal.loop-column-init
loop-column-init c = at_first c.args.rows.now c.from_vec-made.result c.args.own.now c.args.terms.now (c.from_vec-made.ensures ∙ c.in_ok-with_capacity.ensures.items) c.requires.own c.requires.terms

pub loop-column-preserved-in-Less : goal.loop-column-preserved-in-Less
loop-column-preserved-in-Less c = after_less c.loop-column.made c.loop-column.left.now (columns c.args.rows.now c.args.terms.now) c.push.new.self c.loop-column.right.now c.in-Some.column.now c.in-Some.columns.now c.in-Some-split_first.term.now c.in-Some-split_first.more.now c.in-Some.ensures.cases.0 c.in-Some-split_first.ensures.cases.0
    (sym c.cmp.ensures ∙ c.in-Less.is) c.in_ok-push-in-Less.ensures.ok c.loop-column.invariant

pub loop-column-preserved-in-Equal : goal.loop-column-preserved-in-Equal
loop-column-preserved-in-Equal c = after_equal c.loop-column.made c.loop-column.left.now (columns c.args.rows.now c.args.terms.now) c.push-in-Equal.new.self c.loop-column.right.now c.in-Some.column.now c.in-Some.columns.now c.in-Some-split_first.term.now c.in-Some-split_first.more.now c.in-Some.ensures.cases.0 c.in-Some-split_first.ensures.cases.0
    (sym c.cmp.ensures ∙ c.in-Equal.is) c.in_ok-push-in-Equal.ensures.ok c.loop-column.invariant

pub loop-column-preserved : goal.loop-column-preserved
loop-column-preserved c = after_greater c.loop-column.made c.loop-column.left.now (columns c.args.rows.now c.args.terms.now) c.push-in-Greater.new.self c.loop-column.right.now c.in-Some.column.now c.in-Some.columns.now c.in-Some-split_first.term.now c.in-Some-split_first.more.now c.in-Some.ensures.cases.0 c.in-Some-split_first.ensures.cases.0
    (sym c.cmp.ensures ∙ c.in-Greater.is) c.in_ok-push-in-Greater.ensures.ok c.loop-column.invariant

pub returns : goal.returns
returns c =
    let all = columns c.args.rows.now c.args.terms.now in
    elim c.match-split_first.branch [
      | in_default w ↦ c.in_ok-push_both.ensures ∙ no_left c.loop-column.made c.loop-column.left.now c.loop-column.right.now all (none c.loop-column.left.now w.in_default.ensures.cases) c.loop-column.invariant
      | in-Some+in_default-split_first w ↦ c.in_ok-push_both.ensures ∙ no_right c.loop-column.made c.loop-column.left.now c.loop-column.right.now all (no_terms c.loop-column.right.now w.in_default-split_first.ensures.cases) c.loop-column.invariant
    ]
