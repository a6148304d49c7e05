use Rattle.std.proofs.Common.{sym, ap, ◌∙◌}
use Rattle.std.specs.Prelude.{◌&&◌}
use Rattle.transition_formula.specs.Rows.{exclude}
use Rattle.transition_formula.proofs.Fitting.{below-true}
use Rattle.transition_formula.proofs.Meanings.{not-below}
use Rattle.transition_formula.proofs.Opposites.{excludes_none, excludes_one, excludes_behind}
use Rattle.transition_formula.proofs.tidy.excludes_later.Goals as goal

pub returns-in-None : goal.returns-in-None
returns-in-None c = excludes_none c.args.row.now c.args.rows.now c.requires.apart c.args.place (sym c.in-None.is ∙ c.in_ok-other.ensures.first)

pub returns-then-place-other : goal.returns-then-place-other
returns-then-place-other c =
    let row = c.args.row.now in
    c.exclude.ensures ∙ ap (λ b. b && exclude row c.index-rows-other.result) (sym (below-true c.args.place c.in-Some.other c.if-place-other.true))
    ∙ excludes_one row c.args.rows.now c.requires.apart c.args.place c.in-Some.other c.index-rows-other.result (sym c.in-Some.is ∙ c.in_ok-other.ensures.first) c.index-rows-other.is

pub returns-else-place-other : goal.returns-else-place-other
returns-else-place-other c =
    not-below c.args.place c.in-Some.other c.if-place-other.false
    ∙ excludes_behind c.args.row.now c.args.rows.now c.requires.apart c.args.place c.in-Some.other (sym c.in-Some.is ∙ c.in_ok-other.ensures.first) c.if-place-other.false
