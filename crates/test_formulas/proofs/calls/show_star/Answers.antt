use Rattle.std.proofs.Common.{arith, subst, sym, ◌∙◌}
use Rattle.transition_formula.specs.Transition.{IsTransition}
use Rattle.test_formulas.proofs.calls.show_star.Goals as goal

pub star-requires : goal.star-requires
star-requires c =
    let body = c.args.body.now in
    let starts = sym c.columns-columns.ensures.columns ∙ c.if-columns-from.false ∙ c.from.ensures in
    let ends = sym c.columns-columns.ensures.columns ∙ c.if-columns-to.false ∙ c.to.ensures in record {
      body_fits = subst (IsTransition body.from body.to) c.cases-cases.ensures.cases c.cases-cases.ensures.fit;
      same_ends = sym starts ∙ ends;
      vocabulary = c.columns-columns.ensures.valid;
      same_columns = ends;
      few = omega (arith, c.if-columns-gt63.false, c.if-columns-to.false, c.to.ensures);
    }
