use Rattle.std.proofs.Common.{arith, subst, sym, ◌∙◌}
use Rattle.transition_formula.specs.Transition.{IsTransition}
use Rattle.test_formulas.proofs.calls.show_fit.Goals as goal

pub fit-requires : goal.fit-requires
fit-requires c =
    let f = c.args.f.now in
    let starts = sym c.columns-columns.ensures.columns ∙ c.if-columns-from.false ∙ c.from.ensures in
    let ends = sym c.columns-columns.ensures.columns ∙ c.if-columns-to.false ∙ c.to.ensures in record {
      fits = subst (IsTransition f.from f.to) c.cases-cases.ensures.cases c.cases-cases.ensures.fit;
      starts = starts;
      ends = ends;
      few_before = omega (arith, c.if-columns-gt63.false, c.if-columns-from.false, c.from.ensures);
      few_after = omega (arith, c.if-columns-gt63.false, c.if-columns-to.false, c.to.ensures);
      from_is = c.columns-columns.ensures.valid;
      to_is = c.columns-columns.ensures.valid;
    }
