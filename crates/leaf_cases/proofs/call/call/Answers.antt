use Rattle.std.proofs.Common.{map, ap, ◌∙◌, arith}
use Rattle.syntax_tree.specs.Term.{term_of}
use Rattle.transition_formula.specs.Composition.{sequence_of}
use Rattle.transition_formula.specs.Transition.{Transition}
use Rattle.leaf_cases.specs.Edges.{cut, leaving_case}
use Rattle.leaf_cases.proofs.Arguments.{arguments_fit_as}
use Rattle.leaf_cases.proofs.EdgeFits.{first_is, call_few}
use Rattle.leaf_cases.proofs.call.call.Goals as goal

pub entering-requires-clause-cases : goal.entering-requires-clause-cases
entering-requires-clause-cases c =
    arguments_fit_as c.args.widths.columns c.args.args.now _ c.as_slice.result.now c.in_ok-values.values c.requires.below (omega arith) c.in_ok-values.ensures.exact c.as_slice.ensures

pub seq-requires-clause-few : goal.seq-requires-clause-few
seq-requires-clause-few c =
    call_few c.args.widths.columns c.args.widths.globals (map term_of c.args.args.now) c.args.into c.args.callee.now c.in_ok-before.before c.in_ok-after.after c.requires.below c.requires.operators c.requires.narrow c.requires.widths c.requires.few
    (first_is c.args.widths.columns c.args.widths.globals c.args.args.now _ c.as_slice.result.now c.in_ok-values.values c.in_ok-before.before (omega arith) c.in_ok-values.ensures.exact c.as_slice.ensures c.in_ok-before.ensures)
    (c.in_ok-after.ensures ∙ ap (λ n. cut n c.args.callee.now) c.awaited_count.ensures)

pub returns-clause-exact : goal.returns-clause-exact
returns-clause-exact c =
    c.in_ok-formula.ensures
    ∙ (λ i. record {
      from = c.args.widths.columns;
      to = c.args.widths.columns;
      cases = map (leaving_case c.args.widths.columns c.args.widths.globals c.args.into)
          ((c.cases.ensures.cases
          ∙ ap (λ (f : Transition). f.cases) (c.in_ok-made.ensures.exact
          ∙ (λ j. sequence_of
          (first_is c.args.widths.columns c.args.widths.globals c.args.args.now _ c.as_slice.result.now c.in_ok-values.values c.in_ok-before.before (omega arith) c.in_ok-values.ensures.exact c.as_slice.ensures c.in_ok-before.ensures j)
          ((c.in_ok-after.ensures ∙ ap (λ n. cut n c.args.callee.now) c.awaited_count.ensures) j)))) i);
    })
