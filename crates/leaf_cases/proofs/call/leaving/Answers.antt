use Rattle.std.proofs.Common.{map, take, drop, ◌++◌, ◌∙◌}
use Rattle.leaf_cases.specs.Edges.{posts_with_value}
use Rattle.leaf_cases.specs.Guard.{with_posts}
use Rattle.leaf_cases.specs.Steps.{operand}
use Rattle.leaf_cases.proofs.EdgeFits.{leaving_fits}
use Rattle.leaf_cases.proofs.call.leaving.Goals as goal

pub formula-requires : goal.formula-requires
formula-requires c =
    leaving_fits c.args.widths.columns c.args.widths.globals c.args.into c.args.cases.now c.in_ok-made.made c.requires.globals c.requires.cases
    (c.in_ok-made.ensures
    ∙ (λ i. map (λ case. with_posts (posts_with_value c.args.into (operand c.args.widths.globals case) (take c.args.widths.globals case.post ++ drop c.args.widths.globals ((c.as_slice.ensures ∙ c.in_ok-same.ensures) i))) case) c.args.cases.now))

pub returns : goal.returns
returns c =
    c.formula.ensures
    ∙ (λ i. record {
      from = c.args.widths.columns;
      to = c.args.widths.columns;
      cases = (c.in_ok-made.ensures
          ∙ (λ i. map (λ case. with_posts (posts_with_value c.args.into (operand c.args.widths.globals case) (take c.args.widths.globals case.post ++ drop c.args.widths.globals ((c.as_slice.ensures ∙ c.in_ok-same.ensures) i))) case) c.args.cases.now)) i;
    })
