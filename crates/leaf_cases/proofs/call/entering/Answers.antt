use Rattle.std.proofs.Common.{◌+◌, ◌++◌, map, ◌∙◌}
use Rattle.leaf_cases.specs.Guard.{with_posts}
use Rattle.leaf_cases.proofs.EdgeFits.{entering_fits}
use Rattle.leaf_cases.proofs.call.entering.Goals as goal

pub formula-requires : goal.formula-requires
formula-requires c =
    entering_fits c.args.widths.columns c.args.widths.globals c.args.count c.args.cases.now c.in_ok-made.made c.requires.globals c.requires.cases
    (c.in_ok-made.ensures ∙ (λ i. map (λ case. with_posts (c.in_ok-front.ensures i ++ case.post) case) c.args.cases.now))

pub returns : goal.returns
returns c =
    c.formula.ensures
    ∙ (λ i. record {
      from = c.args.widths.columns;
      to = c.args.widths.globals + c.args.count;
      cases = (c.in_ok-made.ensures ∙ (λ i. map (λ case. with_posts (c.in_ok-front.ensures i ++ case.post) case) c.args.cases.now)) i;
    })
