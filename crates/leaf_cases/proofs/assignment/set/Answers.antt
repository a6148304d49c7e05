use Rattle.std.proofs.Common.{map, ◌∙◌}
use Rattle.std.specs.Prelude.{slice_set}
use Rattle.syntax_tree.specs.Term.{term_of}
use Rattle.leaf_cases.specs.Guard.{with_posts}
use Rattle.leaf_cases.specs.Steps.{operand}
use Rattle.leaf_cases.proofs.EdgeFits.{set_fits}
use Rattle.leaf_cases.proofs.assignment.set.Goals as goal

pub formula-requires : goal.formula-requires
formula-requires c =
    set_fits c.args.columns c.args.col (term_of c.args.e.now) c.in_ok-made.made c.requires.below
    (c.in_ok-made.ensures ∙ (λ i. map (λ case. with_posts (slice_set (c.in_ok-same.ensures i) c.args.col (operand 0 case)) case) ((c.as_slice.ensures ∙ c.in_ok-values.ensures.exact) i)))

pub returns-clause-exact : goal.returns-clause-exact
returns-clause-exact c =
    c.formula.ensures
    ∙ (λ i. record {
      from = c.args.columns;
      to = c.args.columns;
      cases = (c.in_ok-made.ensures ∙ (λ i. map (λ case. with_posts (slice_set (c.in_ok-same.ensures i) c.args.col (operand 0 case)) case) ((c.as_slice.ensures ∙ c.in_ok-values.ensures.exact) i))) i;
    })
