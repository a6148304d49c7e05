use Rattle.std.proofs.Common.{[], ◌∷◌, ◌++◌, ◌∙◌}
use Rattle.std.specs.Prelude.{slice_set}
use Rattle.leaf_cases.proofs.EdgeFits.{any_fits}
use Rattle.leaf_cases.proofs.assignment.any.Goals as goal

pub formula-requires : goal.formula-requires
formula-requires c = any_fits c.args.columns c.args.col c.push.new.self (c.in_ok-push.ensures.ok ∙ (λ i. c.new-cases.ensures i ++ record { aux = 1; rows = c.new.ensures i; post = (c.posts_with.ensures ∙ (λ j. slice_set (c.in_ok-same.ensures j) c.args.col (c.in_ok-free.ensures j))) i } ∷ []))

pub returns : goal.returns
returns c = c.formula.ensures ∙ (λ i. record { from = c.args.columns; to = c.args.columns; cases = (c.in_ok-push.ensures.ok ∙ (λ i. c.new-cases.ensures i ++ record { aux = 1; rows = c.new.ensures i; post = (c.posts_with.ensures ∙ (λ j. slice_set (c.in_ok-same.ensures j) c.args.col (c.in_ok-free.ensures j))) i } ∷ [])) i })
