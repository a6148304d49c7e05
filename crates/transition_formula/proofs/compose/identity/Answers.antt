use Rattle.std.proofs.Common.{◌≡◌, ◌∷◌, [], ◌++◌, length, subst, sym, ap, ◌∙◌}
use Rattle.std.specs.Prelude.{◌↔◌}
use Rattle.transition_formula.specs.Transition.{IsTransition}
use Rattle.transition_formula.specs.Meaning.{Holds}
use Rattle.transition_formula.specs.Composition.{identity_of}
use Rattle.transition_formula.proofs.Fitting.{identity-fits}
use Rattle.transition_formula.proofs.Meanings.{identity-holds, identity-held}
use Rattle.transition_formula.proofs.compose.identity.Goals as goal

pub invariant_of-result : goal.invariant_of-result
invariant_of-result c =
    let made = c.in_ok-push.ensures.ok ∙ ap (λ l. l ++ record { aux = 0; rows = c.new.result; post = c.in_ok-post.post } ∷ []) c.new-cases.ensures ∙ (λ i. record { aux = 0; rows = c.new.ensures i; post = c.in_ok-post.ensures i } ∷ []) in
    subst (IsTransition c.args.columns c.args.columns) (sym made) (identity-fits c.args.columns)

pub returns-clause-holds : goal.returns-clause-holds
returns-clause-holds c before after =
    let n = c.args.columns in
    let made = c.in_ok-push.ensures.ok ∙ ap (λ l. l ++ record { aux = 0; rows = c.new.result; post = c.in_ok-post.post } ∷ []) c.new-cases.ensures ∙ (λ i. record { aux = 0; rows = c.new.ensures i; post = c.in_ok-post.ensures i } ∷ []) in
    let says : Holds (identity_of n) before after ↔ ((before ≡ after) × (length before ≡ n)) = (identity-held n before after, λ h. identity-holds n before after h.0 h.1) in
    subst (λ cases. Holds (record { from = n; to = n; cases = cases }) before after ↔ ((before ≡ after) × (length before ≡ n))) (sym made) says
