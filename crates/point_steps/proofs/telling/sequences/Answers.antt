use Rattle.std.proofs.Common.{[], ◌∷◌, ◌++◌, ap, ◌∙◌}
use Rattle.point_steps.proofs.Making.{one-case, one-few, one-meets, through-is, through-noted}
use Rattle.point_steps.proofs.telling.sequences.Goals as goal

pub from_cases-one-requires : goal.from_cases-one-requires
from_cases-one-requires c = one-case c.args.first c.args.second.now c.from.result c.push.new.self c.new-cases.result c.new-cases.ensures c.in_ok-push.ensures.ok c.from.ensures c.requires.fits

pub seq-requires-clause-between : goal.seq-requires-clause-between
seq-requires-clause-between c =
    one-meets c.args.first c.args.second.now c.from_cases-one.result
    (c.from_cases-one.ensures ∙ (λ i. record { from = 0; to = c.from.ensures i; cases = (c.in_ok-push.ensures.ok ∙ ap (λ l. l ++ c.args.first ∷ []) c.new-cases.ensures) i }))

pub seq-requires-clause-few : goal.seq-requires-clause-few
seq-requires-clause-few c =
    one-few c.args.first c.args.second.now c.from_cases-one.result
    (c.from_cases-one.ensures ∙ (λ i. record { from = 0; to = c.from.ensures i; cases = (c.in_ok-push.ensures.ok ∙ ap (λ l. l ++ c.args.first ∷ []) c.new-cases.ensures) i })) c.requires.few

pub returns-clause-exact : goal.returns-clause-exact
returns-clause-exact c =
    through-is c.args.first c.args.second.now c.from_cases-one.result
    (c.from_cases-one.ensures ∙ (λ i. record { from = 0; to = c.from.ensures i; cases = (c.in_ok-push.ensures.ok ∙ ap (λ l. l ++ c.args.first ∷ []) c.new-cases.ensures) i })) c.in_ok-made.made c.in_ok-made.ensures.exact

pub returns-clause-noted : goal.returns-clause-noted
returns-clause-noted c =
    through-noted c.args.first c.args.second.now c.from_cases-one.result
    (c.from_cases-one.ensures ∙ (λ i. record { from = 0; to = c.from.ensures i; cases = (c.in_ok-push.ensures.ok ∙ ap (λ l. l ++ c.args.first ∷ []) c.new-cases.ensures) i })) c.args.losses.now _ c.in_ok-made.ensures.noted
