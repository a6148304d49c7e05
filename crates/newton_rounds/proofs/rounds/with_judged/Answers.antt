use Rattle.std.proofs.Common.{◌∷◌, [], ◌++◌, ◌∙◌, refl}
use Rattle.posing.specs.Posing.{Done}
use Rattle.posing.proofs.Steps.{at_end, value_first}
use Rattle.newton_rounds.specs.Candidates.{with_judged}
use Rattle.newton_rounds.proofs.rounds.with_judged.Goals as goal

pub returns : goal.returns
unfolding with_judged
returns g c =
    value_first (λ by. Done (c.args.made ++ record { row = c.args.row.now; by = by } ∷ [])) c.in_ok-by.ensures refl
    (at_end (c.in_ok-push.ensures.ok ∙ (λ i. c.args.made ++ record { row = c.in_ok-copy.ensures.cases i; by = c.in_ok-by.by } ∷ [])))
