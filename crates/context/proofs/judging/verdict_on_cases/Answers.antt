use Rattle.std.proofs.Common.{refl, sym, ap, subst, ◌∙◌}
use Rattle.posing.specs.Posing.{Done, Noted}
use Rattle.posing.proofs.Steps.{at_end, notes_first, value_first}
use Rattle.context.specs.Judging.{IsVerdictOnAll}
use Rattle.context.specs.Verdicts.{verdict_on_cases_from, limits_of, verdict_from}
use Rattle.context.proofs.CaseVerdicts.{all-known}
use Rattle.context.proofs.judging.verdict_on_cases.Goals as goal

pub returns-clause-follows : goal.returns-clause-follows
unfolding verdict_on_cases_from
returns-clause-follows g c =
    value_first (λ verdicts. Noted (limits_of verdicts) (Done (verdict_from verdicts))) c.in_ok-verdicts.ensures.follows refl
    (notes_first c.in_ok-add_notes.ensures (c.in_ok-limits_of.ensures ∙ ap limits_of c.as_slice.ensures) (at_end c.verdict_from.ensures))

pub returns-clause-known : goal.returns-clause-known
returns-clause-known g c =
    subst (IsVerdictOnAll c.args.cases.now) (sym c.verdict_from.ensures) (all-known c.args.cases.now c.in_ok-verdicts.verdicts c.in_ok-verdicts.ensures.known)
