use Rattle.std.proofs.Common.{◌≡◌, ◌∙◌, true, None, sym, ap}
use Rattle.std.specs.Prelude.{if◌then◌else◌}
use Rattle.linear_terms.specs.Polynomial.{Polynomial}
use Rattle.transition_formula.specs.Transition.{Transition}
use Rattle.posing.specs.Posing.{Done, ◌>>=◌}
use Rattle.posing.proofs.Steps.{at_end, in_other_words, value_first}
use Rattle.phases.specs.Phases.{cases_exclude, halves_if, halves_of, is_apart}
use Rattle.phases.proofs.halving.halves_of.Goals as goal

halves-apart : (body first second : Transition) (q : Polynomial) → is_apart body first second ≡ true → (cases_exclude q second.cases >>= λ excluded. Done (halves_if first second excluded)) ≡ halves_of body q first second
unfolding halves_of
halves-apart body first second q e = ap (λ b. if b then (cases_exclude q second.cases >>= λ excluded. Done (halves_if first second excluded)) else Done None) (sym e)

pub returns : goal.returns
returns g c =
    in_other_words (halves-apart c.args.body.now c.args.first c.args.second c.args.opposite.now (sym c.is_apart.ensures ∙ c.if-not-is_apart.false))
    (value_first (λ excluded. Done (halves_if c.args.first c.args.second excluded)) c.in_ok-excluded.ensures (ap (cases_exclude c.args.opposite.now) c.cases.ensures.cases) (at_end c.halves_if.ensures))
