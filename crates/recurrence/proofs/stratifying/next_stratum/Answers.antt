use Rattle.std.proofs.Common.{◌≡◌, List, None, Bool, true, false, refl, ap, ◌∙◌}
use Rattle.transition_formula.specs.Transition.{Transition}
use Rattle.posing.specs.Posing.{Done}
use Rattle.posing.proofs.Following.{stops}
use Rattle.posing.proofs.Steps.{at_end, in_other_words}
use Rattle.recurrence.specs.declared.terms.Recurrence.{Recurrence}
use Rattle.recurrence.specs.Strata.{stratum, stratum_if}
use Rattle.recurrence.proofs.stratifying.next_stratum.Goals as goal

none_asked : (b : Bool) (body : Transition) (lower : List Recurrence) → b ≡ false → Done None ≡ stratum_if b body lower
none_asked true body lower e = cc
none_asked false body lower e = refl

is_asked : (b : Bool) (body : Transition) (lower : List Recurrence) → b ≡ true → stratum body lower ≡ stratum_if b body lower
is_asked true body lower e = refl
is_asked false body lower e = cc

pub returns-then-not-asked : goal.returns-then-not-asked
returns-then-not-asked g c = in_other_words (none_asked c.args.asked c.args.body.formula.now _ c.if-not-asked.true) (at_end refl)

pub returns-in_err-lower : goal.returns-in_err-lower
returns-in_err-lower g c = stops _ _ _ _ _ _ refl c.from_residual.ensures.1

pub returns : goal.returns
returns g c = in_other_words (ap (stratum c.args.body.formula.now) (c.as_slice.ensures ∙ c.in_ok-lower.ensures) ∙ is_asked c.args.asked c.args.body.formula.now _ c.if-not-asked.false) c.one_stratum.ensures
