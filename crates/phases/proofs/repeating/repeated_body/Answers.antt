use Rattle.std.proofs.Common.{ap, sym, ◌∙◌}
use Rattle.posing.proofs.Steps.{in_other_words}
use Rattle.phases.specs.Rules.{has_facets, has_phases}
use Rattle.phases.proofs.Repetitions.{repetition-faceted, repetition-phased, repetition-plain}
use Rattle.phases.proofs.repeating.repeated_body.Goals as goal

pub returns-then-has_phases : goal.returns-then-has_phases
returns-then-has_phases g c =
    in_other_words (sym (repetition-phased c.args.body.now c.args.voc.now (ap has_phases (sym c.rule.ensures) ∙ sym c.has_phases.ensures ∙ c.if-has_phases.true))) c.star.ensures.follows

pub returns-then-has_facets : goal.returns-then-has_facets
returns-then-has_facets g c =
    in_other_words (sym (repetition-faceted c.args.body.now c.args.voc.now (ap has_phases (sym c.rule.ensures) ∙ sym c.has_phases.ensures ∙ c.if-has_phases.false) (ap has_facets (sym c.rule-2.ensures) ∙ sym c.has_facets.ensures ∙ c.if-has_facets.true))) c.facet_star.ensures

pub returns : goal.returns
returns g c =
    in_other_words (sym (repetition-plain c.args.body.now c.args.voc.now record {
      no_phases = ap has_phases (sym c.rule.ensures) ∙ sym c.has_phases.ensures ∙ c.if-has_phases.false;
      no_facets = ap has_facets (sym c.rule-2.ensures) ∙ sym c.has_facets.ensures ∙ c.if-has_facets.false;
    })) c.star-2.ensures.follows
