-- What any number of turns of a body do, by the rule of the program.
use Rattle.std.specs.Prelude.{if◌then◌else◌}
use Rattle.transition_formula.specs.Transition.{Transition}
use Rattle.posing.specs.Posing.{Posing}
use Rattle.polyhedra.specs.Vocabulary.{Vocabulary}
use Rattle.recurrence.specs.Star.{star_of}
use Rattle.phases.specs.FacetStar.{facet_star}
use Rattle.phases.specs.Phases.{phases_of}
use Rattle.phases.specs.Rules.{has_facets, has_phases}

-- phases where the rule has them; star along facets where it has these; else star
unfoldable pub repetition : Transition → Vocabulary → Posing Transition
repetition body voc = if has_phases voc.rule then phases_of body voc
    else (if has_facets voc.rule then facet_star body voc else star_of body voc)
