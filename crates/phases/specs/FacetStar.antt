-- Star along the facets of the exact hull of the body's changes.
--
-- Source: Farzan and Kincaid, Compositional Recurrence Analysis, FMCAD 2015, for the hull of changes.
use Rattle.std.specs.Prelude.{List, [], ◌∷◌, ◌++◌}
use Rattle.linear_terms.specs.Polynomial.{Polynomial}
use Rattle.transition_formula.specs.Transition.{Transition}
use Rattle.posing.specs.Posing.{Posing, Noted}
use Rattle.posing.specs.declared.note.Note.TheVariants as note
use Rattle.polyhedra.specs.Vocabulary.{Vocabulary}
use Rattle.recurrence.specs.Star.{star_of}
use Rattle.facet_hull.specs.Facets.{facets_of}
use Rattle.facet_hull.specs.declared.outcome.Facets.{Facets}
use Rattle.facet_hull.specs.declared.outcome.Facets.TheVariants.{Normals, Beyond, Limit}

-- a vocabulary with further directions behind its own
abbrev pub along : List Polynomial → Vocabulary → Vocabulary
along directions voc =
    record {
      columns = voc.columns;
      named = voc.named;
      harvested = voc.harvested;
      rule = voc.rule;
      extra = voc.extra ++ directions;
    }

-- star along the normals; where there are none, star, and before all else a note that says why
abbrev pub star_by_outcome : Facets → Transition → Vocabulary → Posing Transition
star_by_outcome (Normals normals) body voc = star_of body (along normals voc)
star_by_outcome Beyond body voc = Noted (note.Facets ∷ []) (star_of body voc)
star_by_outcome (Limit limit) body voc = Noted (note.Limit limit ∷ []) (star_of body voc)

-- by the outcome of the hull of the body's changes
unfoldable pub facet_star : Transition → Vocabulary → Posing Transition
facet_star body voc = star_by_outcome (facets_of body) body voc
