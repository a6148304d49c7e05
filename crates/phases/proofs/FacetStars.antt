-- Star along the facets of a hull: what holds of star holds of it, by any vocabulary with further
-- directions.
use Rattle.std.proofs.Common.{◌≡◌, List, refl, sym, ap, subst}
use Rattle.std.specs.List.{AllByRecursion}
use Rattle.items.proofs.Each.{each-append}
use Rattle.linear_terms.specs.Polynomial.{Polynomial}
use Rattle.transition_formula.specs.Transition.{Transition}
use Rattle.posing.specs.Posing.{Always}
use Rattle.polyhedra.specs.Vocabulary.{Vocabulary, IsDirectionOver, IsVocabulary}
use Rattle.recurrence.specs.Law.{IsStarred}
use Rattle.recurrence.specs.Star.{star_of}
use Rattle.facet_hull.specs.Facets.{facets_of}
use Rattle.facet_hull.specs.declared.outcome.Facets.{Facets}
use Rattle.facet_hull.specs.declared.outcome.Facets.TheVariants.{Normals, Beyond, Limit}
use Rattle.facet_hull.proofs.NormalDirections.{normals-directions}
use Rattle.phases.specs.FacetStar.{along, facet_star, star_by_outcome}

-- ---- vocabularies with further directions

pub along-vocabulary : (voc : Vocabulary) (ds : List Polynomial) → IsVocabulary voc → AllByRecursion (IsDirectionOver voc.columns) ds → IsVocabulary (along ds voc)
along-vocabulary voc ds is over =
    record {
      ascending = is.ascending;
      named = is.named;
      few = is.few;
      harvested = is.harvested;
      extra = each-append (IsDirectionOver voc.columns) voc.extra ds is.extra over;
    }

-- the normals of a body are directions over the columns of its vocabulary
pub normals-over : (body : Transition) (voc : Vocabulary) (normals : List Polynomial) → IsStarred body voc → facets_of body ≡ Normals normals → AllByRecursion (IsDirectionOver voc.columns) normals
normals-over body voc normals is e = subst (λ n. AllByRecursion (IsDirectionOver n) normals) (sym is.same_columns) (normals-directions body normals e)

pub along-starred : (body : Transition) (voc : Vocabulary) (ds : List Polynomial) → IsStarred body voc → AllByRecursion (IsDirectionOver voc.columns) ds → IsStarred body (along ds voc)
along-starred body voc ds is over =
    record {
      body_fits = is.body_fits;
      same_ends = is.same_ends;
      vocabulary = along-vocabulary voc ds is.vocabulary over;
      same_columns = is.same_columns;
      few = is.few;
    }

-- ---- by the outcome

pub facet_star-by : (body : Transition) (voc : Vocabulary) (outcome : Facets) → facets_of body ≡ outcome → facet_star body voc ≡ star_by_outcome outcome body voc
unfolding facet_star
facet_star-by body voc outcome e = ap (λ o. star_by_outcome o body voc) e

-- ---- what holds of star by any vocabulary

module _ (P : Transition → Type 0) (body : Transition) (voc : Vocabulary) (is : IsStarred body voc)
    (star : (other : Vocabulary) → IsStarred body other → Always P (star_of body other)) where
  pub facet_star-has : Always P (facet_star body voc)
  unfolding facet_star
  facet_star-has = go (facets_of body) refl
    where
      go : (outcome : Facets) → facets_of body ≡ outcome → Always P (star_by_outcome outcome body voc)
      go (Normals normals) e = star (along normals voc) (along-starred body voc normals is (normals-over body voc normals is e))
      go Beyond e = star voc is
      go (Limit limit) e = star voc is
