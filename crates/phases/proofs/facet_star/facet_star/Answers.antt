use Rattle.std.proofs.Common.{◌∙◌, sym, ap, subst}
use Rattle.posing.proofs.Steps.{in_other_words}
use Rattle.polyhedra.specs.Vocabulary.{Vocabulary}
use Rattle.recurrence.specs.Law.{IsStarred}
use Rattle.recurrence.specs.Star.{star_of}
use Rattle.facet_hull.specs.declared.outcome.Facets.TheVariants.{Normals, Beyond, Limit}
use Rattle.phases.proofs.FacetStars.{along-starred, facet_star-by, normals-over}
use Rattle.phases.proofs.facet_star.facet_star.Goals as goal

pub along-requires : goal.along-requires
along-requires g c = normals-over c.args.body.now c.args.voc.now c.in-Normals.normals c.requires (sym c.in_ok-normals.ensures.value ∙ c.in-Normals.is)

pub star-requires : goal.star-requires
star-requires g c =
    let over = normals-over c.args.body.now c.args.voc.now c.in-Normals.normals c.requires (sym c.in_ok-normals.ensures.value ∙ c.in-Normals.is) in
    subst (λ (voc : Vocabulary). IsStarred c.args.body.now voc) (sym c.in_ok-directed-in-Normals.ensures) (along-starred c.args.body.now c.args.voc.now c.in-Normals.normals c.requires over)

pub returns-in_ok-directed-in-Normals : goal.returns-in_ok-directed-in-Normals
returns-in_ok-directed-in-Normals g c =
    in_other_words
    (ap (star_of c.args.body.now) c.in_ok-directed-in-Normals.ensures ∙ sym (facet_star-by c.args.body.now c.args.voc.now (Normals c.in-Normals.normals) (sym c.in_ok-normals.ensures.value ∙ c.in-Normals.is)))
    c.star.ensures.follows

pub returns-in-Beyond : goal.returns-in-Beyond
returns-in-Beyond g c = in_other_words (sym (facet_star-by c.args.body.now c.args.voc.now Beyond (sym c.in_ok-normals.ensures.value ∙ c.in-Beyond.is))) c.noted_star.ensures

pub returns-in-Limit : goal.returns-in-Limit
returns-in-Limit g c = in_other_words (sym (facet_star-by c.args.body.now c.args.voc.now (Limit c.in-Limit.limit) (sym c.in_ok-normals.ensures.value ∙ c.in-Limit.is))) c.noted_star-in-Limit.ensures
