-- Repetitions by any rule: the laws of phases, of star along facets and of star, side by side.
use Rattle.std.proofs.Common.{◌≡◌, ℕ, zero, suc, true, false, subst, ap, ◌∙◌}
use Rattle.std.specs.Prelude.{Bool, Option, None, Some, if◌then◌else◌}
use Rattle.transition_formula.specs.Composition.{sequence_of}
use Rattle.transition_formula.specs.Meaning.{HoldsOfChains}
use Rattle.transition_formula.specs.Transition.{Transition}
use Rattle.posing.specs.Posing.{◌>>=◌, Always}
use Rattle.posing.proofs.Paths.{always_any, always_bind}
use Rattle.polyhedra.specs.Directions.{directions}
use Rattle.polyhedra.specs.Settle.{settled_formula}
use Rattle.polyhedra.specs.Squash.{fitted_formula}
use Rattle.polyhedra.specs.Vocabulary.{Vocabulary, IsVocabulary}
use Rattle.recurrence.specs.Law.{IsStarred}
use Rattle.recurrence.specs.Star.{star_of}
use Rattle.recurrence.proofs.CanonicalOrder.{IsCanonicalFormula, settled-canonical}
use Rattle.recurrence.proofs.CanonicalStars.{directions-canonical, fitted-canonical, star-canonical}
use Rattle.recurrence.proofs.Whole.{star-holds-of-chains}
use Rattle.facet_hull.specs.Facets.{facets_of}
use Rattle.facet_hull.specs.declared.outcome.Facets.{Facets}
use Rattle.facet_hull.specs.declared.outcome.Facets.TheVariants.{Normals, Beyond, Limit}
use Rattle.phases.specs.declared.halving.Halves.{Halves}
use Rattle.phases.specs.Law.{IsPhased, RepetitionsFit, RepetitionsHold}
use Rattle.phases.specs.Limits.{most_depth}
use Rattle.phases.specs.Phases.{in_turn, phased_star, phases_of, split, star_by_halves}
use Rattle.phases.specs.FacetStar.{along, facet_star, star_by_outcome}
use Rattle.phases.specs.Repetition.{repetition}
use Rattle.phases.specs.Rules.{IsPlainRule, has_facets, has_phases}
use Rattle.phases.proofs.CanonicalForms.{sequence-canonical}
use Rattle.phases.proofs.FacetStars.{facet_star-has}
use Rattle.phases.proofs.Whole.{phasable-roomy, phases-fit, phases-hold, star-phased}

-- ---- by the rules

pub repetition-plain : (body : Transition) (voc : Vocabulary) → IsPlainRule voc.rule → repetition body voc ≡ star_of body voc
unfolding repetition
repetition-plain body voc is =
    ap (λ b. if b then phases_of body voc else (if has_facets voc.rule then facet_star body voc else star_of body voc)) is.no_phases
    ∙ ap (λ b. if b then facet_star body voc else star_of body voc) is.no_facets

pub repetition-phased : (body : Transition) (voc : Vocabulary) → has_phases voc.rule ≡ true → repetition body voc ≡ phases_of body voc
unfolding repetition
repetition-phased body voc is = ap (λ b. if b then phases_of body voc else (if has_facets voc.rule then facet_star body voc else star_of body voc)) is

pub repetition-faceted : (body : Transition) (voc : Vocabulary) → has_phases voc.rule ≡ false → has_facets voc.rule ≡ true → repetition body voc ≡ facet_star body voc
unfolding repetition
repetition-faceted body voc no_phases is =
    ap (λ b. if b then phases_of body voc else (if has_facets voc.rule then facet_star body voc else star_of body voc)) no_phases
    ∙ ap (λ b. if b then facet_star body voc else star_of body voc) is

-- what phases have, and star by any vocabulary, a repetition has
module _ (P : Transition → Type 0) (body : Transition) (voc : Vocabulary) (phased : Always P (phases_of body voc)) (faceted : Always P (facet_star body voc)) (plain : Always P (star_of body voc)) where
  repetition-has : Always P (repetition body voc)
  unfolding repetition
  repetition-has = go (has_phases voc.rule) (has_facets voc.rule)
    where
      go : (b c : Bool) → Always P (if b then phases_of body voc else (if c then facet_star body voc else star_of body voc))
      go true c = phased
      go false true = faceted
      go false false = plain

-- ---- they hold, and fit

pub repetitions-hold : RepetitionsHold
repetitions-hold body voc is canonical =
    repetition-has (HoldsOfChains body) body voc (phases-hold body voc is canonical)
    (facet_star-has (HoldsOfChains body) body voc is.starred (star-holds-of-chains body))
    (star-holds-of-chains body voc is.starred)

pub repetitions-fit : RepetitionsFit
repetitions-fit body voc is = repetition-has (IsPhased body.to) body voc (phases-fit body voc is) (facet_star-has (IsPhased body.to) body voc is.starred star-small) (star-small voc is.starred)
  where
    star-small : (other : Vocabulary) → IsStarred body other → Always (IsPhased body.to) (star_of body other)
    star-small other starred =
        subst (λ n. Always (IsPhased n) (star_of body other)) starred.same_columns
        (star-phased most_depth body other (phasable-roomy body other record { starred = starred; few_columns = is.few_columns; few_auxiliaries = is.few_auxiliaries }))

-- ---- rows in canonical form

in_turn-canonical : (voc : Vocabulary) → IsVocabulary voc → (a b : Transition) → IsCanonicalFormula a → Always IsCanonicalFormula (in_turn voc a b)
unfolding in_turn ◌>>=◌
in_turn-canonical voc is a b h =
    always_bind IsCanonicalFormula IsCanonicalFormula (settled_formula (sequence_of a b)) (λ g. fitted_formula g voc voc)
    (settled-canonical (sequence_of a b) (sequence-canonical a b h)) (λ g k. fitted-canonical g voc voc (directions-canonical voc is) k)

phased-canonical : (depth : ℕ) (voc : Vocabulary) → IsVocabulary voc → (body : Transition) → Always IsCanonicalFormula (phased_star depth voc body)
phased-canonical zero voc is body = star-canonical body voc (directions-canonical voc is)
phased-canonical (suc depth) voc is body =
    always_bind (λ (found : Option Halves). Unit {0}) IsCanonicalFormula (split body) (star_by_halves (phased_star depth voc) voc body) (always_any (λ found. Unit {0}) (split body) (λ found. tt))
    (λ found any. go found (phased-canonical depth voc is))
  where
    go : (found : Option Halves) → ((g : Transition) → Always IsCanonicalFormula (phased_star depth voc g)) → Always IsCanonicalFormula (star_by_halves (phased_star depth voc) voc body found)
    go None ih = star-canonical body voc (directions-canonical voc is)
    go (Some found) ih =
        always_bind IsCanonicalFormula IsCanonicalFormula (phased_star depth voc found.first) (λ a. phased_star depth voc found.second >>= λ b. in_turn voc a b) (ih found.first) (λ a h.
        always_bind IsCanonicalFormula IsCanonicalFormula (phased_star depth voc found.second) (λ b. in_turn voc a b) (ih found.second) (λ b k. in_turn-canonical voc is a b h))

facet_star-canonical : (body : Transition) (voc : Vocabulary) → IsVocabulary voc → Always IsCanonicalFormula (facet_star body voc)
unfolding facet_star directions
facet_star-canonical body voc is = go (facets_of body)
  where
    go : (outcome : Facets) → Always IsCanonicalFormula (star_by_outcome outcome body voc)
    go (Normals normals) = star-canonical body (along normals voc) (directions-canonical voc is)
    go Beyond = star-canonical body voc (directions-canonical voc is)
    go (Limit limit) = star-canonical body voc (directions-canonical voc is)

pub repetition-canonical : (body : Transition) (voc : Vocabulary) → IsVocabulary voc → Always IsCanonicalFormula (repetition body voc)
unfolding phases_of
repetition-canonical body voc is =
    repetition-has IsCanonicalFormula body voc (phased-canonical most_depth voc is body) (facet_star-canonical body voc is) (star-canonical body voc (directions-canonical voc is))
