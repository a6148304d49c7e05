-- The search in calm bodies never leaves 128 bits.
use Rattle.std.proofs.Common.{◌≡◌, ℕ, suc, ◌+◌, ◌≤◌, Bool, true, false, refl, sym, subst, ◌∙◌, arith, List, [], ◌∷◌, map, length}
use Rattle.std.specs.Prelude.{◌||◌, IsOkAnd, Some, nat_lt, slice_get}
use Rattle.std.specs.List.{AllByRecursion, list_any}
use Rattle.std.proofs.lemmas.Bool.{false≢true, ltb-false}
use Rattle.items.proofs.Each.{each-more}
use Rattle.linear_terms.specs.declared.row.Case.{Case}
use Rattle.linear_terms.specs.Expressions.{or_zero}
use Rattle.farkas_check.specs.Calm.{IsCalmStratum, row_frame, spot_line}
use Rattle.farkas_check.specs.Frames.{IsCalmUpTo}
use Rattle.farkas_check.specs.Relations.{stratum_columns, term_count}
use Rattle.farkas_check.specs.Sizes.{HasNumbersUpTo, row_count}
use Rattle.farkas_check.specs.declared.stratum.Change.{Change}
use Rattle.farkas_check.proofs.Vanishing.{IsCaseAmong, cases_among}
use Rattle.cones.specs.InBits as steps
use Rattle.polyhedra.specs.Changes.{change, changes_in, modified_variables}
use Rattle.polyhedra.proofs.Lists.{none-passes}
use Rattle.facet_hull.specs.Facets.{hull_cases, is_beyond, is_case_beyond, most_hull_cases, most_hull_columns, most_hull_rows, most_modified}
use Rattle.facet_hull.specs.Images.{columns_of}
use Rattle.facet_hull.specs.InBits as in_bits
use Rattle.facet_hull.specs.Spots.{TwoSpotsAreATableau}
use Rattle.transition_formula.specs.Transition.{Transition}
use Rattle.hull_limits.specs.Laws.{CalmBodiesHaveNoLimit}
use Rattle.hull_limits.proofs.CalmCases.{AreCalmSpots, IsCalmCaseOf, IsSpotPoint, directions-calm, images-calm, most_calm}
use Rattle.hull_limits.proofs.ConeImages.{HasImages, images_of-make, normals-make}
use Rattle.hull_limits.proofs.FourColumns.{normals_at-fits}
use Rattle.hull_limits.proofs.MadeSteps.{IsMade}
use Rattle.hull_limits.proofs.Magnitudes.{AreWithin}
use Rattle.hull_limits.proofs.SmallBodies.{few-terms, map-count, outcome-no_limit}

-- ---- counts

neither : (a b : Bool) → (a || b) ≡ false → (a ≡ false) × (b ≡ false)
neither false b e = (refl, e)
neither true b e = absurd (false≢true (sym e))

few-columns : (cases : List Change) → list_any is_case_beyond cases ≡ false → AllByRecursion (λ (case : Change). length (columns_of case) ≤ 6) cases
few-columns cases e =
    each-more (λ (case : Change). is_case_beyond case ≡ false) (λ (case : Change). length (columns_of case) ≤ 6) (λ case k. ltb-false 6 (length (columns_of case)) (neither (nat_lt most_hull_rows (row_count case.rows)) (nat_lt most_hull_columns (length (columns_of case))) k).1) cases (none-passes is_case_beyond cases e)

-- ---- places of cases

-- the case is one of the listed ones
record HasPlace (cases : List Change) (case : Change) : Type 0 where
  place : ℕ
  there : slice_get cases place ≡ Some case

places-of : (cases : List Change) → AllByRecursion (HasPlace cases) cases
places-of [] = tt
places-of (c ∷ cases) = (record { place = 0; there = refl }, each-more (HasPlace cases) (HasPlace (c ∷ cases)) (λ case h. record { place = suc h.place; there = h.there }) cases (places-of cases))

-- each case has as many terms as the first
equally-many : (variables : List ℕ) (cases : List Case) → AllByRecursion (λ (case : Change). length case.terms ≡ term_count (map (changes_in true variables) cases)) (map (changes_in true variables) cases)
equally-many variables [] = tt
equally-many variables (first ∷ cases) = (refl, from cases)
  where
    from : (cases : List Case) → AllByRecursion (λ (case : Change). length case.terms ≡ length (map (λ v. or_zero (change true first v)) variables)) (map (changes_in true variables) cases)
    from [] = tt
    from (case ∷ cases) = (map-count (λ v. or_zero (change true case v)) variables ∙ sym (map-count (λ v. or_zero (change true first v)) variables), from cases)

-- ---- cases of a calm question

calm-cases : (all cases : List Change) → AllByRecursion (HasPlace all) cases → AllByRecursion (λ (case : Change). IsCalmUpTo 1048576 (row_frame (stratum_columns all []) case.rows)) cases → AllByRecursion (λ (case : Change). AllByRecursion (HasNumbersUpTo 1048576) case.terms) cases
    → AllByRecursion (λ (case : Change). length (columns_of case) ≤ 6) cases → AllByRecursion (IsCaseAmong (stratum_columns all [])) cases → AllByRecursion (λ (case : Change). length case.terms ≡ term_count all) cases → AllByRecursion (IsCalmCaseOf all) cases
calm-cases all [] p c t f a m = tt
calm-cases all (case ∷ cases) p c t f a m = (record { place = p.0.place; there = p.0.there; calm = c.0; terms = t.0; few = f.0; among = a.0; many = m.0 }, calm-cases all cases p.1 c.1 t.1 f.1 a.1 m.1)

spots-calm : (cases : List Change) → IsCalmStratum (stratum_columns cases []) cases [] → AreCalmSpots cases
spots-calm cases calm spots few are = subst (λ n. IsCalmUpTo 1048576 (record { lines = map (spot_line (stratum_columns cases []) cases []) spots; units = n })) same (calm.spots spots (omega (arith, few)) are)
  where
    same : term_count cases + 0 + 1 ≡ term_count cases + 1
    same = omega arith

normals-calm : TwoSpotsAreATableau → (body : Transition) → IsCalmStratum (stratum_columns (hull_cases body) []) (hull_cases body) [] → is_beyond (modified_variables true body) (hull_cases body) ≡ false → IsMade (in_bits.normals (hull_cases body))
normals-calm law body calm within =
    normals-make (IsSpotPoint (hull_cases body)) (AreWithin most_calm) (hull_cases body)
    (images_of-make (IsSpotPoint (hull_cases body)) (AreWithin most_calm) (hull_cases body)
    (each-more (IsCalmCaseOf (hull_cases body)) (HasImages (IsSpotPoint (hull_cases body)) (AreWithin most_calm)) (λ case h. images-calm (hull_cases body) case h law spots) (hull_cases body)
    (calm-cases (hull_cases body) (hull_cases body) (places-of (hull_cases body)) calm.rows calm.terms (few-columns (hull_cases body) counts.1) (cases_among (hull_cases body) []) (equally-many (modified_variables true body) body.cases))))
    (λ images h. normals_at-fits (term_count (hull_cases body)) images.points images.rays (few-terms 4 (modified_variables true body) body.cases (ltb-false 4 (length (modified_variables true body)) (neither (nat_lt most_modified (length (modified_variables true body))) (nat_lt most_hull_cases (length (hull_cases body))) counts.0).0))
    (each-more (IsSpotPoint (hull_cases body)) (λ p. IsOkAnd (steps.directions images.points images.rays p) (AllByRecursion (AreWithin most_calm))) (λ p k. directions-calm (hull_cases body) law spots images.points images.rays p h.points h.rays k) images.points h.points))
  where
    spots : AreCalmSpots (hull_cases body)
    spots = spots-calm (hull_cases body) calm

    counts : ((nat_lt most_modified (length (modified_variables true body)) || nat_lt most_hull_cases (length (hull_cases body))) ≡ false) × (list_any is_case_beyond (hull_cases body) ≡ false)
    counts = neither (nat_lt most_modified (length (modified_variables true body)) || nat_lt most_hull_cases (length (hull_cases body))) (list_any is_case_beyond (hull_cases body)) within

pub calm_bodies : TwoSpotsAreATableau → CalmBodiesHaveNoLimit
calm_bodies law body limit calm none e = outcome-no_limit body limit none (normals-calm law body calm.cases) e
