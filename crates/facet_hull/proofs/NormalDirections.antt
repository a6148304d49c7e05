-- Normals as polynomials are directions over the body's columns.
use Rattle.std.proofs.Common.{◌≡◌, ℕ, ◌<◌, Bool, true, false, List, [], ◌∷◌, map, ℤ, pos, refl, subst}
use Rattle.std.specs.Prelude.{All, IsTrue, Option, None, Some, Ok, Err, if◌then◌else◌}
use Rattle.std.specs.List.{AllByRecursion}
use Rattle.std.specs.Ordering.{int_eq}
use Rattle.std.proofs.lemmas.Bool.Decides.{Decides-int_eq, not_from_Decides}
use Rattle.std.proofs.lemmas.List.Elements.{recursion_from_All}
use Rattle.items.proofs.Each.{each-any, each-map, each-more}
use Rattle.linear_terms.specs.declared.col.Col.{Col}
use Rattle.linear_terms.specs.declared.col.Col.TheVariants.{At}
use Rattle.linear_terms.specs.Expressions.{coefficients, linear}
use Rattle.linear_terms.specs.Polynomial.{Terms, IsCanonical}
use Rattle.linear_terms.proofs.Canonical.{Before, IsCanonical-cons, IsCanonical-nil}
use Rattle.farkas_check.specs.declared.answer.Limit.{Limit as AnswerLimit}
use Rattle.transition_formula.specs.Transition.{Transition, is_below}
use Rattle.transition_formula.proofs.Fitting.{below-true}
use Rattle.polyhedra.specs.Changes.{lost_changes, modified_variables}
use Rattle.polyhedra.specs.Vocabulary.{IsDirectionOver}
use Rattle.cones.specs.InBits.{Made}
use Rattle.facet_hull.specs.Facets.{Rise, facets_by, facets_of, first_limit, hull_cases, is_beyond, limit_or, polynomials}
use Rattle.facet_hull.specs.InBits as in_bits
use Rattle.facet_hull.specs.Laws.{NormalsAreDirections}
use Rattle.facet_hull.specs.declared.outcome.Facets.{Facets}
use Rattle.facet_hull.specs.declared.outcome.Facets.TheVariants.{Normals, Beyond, Limit}
use Rattle.facet_hull.proofs.Linear.{coefficients-behind, variables-behind}
use Rattle.facet_hull.proofs.Outcomes.{modified-below, modified-rises}

-- ---- the terms of a form at rising variables

abbrev columns_at : List ℕ → List Col
columns_at vs = map (λ v. At v) vs

coefficients-canonical : (ns : List ℤ) (vs : List ℕ) → Rise vs → IsCanonical (coefficients ns (columns_at vs))
coefficients-canonical [] vs rise = IsCanonical-nil
coefficients-canonical (n ∷ ns) [] rise = IsCanonical-nil
coefficients-canonical (n ∷ ns) (v ∷ vs) rise = go (int_eq n (pos 0)) refl (coefficients-canonical ns vs rise.1)
  where
    rest : Terms
    rest = coefficients ns (columns_at vs)

    before : Before (At v ∷ []) rest
    before = each-map _ _ (λ t. t.0) (λ t k. k) rest (coefficients-behind (At v) ns (columns_at vs) (variables-behind v vs rise.0))

    go : (b : Bool) → int_eq n (pos 0) ≡ b → IsCanonical rest → IsCanonical (if b then rest else (At v ∷ [], n) ∷ rest)
    go true e h = h
    go false e h = IsCanonical-cons (At v ∷ [], n) rest before (not_from_Decides (int_eq n (pos 0)) (Decides-int_eq n (pos 0)) e) h

-- what holds of the monomial of each of the variables holds of the monomial of each term
coefficients-have : (P : List Col → Type 0) (ns : List ℤ) (vs : List ℕ) → AllByRecursion (λ v. P (At v ∷ [])) vs → AllByRecursion (λ t. P t.0) (coefficients ns (columns_at vs))
coefficients-have P [] vs h = tt
coefficients-have P (n ∷ ns) [] h = tt
coefficients-have P (n ∷ ns) (v ∷ vs) h = go (int_eq n (pos 0)) (coefficients-have P ns vs h.1)
  where
    rest : Terms
    rest = coefficients ns (columns_at vs)

    go : (b : Bool) → AllByRecursion (λ t. P t.0) rest → AllByRecursion (λ t. P t.0) (if b then rest else (At v ∷ [], n) ∷ rest)
    go true k = k
    go false k = (h.0, k)

linear-over : (columns : ℕ) (vs : List ℕ) → Rise vs → All (λ v. v < columns) vs → (ns : List ℤ) → IsDirectionOver columns (linear ns (columns_at vs))
linear-over columns vs rise below ns =
    record {
      straight = record {
        single = coefficients-have (λ m. (v : ℕ) × (m ≡ At v ∷ [])) ns vs (each-any (λ v. (w : ℕ) × (At v ∷ [] ≡ At w ∷ [])) (λ v. (v, refl)) vs);
        plain = refl;
      };
      canonical = coefficients-canonical ns vs rise;
      within = coefficients-have (λ m. AllByRecursion (λ c. IsTrue (is_below columns 0 c)) m) ns vs
          (each-more (λ v. v < columns) (λ v. AllByRecursion (λ c. IsTrue (is_below columns 0 c)) (At v ∷ [])) (λ v lt. (below-true v columns lt, tt)) vs (recursion_from_All (λ v. v < columns) vs below));
    }

polynomials-over : (columns : ℕ) (vs : List ℕ) → Rise vs → All (λ v. v < columns) vs → (forms : List (List ℤ)) → AllByRecursion (IsDirectionOver columns) (polynomials vs forms)
polynomials-over columns vs rise below [] = tt
polynomials-over columns vs rise below (form ∷ forms) = (linear-over columns vs rise below form, polynomials-over columns vs rise below forms)

-- ---- of an outcome

-- normals are directions, and of another outcome nothing is said
abbrev AreDirections : ℕ → Facets → Type 0
AreDirections columns (Normals polys) = AllByRecursion (IsDirectionOver columns) polys
AreDirections columns Beyond = Unit {0}
AreDirections columns (Limit limit) = Unit {0}

facets-directions : (body : Transition) → AreDirections body.to (facets_of body)
facets-directions body = go (is_beyond vs (hull_cases body)) (first_limit (lost_changes true body)) (in_bits.normals (hull_cases body))
  where
    vs : List ℕ
    vs = modified_variables true body

    go : (b : Bool) (found : Option AnswerLimit) (made : Made (List (List ℤ))) → AreDirections body.to (if b then Beyond else limit_or found (facets_by vs made))
    go true found made = tt
    go false (Some limit) made = tt
    go false None (Ok forms) = polynomials-over body.to vs (modified-rises body) (modified-below body) forms
    go false None (Err step) = tt

pub normals-directions : NormalsAreDirections
normals-directions body polys e = subst (AreDirections body.to) e (facets-directions body)
