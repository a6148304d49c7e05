-- Star is relatively complete: where answers pass and nothing is noted, two states that it links are
-- one, or lie within one and more turns of the body.
use Rattle.std.proofs.Common.{◌≡◌, inl, inr, ℕ, zero, suc, ◌+◌, ◌<◌, List, [], ◌∷◌, ◌++◌, map, length, Bool, true, false, refl, sym, ap, subst, ◌∙◌, arith, ℤ, pos, ◌-ℤ◌, ◌≤ℤ◌, ◌<ℤ◌}
use Rattle.std.specs.Prelude.{◌⊎◌, All, Option, None, Some, Ok, Err, option_to_list, slice_get, if◌then◌else◌}
use Rattle.std.specs.List.{AllByRecursion, Contains, range_with_len}
use Rattle.std.proofs.lemmas.Int.{ints}
use Rattle.std.proofs.lemmas.List.{length-map}
use Rattle.std.proofs.lemmas.List.FromFn.{fill_by_all}
use Rattle.std.proofs.lemmas.List.Elements.{All-contains_itself, All-from_recursion, Contains-append_right, recursion_from_All}
use Rattle.std.proofs.lemmas.Option.{unwrap_or-slice_get}
use Rattle.items.proofs.Each.{each-any, each-map, each-more}
use Rattle.linear_terms.specs.declared.col.Col.TheVariants.{At}
use Rattle.linear_terms.specs.declared.row.Row.{Row}
use Rattle.linear_terms.specs.declared.row.Case.{Case}
use Rattle.linear_terms.specs.Expressions.{Made, or_zero}
use Rattle.linear_terms.specs.Polynomial.{Polynomial, IsCanonical, column_of}
use Rattle.linear_terms.specs.Value.{value_of}
use Rattle.linear_terms.proofs.Canonical.{IsCanonical-nil, IsCanonical-difference_of_polys}
use Rattle.linear_terms.proofs.Worth.{column_of-value}
use Rattle.farkas_check.specs.Kept.{IsCanonicalChange}
use Rattle.farkas_check.specs.Relations.{term_count}
use Rattle.farkas_check.specs.declared.answer.Limit.{Limit as AnswerLimit}
use Rattle.farkas_check.specs.declared.stratum.Change.{Change}
use Rattle.cones.specs.InBits as cone_bits
use Rattle.transition_formula.specs.Composition.{identity_of, union_of}
use Rattle.transition_formula.specs.Meaning.{numbers, Holds, HoldsCase, HoldsLeft, HoldsSome}
use Rattle.transition_formula.specs.Transition.{Transition}
use Rattle.posing.specs.declared.note.Note.{Note}
use Rattle.posing.specs.declared.note.Note.TheVariants as note
use Rattle.posing.specs.Posing.{Done, ◌>>=◌}
use Rattle.polyhedra.specs.Changes.{poly_at, change, changes_in, is_modified, lost_changes, modified_variables}
use Rattle.polyhedra.specs.Directions.{directions}
use Rattle.polyhedra.specs.Finish.{finish_of_case}
use Rattle.polyhedra.specs.Vocabulary.{Vocabulary, IsDirectionOver}
use Rattle.polyhedra.proofs.DirectionShapes.{directions-over}
use Rattle.polyhedra.proofs.Lists.{each-unmap}
use Rattle.polyhedra.proofs.Places.{range-first}
use Rattle.facet_hull.specs.Facets.{hull_cases, is_beyond, first_limit, polynomials, facets_by, limit_or, facets_of}
use Rattle.facet_hull.specs.Hull.{AreExact}
use Rattle.facet_hull.specs.InBits as in_bits
use Rattle.facet_hull.specs.Laws.{IsRelativelyComplete, IsTurnRow, IsBoundOver}
use Rattle.facet_hull.specs.Normals.{normals}
use Rattle.facet_hull.specs.declared.outcome.Facets.{Facets}
use Rattle.facet_hull.specs.declared.outcome.Facets.TheVariants.{Normals, Beyond, Limit}
use Rattle.facet_hull.proofs.Bits.{normals-made}
use Rattle.facet_hull.proofs.Exact.{normals-exact}
use Rattle.recurrence.specs.Star.{count, posts, turns, star_by, star_of}
use Rattle.recurrence.proofs.ColumnShapes.{RowsAreCanonical, turns-canonical}
use Rattle.recurrence.proofs.Whole.{IsPut, turns-put}
use Rattle.phases.specs.FacetStar.{along, facet_star, star_by_outcome}
use Rattle.phases.specs.Phases.{phases_of}
use Rattle.phases.specs.Repetition.{repetition}
use Rattle.phases.specs.Rules.{has_facets, has_phases}
use Rattle.phases.proofs.FacetStars.{along-starred, normals-over}
use Rattle.star_completeness.specs.Laws.{number_in, IsWithinTurns, LinksNear, IsCanonicalCase, CanTurn, StarIsRelativelyComplete, RepetitionIsRelativelyComplete}
use Rattle.star_completeness.proofs.AllVariables.{bound-of_all}
use Rattle.star_completeness.proofs.Finishing.{IsHeld, finished-held}
use Rattle.star_completeness.proofs.NormalRows.{Say, HasTurnRow, polynomial_of, turn_change}
use Rattle.star_completeness.proofs.Quiet.{AlwaysQuiet, quiet-always, quiet-weaker, quiet-bind, quiet-both, quiet-path}
use Rattle.star_completeness.proofs.SecondCase.{IsSecondCase, turns-second, unmodified-stays, turn_change-is}

-- ---- the normals of a body

-- normals are those of the changes, and of another outcome nothing is said
abbrev AreNormals : Transition → Facets → Type 0
AreNormals body (Normals polys) = polys ≡ polynomials (modified_variables true body) (normals (hull_cases body))
AreNormals body Beyond = Unit {0}
AreNormals body (Limit limit) = Unit {0}

facets-normals : (body : Transition) → AreNormals body (facets_of body)
facets-normals body = go (is_beyond (modified_variables true body) (hull_cases body)) (first_limit (lost_changes true body)) (in_bits.normals (hull_cases body)) (normals-made (hull_cases body))
  where
    go : (beyond : Bool) (found : Option AnswerLimit) (made : cone_bits.Made (List (List ℤ))) → cone_bits.IsOrLeaves (normals (hull_cases body)) made
        → AreNormals body (if beyond then Beyond else limit_or found (facets_by (modified_variables true body) made))
    go true found made is = tt
    go false (Some limit) made is = tt
    go false None (Ok forms) is = ap (polynomials (modified_variables true body)) is
    go false None (Err step) is = tt

-- ---- canonical changes

found-canonical : (posts : List Polynomial) (v : ℕ) → AllByRecursion (λ (p : Polynomial). IsCanonical p.terms) posts → IsCanonical (poly_at posts v).terms
found-canonical [] v h = IsCanonical-nil
found-canonical (p ∷ posts) zero h = h.0
found-canonical (p ∷ posts) (suc v) h = found-canonical posts v h.1

change-canonical : (vs : List ℕ) (case : Case) → IsCanonicalCase case → IsCanonicalChange (changes_in true vs case)
change-canonical vs case is = record {
  rows = is.rows;
  terms = All-from_recursion (λ (p : Polynomial). IsCanonical p.terms) (map (λ v. or_zero (change true case v)) vs)
      (each-map (λ v. Unit {0}) (λ (p : Polynomial). IsCanonical p.terms) (λ v. or_zero (change true case v)) (λ v any. one v (change true case v) refl) vs (each-any (λ v. Unit {0}) (λ v. tt) vs));
}
  where
    one : (v : ℕ) (m : Made) → change true case v ≡ m → IsCanonical (or_zero m).terms
    one v (Ok p) e = IsCanonical-difference_of_polys (poly_at case.post v) (column_of (At v)) p e (found-canonical case.post v (recursion_from_All (λ (q : Polynomial). IsCanonical q.terms) case.post is.posts))
    one v (Err fault) e = IsCanonical-nil

hull_cases-canonical : (body : Transition) → All IsCanonicalCase body.cases → All IsCanonicalChange (hull_cases body)
hull_cases-canonical body h =
    All-from_recursion IsCanonicalChange (hull_cases body)
    (each-map IsCanonicalCase IsCanonicalChange (changes_in true (modified_variables true body)) (change-canonical (modified_variables true body)) body.cases (recursion_from_All IsCanonicalCase body.cases h))

-- as many terms as modified variables, where there is a case
terms-many : (vs : List ℕ) (cases : List Case) (place : ℕ) (case : Change) → slice_get (map (changes_in true vs) cases) place ≡ Some case → term_count (map (changes_in true vs) cases) ≡ length vs
terms-many vs [] place case e = cc
terms-many vs (c ∷ cases) place case e = length-map vs (λ v. or_zero (change true c v))

-- ---- the identity

identity-stays : (columns : ℕ) (before after : List ℤ) → length before ≡ columns → (aux : ℕ → ℤ) → map (value_of (numbers before aux)) (map (λ n. column_of (At n)) (range_with_len 0 columns)) ≡ after → after ≡ before
identity-stays columns before after long aux e =
    sym e ∙ same 0 columns ∙ sym (fill_by_all (number_in before) before columns (pos 0) long (λ k low. sym (unwrap_or-slice_get before k (pos 0))))
  where
    same : (a n : ℕ) → map (value_of (numbers before aux)) (map (λ k. column_of (At k)) (range_with_len a n)) ≡ map (number_in before) (range_with_len a n)
    same a zero = refl
    same a (suc n) = λ i. column_of-value (numbers before aux) (At a) i ∷ same (a + 1) n i

-- ---- star

module _ (complete : IsRelativelyComplete) (body : Transition) (voc : Vocabulary) (polys : List Polynomial) (can : CanTurn body voc) (are : facets_of body ≡ Normals polys) (listed : All (Contains voc.extra) polys) where
  exact : AreExact (length (modified_variables true body)) (hull_cases body) (normals (hull_cases body))
  exact =
      subst (λ n. AreExact n (hull_cases body) (normals (hull_cases body))) (terms-many (modified_variables true body) body.cases can.some.place can.some.case can.some.is)
      (normals-exact (hull_cases body) (hull_cases-canonical body can.canonical) can.some)

  asked : AllByRecursion (λ form. Contains voc.extra (polynomial_of body form)) (normals (hull_cases body))
  asked =
      each-unmap (Contains voc.extra) (polynomial_of body) (normals (hull_cases body))
      (subst (AllByRecursion (Contains voc.extra)) (subst (AreNormals body) are (facets-normals body)) (recursion_from_All (Contains voc.extra) polys listed))

  -- two states that the second case links
  second-near : (case : Case) → IsSecondCase body (normals (hull_cases body)) case → (before after : List ℤ) → HoldsCase case before after → IsWithinTurns body before after
  second-near case is before after (aux, h) = record {
    turns = numbers before aux (count body);
    some = some;
    bound = bound-of_all body before after (numbers before aux (count body)) stays (subst (λ ms. IsBoundOver (length (modified_variables true body)) (hull_cases body) ms (numbers before aux (count body))) (turn_change-is body before after aux ends) narrow);
  }
    where
      ends : map (value_of (numbers before aux)) (posts body) ≡ after
      ends = ap (map (value_of (numbers before aux))) (sym is.ends) ∙ h.posts

      some : pos 1 ≤ℤ numbers before aux (count body)
      some = is.turn (numbers before aux) h.rows

      above : (k : ℤ) → pos 1 ≤ℤ k → pos 0 <ℤ k
      above k e = omega (arith, ints)

      narrow : IsBoundOver (length (modified_variables true body)) (hull_cases body) (turn_change body (numbers before aux)) (numbers before aux (count body))
      narrow =
          complete (length (modified_variables true body)) (hull_cases body) (normals (hull_cases body)) exact (turn_change body (numbers before aux)) (numbers before aux (count body)) (above (numbers before aux (count body)) some)
          (each-more (λ form. Say (HasTurnRow body form) case.rows) (IsTurnRow (hull_cases body) (turn_change body (numbers before aux)) (numbers before aux (count body))) (λ form says. says (numbers before aux) h.rows some) (normals (hull_cases body)) is.normals)

      stays : AllByRecursion (λ v. is_modified true body.cases v ≡ false → number_in after v -ℤ number_in before v ≡ pos 0) (range_with_len 0 body.to)
      stays = each-more (λ v. v < body.to) (λ v. is_modified true body.cases v ≡ false → number_in after v -ℤ number_in before v ≡ pos 0) (λ v low e. none (number_in after v) (number_in before v) (unmodified-stays body before after aux ends v low e)) (range_with_len 0 body.to) (range-first body.to)
        where
          none : (x y : ℤ) → x ≡ y → x -ℤ y ≡ pos 0
          none x y e = omega (arith, ints)

  -- what the second case is when it is put together
  turns-known : AlwaysQuiet (λ case. IsSecondCase body (normals (hull_cases body)) case × (IsPut body voc can.starred case × RowsAreCanonical case.rows)) (turns body voc)
  turns-known =
      quiet-both (IsSecondCase body (normals (hull_cases body))) (λ case. IsPut body voc can.starred case × RowsAreCanonical case.rows) (turns body voc) (turns-second body voc (normals (hull_cases body)) asked)
      (quiet-both (IsPut body voc can.starred) (λ case. RowsAreCanonical case.rows) (turns body voc) (quiet-always (IsPut body voc can.starred) (turns body voc) (turns-put body voc can.starred))
      (quiet-always (λ case. RowsAreCanonical case.rows) (turns body voc) (turns-canonical body voc (each-more (IsDirectionOver voc.columns) (λ (d : Polynomial). IsCanonical d.terms) (λ d k. k.canonical) (directions voc) (directions-over voc can.starred.vocabulary)))))

  abbrev LeftNear : Option Case → Type 0
  LeftNear left = (before after : List ℤ) → HoldsLeft left before after → IsWithinTurns body before after

  identity-near : (before after : List ℤ) → Holds (identity_of body.from) before after → (after ≡ before) ⊎ IsWithinTurns body before after
  identity-near before after h = of_some h.some
    where
      of_some : HoldsSome (identity_of body.from).cases before after → (after ≡ before) ⊎ IsWithinTurns body before after
      of_some (inl (aux, k)) = inl (identity-stays body.from before after h.enters aux k.posts)
      of_some (inr none) = absurd none

  union-near : (left : Option Case) → LeftNear left → LinksNear body (union_of (identity_of body.from) record { from = body.from; to = body.to; cases = option_to_list left })
  union-near left near before after h = of_some h.some
    where
      of_left : (left : Option Case) → LeftNear left → HoldsSome (option_to_list left) before after → (after ≡ before) ⊎ IsWithinTurns body before after
      of_left None near k = absurd k
      of_left (Some case) near (inl k) = inr (near before after k)
      of_left (Some case) near (inr none) = absurd none

      of_some : HoldsSome ((identity_of body.from).cases ++ option_to_list left) before after → (after ≡ before) ⊎ IsWithinTurns body before after
      of_some (inl (aux, k)) = inl (identity-stays body.from before after h.enters aux k.posts)
      of_some (inr k) = of_left left near k

  pub star-near : AlwaysQuiet (LinksNear body) (star_of body voc)
  unfolding star_of
  star-near = go body.cases
    where
      go : (cases : List Case) → AlwaysQuiet (LinksNear body) (star_by body voc cases)
      go [] = identity-near
      go (case ∷ cases) =
          quiet-bind LeftNear (LinksNear body) (turns body voc >>= finish_of_case) (λ left. Done (union_of (identity_of body.from) record { from = body.from; to = body.to; cases = option_to_list left }))
          (quiet-bind (λ made. IsSecondCase body (normals (hull_cases body)) made × (IsPut body voc can.starred made × RowsAreCanonical made.rows)) LeftNear (turns body voc) finish_of_case turns-known
          (λ made known. quiet-weaker (IsHeld made) LeftNear (finish_of_case made) (λ left held before after h. second-near made known.0 before after (held before after h))
          (finished-held made (All-from_recursion (λ (row : Row). IsCanonical row.poly.terms) made.rows known.1.1) known.1.0.solvable.numbered)))
          union-near

pub star-relatively_complete : IsRelativelyComplete → StarIsRelativelyComplete
star-relatively_complete complete body voc polys can are listed star answers kept =
    quiet-path (LinksNear body) (star_of body voc) (Done star) [] answers kept.path refl (star-near complete body voc polys can are listed)

-- ---- by the third rule

some_note : (n : Note) → n ∷ [] ≡ [] → ⊥
some_note n none = cc

module _ (complete : IsRelativelyComplete) (body : Transition) (voc : Vocabulary) (can : CanTurn body voc) where
  along-turns : (polys : List Polynomial) → facets_of body ≡ Normals polys → CanTurn body (along polys voc)
  along-turns polys e = record {
    starred = along-starred body voc polys can.starred (normals-over body voc polys can.starred e);
    canonical = can.canonical;
    some = can.some;
  }

  facet_star-near : AlwaysQuiet (LinksNear body) (facet_star body voc)
  unfolding facet_star
  facet_star-near = go (facets_of body) refl
    where
      go : (outcome : Facets) → facets_of body ≡ outcome → AlwaysQuiet (LinksNear body) (star_by_outcome outcome body voc)
      go (Normals polys) e = star-near complete body (along polys voc) polys (along-turns polys e) e (All-from_recursion (Contains (voc.extra ++ polys)) polys (each-more (Contains polys) (Contains (voc.extra ++ polys)) (λ p found. Contains-append_right voc.extra polys p found) polys (recursion_from_All (Contains polys) polys (All-contains_itself polys))))
      go Beyond e = λ none. absurd (some_note note.Facets none)
      go (Limit limit) e = λ none. absurd (some_note (note.Limit limit) none)

  repetition-near : voc.rule ≡ 3 → AlwaysQuiet (LinksNear body) (repetition body voc)
  unfolding repetition
  repetition-near third = subst (λ rule. AlwaysQuiet (LinksNear body) (if has_phases rule then phases_of body voc else (if has_facets rule then facet_star body voc else star_of body voc))) (sym third) facet_star-near

pub repetition-relatively_complete : IsRelativelyComplete → RepetitionIsRelativelyComplete
repetition-relatively_complete complete body voc third can made answers kept =
    quiet-path (LinksNear body) (repetition body voc) (Done made) [] answers kept.path refl (repetition-near complete body voc can third)
