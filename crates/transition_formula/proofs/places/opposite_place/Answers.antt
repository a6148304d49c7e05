use Rattle.std.proofs.Common.{◌≡◌, ℕ, ◌<◌, length, map, List, Option, Some, None, sym, ap, subst, ◌∙◌}
use Rattle.std.specs.Option.{IfSome}
use Rattle.linear_terms.specs.declared.row.Row.{Row}
use Rattle.linear_terms.specs.Polynomial.{Terms}
use Rattle.transition_formula.specs.Places.{RowKey, first_place, key_of}
use Rattle.transition_formula.specs.Rows.{are_opposite, negated_terms}
use Rattle.transition_formula.proofs.AtPlaces.{same_key}
use Rattle.transition_formula.proofs.Opposites.{opposite_by_key, no_opposite, found_at}
use Rattle.transition_formula.proofs.places.opposite_place.Goals as goal

pub returns-in-Equal-clause-first : goal.returns-in-Equal-clause-first
returns-in-Equal-clause-first c = sym (no_opposite c.args.row.now c.args.rows.now c.in-Equal.is)

within : (row : Row) (rows : List Row) (o : Option ℕ) → o ≡ first_place (are_opposite row) rows → IfSome o (λ n. n < length rows)
within row rows None e = tt
within row rows (Some n) e = (found_at (are_opposite row) rows n (sym e)).within

turned_terms : (o : Option Terms) (terms turned : Terms) → o ≡ Some turned → IfSome o (λ ts. ts ≡ negated_terms terms) → turned ≡ negated_terms terms
turned_terms o terms turned e h = let P : Option Terms → Type 0 = λ p. IfSome p (λ ts. ts ≡ negated_terms terms) in subst P e h

pub returns-in-Some-clause-first : goal.returns-in-Some-clause-first
returns-in-Some-clause-first c =
    let row = c.args.row.now in
    let turned : c.in-Some.terms ≡ negated_terms row.poly.terms = turned_terms c.in_ok-terms-in-AtMost.field-0 c.terms.result.now c.in-Some.terms c.in-Some.is c.in_ok-terms-in-AtMost.ensures ∙ ap negated_terms c.terms.ensures.terms in
    let key : RowKey = (None, c.in-Some.terms) in
    c.copied.ensures ∙ c.get.ensures.value ∙ c.requires key
    ∙ ap (λ (ts : Terms). first_place (same_key (None, ts)) (map key_of c.args.rows.now)) turned ∙ opposite_by_key row c.args.rows.now c.in-AtMost.is

pub returns-in-Some-clause-within : goal.returns-in-Some-clause-within
returns-in-Some-clause-within c =
    let row = c.args.row.now in
    let turned : c.in-Some.terms ≡ negated_terms row.poly.terms = turned_terms c.in_ok-terms-in-AtMost.field-0 c.terms.result.now c.in-Some.terms c.in-Some.is c.in_ok-terms-in-AtMost.ensures ∙ ap negated_terms c.terms.ensures.terms in
    let key : RowKey = (None, c.in-Some.terms) in
    within row c.args.rows.now c.copied.result
    (c.copied.ensures ∙ c.get.ensures.value ∙ c.requires key
    ∙ ap (λ (ts : Terms). first_place (same_key (None, ts)) (map key_of c.args.rows.now)) turned ∙ opposite_by_key row c.args.rows.now c.in-AtMost.is)

pub returns-in-None-clause-within : goal.returns-in-None-clause-within
returns-in-None-clause-within c = within c.args.row.now c.args.rows.now c.first_opposite.result c.first_opposite.ensures
