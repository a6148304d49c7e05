use Rattle.std.proofs.Common.{length, map, List, refl, sym, subst, ap, ◌∙◌, arith}
use Rattle.std.specs.Prelude.{IsTrue, slice_index}
use Rattle.std.specs.List.{list_all, list_any}
use Rattle.linear_terms.specs.declared.row.Row.{Row}
use Rattle.linear_terms.specs.Polynomial.{Polynomial}
use Rattle.linear_terms.specs.Auxiliaries.{occurs, renumbered_polynomial, is_numbered, KeepsOrder}
use Rattle.transition_formula.specs.Transition.{every_column}
use Rattle.transition_formula.specs.Renumbering.{renumbered_row}
use Rattle.transition_formula.proofs.Numbers.{IsNumbering, numbered, many_numbers, rows_numbered, posts_numbered, rows_order, posts_order, renumbered_made}
use Rattle.transition_formula.proofs.numbering.renumbered_case.Goals as goal

pub rows_renumbered-requires-clause-numbered : goal.rows_renumbered-requires-clause-numbered
rows_renumbered-requires-clause-numbered c =
    let case = c.args.case.now in
    let numbers = c.as_slice-numbers.result.now in
    let list : IsNumbering numbers case = record { is = c.as_slice-numbers.ensures ∙ c.in_ok-numbers.ensures } in
    subst (λ (rows : List Row). IsTrue (list_all (λ row. every_column (is_numbered (length numbers)) row.poly) rows)) (sym c.as_slice.ensures) (rows_numbered numbers case list (numbered case c.requires))

pub rows_renumbered-requires-clause-order : goal.rows_renumbered-requires-clause-order
rows_renumbered-requires-clause-order c =
    let case = c.args.case.now in
    let numbers = c.as_slice-numbers.result.now in
    let list : IsNumbering numbers case = record { is = c.as_slice-numbers.ensures ∙ c.in_ok-numbers.ensures } in
    subst (λ (rows : List Row). KeepsOrder (slice_index numbers) (λ n. list_any (λ row. occurs n row.poly) rows)) (sym c.as_slice.ensures) (rows_order numbers case list (numbered case c.requires))

pub posts_renumbered-requires-clause-numbered : goal.posts_renumbered-requires-clause-numbered
posts_renumbered-requires-clause-numbered c =
    let case = c.args.case.now in
    let numbers = c.as_slice-numbers.result.now in
    let list : IsNumbering numbers case = record { is = c.as_slice-numbers.ensures ∙ c.in_ok-numbers.ensures } in
    subst (λ (posts : List Polynomial). IsTrue (list_all (every_column (is_numbered (length numbers))) posts)) (sym c.as_slice-2.ensures) (posts_numbered numbers case list (numbered case c.requires))

pub posts_renumbered-requires-clause-order : goal.posts_renumbered-requires-clause-order
posts_renumbered-requires-clause-order c =
    let case = c.args.case.now in
    let numbers = c.as_slice-numbers.result.now in
    let list : IsNumbering numbers case = record { is = c.as_slice-numbers.ensures ∙ c.in_ok-numbers.ensures } in
    subst (λ (posts : List Polynomial). KeepsOrder (slice_index numbers) (λ n. list_any (occurs n) posts)) (sym c.as_slice-2.ensures) (posts_order numbers case list (numbered case c.requires))

pub bounds-numbers-case : goal.bounds-numbers-case
bounds-numbers-case c =
    let case = c.args.case.now in
    let numbers = c.as_slice-numbers.result.now in
    let list : IsNumbering numbers case = record { is = c.as_slice-numbers.ensures ∙ c.in_ok-numbers.ensures } in
    omega (arith, many_numbers numbers case list)

pub returns : goal.returns
returns c =
    let case = c.args.case.now in
    let numbers = c.as_slice-numbers.result.now in
    let list : IsNumbering numbers case = record { is = c.as_slice-numbers.ensures ∙ c.in_ok-numbers.ensures } in
    renumbered_made numbers case list (numbered case c.requires) (slice_index numbers case.aux) c.in_ok-rows.rows c.in_ok-post.post refl
    (c.in_ok-rows.ensures ∙ ap (map (renumbered_row (slice_index numbers))) c.as_slice.ensures) (c.in_ok-post.ensures ∙ ap (map (renumbered_polynomial (slice_index numbers))) c.as_slice-2.ensures)
