use Rattle.std.proofs.Common.{◌≡◌, All, length, map, sym, ap, subst, ◌∙◌}
use Rattle.std.specs.List.{filter, flat_map, range_with_len}
use Rattle.std.proofs.lemmas.List.{length-map}
use Rattle.linear_terms.specs.declared.row.Case.{Case}
use Rattle.posing.specs.Logs.{loss_notes}
use Rattle.polyhedra.specs.Changes.{occurs_in}
use Rattle.polyhedra.specs.Tables.{table_of, is_moved_in, is_made_in, first_of, losses_at, changes_from}
use Rattle.polyhedra.proofs.Coverage.{posts-long}
use Rattle.polyhedra.proofs.ModifiedVariables.{modified-tables, moving-tables, losses-tables, changes-tables}
use Rattle.polyhedra.proofs.variables.movement_of.Goals as goal

pub tables_of-requires : goal.tables_of-requires
tables_of-requires c =
    let f = c.args.f.now in
    subst (λ n. All (λ (case : Case). length case.post ≡ n) c.cases.result.now) (sym c.to.ensures) (posts-long f.from f.to c.cases.result.now c.cases.ensures.fit)

pub changes_of-requires : goal.changes_of-requires
changes_of-requires c =
    ap length (c.as_slice-7.ensures ∙ c.in_ok-tables.ensures) ∙ length-map c.cases.result.now (table_of c.args.one c.to.result)
    ∙ ap length (c.cases.ensures.cases ∙ sym c.cases-2.ensures.cases)

pub returns-clause-modified : goal.returns-clause-modified
returns-clause-modified c =
    let tables = c.in_ok-tables.ensures ∙ (λ i. map (table_of c.args.one (c.to.ensures i)) (c.cases.ensures.cases i)) in
    c.in_ok-modified.ensures ∙ (λ i. filter (is_moved_in ((c.as_slice.ensures ∙ tables) i)) (range_with_len 0 (c.to-2.ensures i))) ∙ modified-tables c.args.one c.args.f.now

pub returns-clause-moving : goal.returns-clause-moving
returns-clause-moving c =
    let tables = c.in_ok-tables.ensures ∙ (λ i. map (table_of c.args.one (c.to.ensures i)) (c.cases.ensures.cases i)) in
    c.in_ok-moving.ensures ∙ (λ i. filter (is_made_in ((c.as_slice-2.ensures ∙ tables) i)) ((c.as_slice-3.ensures ∙ returns-clause-modified c) i)) ∙ moving-tables c.args.one c.args.f.now

pub returns-clause-lost : goal.returns-clause-lost
returns-clause-lost c =
    let tables = c.in_ok-tables.ensures ∙ (λ i. map (table_of c.args.one (c.to.ensures i)) (c.cases.ensures.cases i)) in
    ap loss_notes (c.in_ok-lost.ensures ∙ (λ i. flat_map (λ v. losses_at (first_of ((c.as_slice-4.ensures ∙ tables) i) v)) ((c.as_slice-5.ensures ∙ returns-clause-modified c) i)) ∙ losses-tables c.args.one c.args.f.now)

pub returns-clause-cases : goal.returns-clause-cases
returns-clause-cases c =
    let tables = c.in_ok-tables.ensures ∙ (λ i. map (table_of c.args.one (c.to.ensures i)) (c.cases.ensures.cases i)) in
    c.in_ok-cases.ensures ∙ (λ i. changes_from ((c.as_slice-6.ensures ∙ returns-clause-moving c) i) (c.cases-2.ensures.cases i) ((c.as_slice-7.ensures ∙ tables) i)) ∙ changes-tables c.args.one c.args.f.now

pub returns-clause-occurring : goal.returns-clause-occurring
returns-clause-occurring c = c.in_ok-occurring.ensures ∙ (λ i. filter (occurs_in ((c.as_slice-8.ensures ∙ returns-clause-cases c) i)) (range_with_len 0 (c.from.ensures i)))
