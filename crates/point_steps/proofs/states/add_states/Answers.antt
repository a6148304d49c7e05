use Rattle.std.proofs.Common.{◌++◌, ◌+◌, ◌<◌, ◌≤◌, ◌^◌, All, [], map, take, ap, sym, subst, ◌∙◌, length, arith}
use Rattle.std.specs.List.{flat_map}
use Rattle.std.specs.Prelude.{IsTrue}
use Rattle.linear_terms.specs.declared.row.Case.{Case}
use Rattle.transition_formula.specs.Composition.{after_case, losses_by, sequence_of_cases}
use Rattle.transition_formula.specs.Transition.{fits}
use Rattle.point_steps.specs.States.{begun_case, told_case}
use Rattle.point_steps.proofs.Making.{told-made}
use Rattle.point_steps.proofs.StateFormulas.{begun-few, begun-fits, entry-long}
use Rattle.point_steps.proofs.states.add_states.Goals as goal

pub extended_case-requires : goal.extended_case-requires
extended_case-requires c = let few = c.requires.entry.few in let columns = c.requires.ends.few_columns in omega (arith, few, columns)

pub sequences-requires-clause-fits : goal.sequences-requires-clause-fits
sequences-requires-clause-fits c =
    let ends = c.args.ends.now in
    subst (λ case. IsTrue (fits 0 c.args.reach.now.from case)) (sym c.in_ok-first.ensures)
    (subst (λ n. IsTrue (fits 0 n (begun_case ends c.args.entry.now))) (sym c.requires.reach.from) (begun-fits ends c.requires.ends c.args.entry.now c.requires.entry.fits))

pub sequences-requires-clause-few : goal.sequences-requires-clause-few
sequences-requires-clause-few c =
    subst (λ (first : Case). All (λ (case : Case). first.aux + case.aux + c.args.reach.now.to < 2 ^ 32) c.args.reach.now.cases) (sym c.in_ok-first.ensures)
    (begun-few c.args.ends.now c.requires.ends c.args.entry.now c.requires.entry c.args.reach.now c.requires.reach)

pub first_of-remembered-requires : goal.first_of-remembered-requires
first_of-remembered-requires c = subst (λ posts. c.args.ends.now.remembered ≤ length posts) (sym c.as_slice.ensures) (entry-long c.args.ends.now c.requires.ends c.args.entry.now c.requires.entry)

pub returns-clause-made : goal.returns-clause-made
returns-clause-made c =
    told-made c.in_ok-first.first c.args.reach.now [] c.first_of-remembered.result.now c.in_ok-through.through c.args.cases.now _ c.in_ok-through.ensures.exact c.in_ok-add_told.ensures
    ∙ (λ i. c.args.cases.now ++ map (λ case. told_case [] ((c.first_of-remembered.ensures ∙ ap (take c.args.ends.now.remembered) c.as_slice.ensures) i) (sequence_of_cases (c.in_ok-first.ensures i) case)) c.args.reach.now.cases)

pub returns-clause-noted : goal.returns-clause-noted
returns-clause-noted c =
    c.in_ok-through.ensures.noted ∙ (λ i. c.args.losses.now ++ flat_map (λ case. losses_by (after_case (c.in_ok-first.ensures i) case) case) c.args.reach.now.cases)
