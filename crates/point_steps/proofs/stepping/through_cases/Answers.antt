use Rattle.std.proofs.Common.{◌≡◌, ◌+◌, ◌<◌, ◌^◌, ◌++◌, map, sym, subst}
use Rattle.std.specs.Prelude.{All, IfOk, IsTrue, OnOk}
use Rattle.std.specs.List.{flat_map}
use Rattle.linear_terms.specs.declared.row.Case.{Case}
use Rattle.transition_formula.specs.Composition.{after_case, losses_by, sequence_of_cases}
use Rattle.transition_formula.specs.Transition.{fits}
use Rattle.point_steps.specs.Steps.{point_case}
use Rattle.point_steps.proofs.StepFormulas.{second-few}
use Rattle.point_steps.proofs.stepping.through_cases.Goals as goal

pub sequences-requires-clause-fits : goal.sequences-requires-clause-fits
sequences-requires-clause-fits c =
    subst (λ case. IsTrue (fits 0 c.args.way.now.from case)) (sym c.in_ok-first.ensures)
    (subst (λ n. IsTrue (fits 0 n (point_case c.args.columns c.args.case.now))) (sym c.requires.way.from) c.requires.case.fits)

pub sequences-requires-clause-few : goal.sequences-requires-clause-few
sequences-requires-clause-few c =
    subst (λ (first : Case). All (λ (second : Case). first.aux + second.aux + c.args.way.now.to < 2 ^ 32) c.args.way.now.cases) (sym c.in_ok-first.ensures)
    (second-few c.args.columns c.args.way.now c.requires.way c.args.case.now c.requires.case)

pub returns-clause-exact : goal.returns-clause-exact
returns-clause-exact c =
    subst (λ (first : Case). IfOk c.sequences.result (λ f. f ≡ record { from = 0; to = c.args.way.now.to; cases = map (sequence_of_cases first) c.args.way.now.cases })) c.in_ok-first.ensures c.sequences.ensures.exact

pub returns-clause-noted : goal.returns-clause-noted
returns-clause-noted c =
    subst (λ (first : Case). OnOk c.sequences.result (c.sequences.new.losses ≡ c.args.losses.now ++ flat_map (λ second. losses_by (after_case first second) second) c.args.way.now.cases)) c.in_ok-first.ensures c.sequences.ensures.noted
