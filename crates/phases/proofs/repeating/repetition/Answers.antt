use Rattle.transition_formula.specs.Meaning.{HoldsOfChains}
use Rattle.std.proofs.Common.{subst}
use Rattle.polyhedra.specs.Laws.{HaveCanonicalRows}
use Rattle.polyhedra.proofs.Results.{result_has}
use Rattle.phases.specs.Law.{IsPhased}
use Rattle.phases.proofs.Repetitions.{repetitions-fit, repetitions-hold}
use Rattle.phases.proofs.repeating.repetition.Goals as goal

pub returns-clause-holds : goal.returns-clause-holds
returns-clause-holds g c =
    result_has (HoldsOfChains c.args.body.now) c.repeated_body.result c.repeated_body.ensures
    (repetitions-hold c.args.body.now c.args.voc.now c.requires (subst HaveCanonicalRows c.cases.ensures.cases c.see_cases.ensures))

pub returns-clause-fits : goal.returns-clause-fits
returns-clause-fits g c = result_has (IsPhased c.args.body.now.to) c.repeated_body.result c.repeated_body.ensures (repetitions-fit c.args.body.now c.args.voc.now c.requires)
