use Rattle.transition_formula.specs.Meaning.{HoldsOfChains}
use Rattle.std.proofs.Common.{subst}
use Rattle.polyhedra.specs.Laws.{HaveCanonicalRows}
use Rattle.polyhedra.proofs.Results.{result_has}
use Rattle.phases.specs.Law.{IsPhased}
use Rattle.phases.specs.Phases.{phases_of}
use Rattle.phases.proofs.Whole.{phasable-roomy, phases-fit, phases-hold}
use Rattle.phases.proofs.phasing.star.Goals as goal

pub phased_star-requires : goal.phased_star-requires
phased_star-requires g c = phasable-roomy c.args.body.now c.args.voc.now c.requires

pub returns-clause-follows : goal.returns-clause-follows
unfolding phases_of
returns-clause-follows g c = c.phased_star.ensures

pub returns-clause-holds : goal.returns-clause-holds
returns-clause-holds g c =
    result_has (HoldsOfChains c.args.body.now) c.phased_star.result (returns-clause-follows g c)
    (phases-hold c.args.body.now c.args.voc.now c.requires (subst HaveCanonicalRows c.cases.ensures.cases c.see_cases.ensures))

pub returns-clause-fits : goal.returns-clause-fits
returns-clause-fits g c = result_has (IsPhased c.args.body.now.to) c.phased_star.result (returns-clause-follows g c) (phases-fit c.args.body.now c.args.voc.now c.requires)
