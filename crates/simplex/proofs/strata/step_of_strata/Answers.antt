use Rattle.std.proofs.Common.{sym, subst}
use Rattle.simplex.specs.Strata.{strata_search, IsStratumAnswer}
use Rattle.simplex.proofs.Bases.{wide_stratum}
use Rattle.simplex.proofs.strata.step_of_strata.Goals as goal

pub returns : goal.returns
returns c = subst (λ a. IsStratumAnswer c.args.asked.now a) (sym c.limit_of.ensures) (wide_stratum c.args.asked.now c.args.step.now c.requires.canonical c.requires.step.0 c.requires.step.1 (strata_search c.requires.step.2))
