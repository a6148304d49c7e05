use Rattle.std.proofs.Common.{rules, sym, subst}
use Rattle.simplex.specs.Strata.{IsStratumAnswer}
use Rattle.simplex.proofs.Bases.{found_stratum, untested_stratum}
use Rattle.simplex.proofs.strata.tested_basis.Goals as goal

pub returns-in-Ok : goal.returns-in-Ok
returns-in-Ok c = found_stratum c.args.asked.now c.args.found c.in-Ok._holds c.requires.canonical (search rules) c.requires.found (search rules)

pub returns-in-Err : goal.returns-in-Err
returns-in-Err c =
    subst (λ a. IsStratumAnswer c.args.asked.now a) (sym c.limit_of.ensures) (untested_stratum c.args.asked.now c.args.found c.in-Err.step c.requires.canonical (search rules) c.requires.found c.requires.small (search rules))
