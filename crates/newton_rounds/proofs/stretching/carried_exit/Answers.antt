use Rattle.std.proofs.Common.{◌≡◌, sym, subst}
use Rattle.std.specs.Prelude.{IfOk}
use Rattle.proc_summary.specs.Claims.{IsBetweenStates}
use Rattle.newton_rounds.specs.Pairs.{carrying}
use Rattle.newton_rounds.proofs.PairNumbers.{states-of}
use Rattle.newton_rounds.proofs.stretching.carried_exit.Goals as goal

pub carrying-requires-clause-states : goal.carrying-requires-clause-states
carrying-requires-clause-states c = subst (IsBetweenStates c.args.columns) (sym c.in_ok-rest.ensures) (states-of c.args.columns c.args.f.now c.requires.fits)

pub returns : goal.returns
returns c = subst (λ rest. IfOk c.carrying.result (λ g. g ≡ carrying c.args.columns c.args.more rest)) c.in_ok-rest.ensures c.carrying.ensures
