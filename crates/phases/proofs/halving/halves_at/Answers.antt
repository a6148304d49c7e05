use Rattle.std.proofs.Common.{refl}
use Rattle.items.proofs.Gives.{Gives-Ok}
use Rattle.linear_terms.specs.TermError.{cause}
use Rattle.posing.proofs.Following.{stops}
use Rattle.phases.specs.Splits.{contrary}
use Rattle.phases.proofs.SplitHalves.{contrary-over}
use Rattle.phases.proofs.halving.halves_at.Goals as goal

pub halves_by-requires-clause-opposite : goal.halves_by-requires-clause-opposite
halves_by-requires-clause-opposite g c =
    record {
      splittable = c.requires.splittable;
      over = contrary-over c.args.body.now.from c.args.poly.now c.in-Ok.opposite (Gives-Ok cause (λ p. p) c.contrary.result (contrary c.args.poly.now) c.in-Ok.opposite c.in-Ok.is c.contrary.ensures) c.requires.over;
    }

pub returns-in-Err-Memory : goal.returns-in-Err-Memory
returns-in-Err-Memory g c = stops _ _ _ _ _ _ refl refl
