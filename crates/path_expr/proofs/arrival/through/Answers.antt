use Rattle.std.proofs.Common.{subst}
use Rattle.path_expr.specs.Holds.{IsWay}
use Rattle.path_expr.proofs.HoldLemmas.{Makes-some, Makes-through}
use Rattle.path_expr.proofs.arrival.through.Goals as goal

pub returns-in-Ok : goal.returns-in-Ok
returns-in-Ok g c = record {
  made = λ w p q from at to hw hp hq.
      Makes-through w p q (subst (λ o. IsWay g.A.Algebra.fits g.A.Algebra.spans c.args.algebra.now w o from at) c.in-One.is hw)
      (c.in-Ok.ensures.made p q at to hp hq);
}

pub returns-in-Ok-through_path : goal.returns-in-Ok-through_path
returns-in-Ok-through_path g c = record {
  made = λ w p q from at to hw hp hq.
      Makes-some (c.in-Ok-through_path.ensures.made w p q from at to
      (subst (λ o. IsWay g.A.Algebra.fits g.A.Algebra.spans c.args.algebra.now w o from at) c.in-Item.is hw) hp hq);
}
