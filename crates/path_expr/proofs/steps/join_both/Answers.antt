use Rattle.std.proofs.Common.{subst}
use Rattle.path_expr.specs.Holds.{IsItemOrZero}
use Rattle.path_expr.proofs.HoldLemmas.{Makes-Zero, Makes-some}
use Rattle.path_expr.proofs.steps.join_both.Goals as goal

pub returns-in_default : goal.returns-in_default
returns-in_default g c = record {
  made = λ p q from to hp hq.
      Makes-Zero p q c.args.before (subst (λ o. IsItemOrZero g.A.Algebra.fits g.A.Algebra.spans c.args.algebra.now q o from to) c.in_default.is hq) hp;
}

pub join_onto-requires : goal.join_onto-requires
join_onto-requires g c = (
  c.requires.0,
  c.requires.1,
  c.requires.2,
  c.requires.3,
  c.requires.4,
  subst (λ o. IsItemOrZero g.A.Algebra.fits g.A.Algebra.spans c.args.algebra.now c.requires.1 o c.requires.2 c.requires.3) c.in-Some.is c.requires.5,
)

pub returns-in-Ok : goal.returns-in-Ok
returns-in-Ok g c = record {
  made = λ p q from to hp hq.
      Makes-some (c.in-Ok.ensures.made p q from to hp
      (subst (λ o. IsItemOrZero g.A.Algebra.fits g.A.Algebra.spans c.args.algebra.now q o from to) c.in-Some.is hq));
}

pub returns-in-Err : goal.returns-in-Err
returns-in-Err g c = record {
  made = λ p q from to hp hq.
      let m = c.in-Err.ensures.made p q from to hp
      (subst (λ o. IsItemOrZero g.A.Algebra.fits g.A.Algebra.spans c.args.algebra.now q o from to) c.in-Some.is hq) in
      record { run = m.run; good = tt };
}
