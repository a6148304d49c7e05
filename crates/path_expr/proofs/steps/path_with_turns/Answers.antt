use Rattle.std.proofs.Common.{subst}
use Rattle.path_expr.specs.Holds.{IsItemOrOne}
use Rattle.path_expr.proofs.HoldLemmas.{Makes-One}
use Rattle.path_expr.proofs.steps.path_with_turns.Goals as goal

pub returns-in-Some : goal.returns-in-Some
returns-in-Some g c = record {
  made = λ p q from to h k.
      c.seq.ensures.made p q from to to h
      (subst (λ o. IsItemOrOne g.A.Algebra.fits g.A.Algebra.spans c.args.algebra.now q o to) c.in-Some.is k);
}

pub returns-in-None : goal.returns-in-None
returns-in-None g c = record {
  made = λ p q from to h k.
      Makes-One p q (subst (λ o. IsItemOrOne g.A.Algebra.fits g.A.Algebra.spans c.args.algebra.now q o to) c.in-None.is k) h.shape
      (c.copy.ensures.made p from to h);
}
