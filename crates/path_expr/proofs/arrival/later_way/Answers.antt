use Rattle.std.proofs.Common.{subst}
use Rattle.path_expr.specs.PathExpr.{Zero}
use Rattle.path_expr.specs.Elimination.{arrivals, ways}
use Rattle.path_expr.specs.Holds.{IsItemOrZero, node_at}
use Rattle.path_expr.proofs.ReadyWays.{turn-taken}
use Rattle.path_expr.proofs.arrival.later_way.Goals as goal

pub arrive-requires-clause-holds : goal.arrive-requires-clause-holds
arrive-requires-clause-holds g c =
    let given = c.requires.holds in (given.0, given.1, given.2, given.3, turn-taken _ _ _ _ _ c.take-turn.ensures.value given.4)

pub returns-in-Ok-Some-clause-made : goal.returns-in-Ok-Some-clause-made
returns-in-Ok-Some-clause-made g c = λ source f h hw ht.
    let m = c.in-Ok-Some.ensures.made source f h hw (turn-taken _ _ _ _ _ c.take-turn.ensures.value ht) in
    record {
      run = m.run;
      good = subst (λ o. IsItemOrZero g.A.Algebra.fits g.A.Algebra.spans c.arrive.new.algebra (arrivals f c.args.n (ways f c.args.n) 0 Zero) o (node_at source 0) (node_at source c.args.n))
          c.in-Ok-Some.field-0-is m.good;
    }

pub returns-in-Ok-None-clause-made : goal.returns-in-Ok-None-clause-made
returns-in-Ok-None-clause-made g c = λ source f h hw ht.
    let m = c.in-Ok-None.ensures.made source f h hw (turn-taken _ _ _ _ _ c.take-turn.ensures.value ht) in
    record {
      run = m.run;
      good = subst (λ o. IsItemOrZero g.A.Algebra.fits g.A.Algebra.spans c.arrive.new.algebra (arrivals f c.args.n (ways f c.args.n) 0 Zero) o (node_at source 0) (node_at source c.args.n))
          c.in-Ok-None.field-0-is m.good;
    }

pub returns-clause-made : goal.returns-clause-made
returns-clause-made g c = λ source f h hw ht.
    let m = c.in-Err.ensures.made source f h hw (turn-taken _ _ _ _ _ c.take-turn.ensures.value ht) in
    record { run = m.run; good = tt }
