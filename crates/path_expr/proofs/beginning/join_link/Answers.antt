use Rattle.path_expr.specs.Operations.{join_operation}
use Rattle.path_expr.proofs.RunLemmas.{Makes-then, Makes-exit}
use Rattle.path_expr.proofs.HoldLemmas.{IsItemOrZero-kept}
use Rattle.path_expr.proofs.beginning.join_link.Goals as goal

pub returns-in_err-link : goal.returns-in_err-link
returns-in_err-link g c = record {
  made = λ p q from to hp hq.
      Makes-exit c.from_residual.result (join_operation p q) c.from_residual.ensures.1 (c.in_err-link.ensures.made q from to hq).run;
}

pub join_onto-requires : goal.join_onto-requires
join_onto-requires g c =
    let p = c.requires.0 in let q = c.requires.1 in let from = c.requires.2 in let to = c.requires.3 in
    let m = c.in_ok-link.ensures.made q from to c.requires.5 in
    (p, q, from, to, IsItemOrZero-kept m.run.keeps p c.args.before from to c.requires.4, m.good)

pub returns : goal.returns
returns g c = record {
  made = λ p q from to hp hq.
      let m = c.in_ok-link.ensures.made q from to hq in
      Makes-then m.run (c.join_onto.ensures.made p q from to (IsItemOrZero-kept m.run.keeps p c.args.before from to hp) m.good);
}
