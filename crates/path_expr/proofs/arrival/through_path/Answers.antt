use Rattle.path_expr.specs.PathExpr.{seq_of}
use Rattle.path_expr.specs.Operations.{seq_operation}
use Rattle.path_expr.proofs.RunLemmas.{Makes-then, Makes-exit}
use Rattle.path_expr.proofs.HoldLemmas.{IsItemOrOne-kept}
use Rattle.path_expr.proofs.arrival.through_path.Goals as goal

pub returns-in_err-up : goal.returns-in_err-up
returns-in_err-up g c = record {
  made = λ w p q from at to hw hp hq.
      Makes-exit c.from_residual.result (seq_operation (seq_of w p) q) c.from_residual.ensures.1 (c.in_err-up.ensures.made w p from at to hw hp).run;
}

pub path_with_turns-requires : goal.path_with_turns-requires
path_with_turns-requires g c =
    let w = c.requires.0 in let p = c.requires.1 in let q = c.requires.2 in let from = c.requires.3 in let to = c.requires.5 in
    let m = c.in_ok-up.ensures.made w p from c.requires.4 to c.requires.6 c.requires.7 in
    (seq_of w p, q, from, to, m.good, IsItemOrOne-kept m.run.keeps q c.args.turn.now to c.requires.8)

pub returns : goal.returns
returns g c = record {
  made = λ w p q from at to hw hp hq.
      let m = c.in_ok-up.ensures.made w p from at to hw hp in
      Makes-then m.run (c.path_with_turns.ensures.made (seq_of w p) q from to m.good (IsItemOrOne-kept m.run.keeps q c.args.turn.now to hq));
}
