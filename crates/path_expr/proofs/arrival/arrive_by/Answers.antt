use Rattle.std.proofs.Common.{sym}
use Rattle.path_expr.specs.PathExpr.{seq_of, star_of}
use Rattle.path_expr.specs.Operations.{join_operation}
use Rattle.path_expr.specs.Holds.{node_at}
use Rattle.path_expr.proofs.RunLemmas.{Makes-then, Makes-exit, Makes-as}
use Rattle.path_expr.proofs.HoldLemmas.{IsItemOrZero-kept, HoldsAll-item, HoldsAll-none}
use Rattle.path_expr.proofs.ArrivalLemmas.{arrival_operations-is, arrive-none}
use Rattle.path_expr.proofs.arrival.arrive_by.Goals as goal

pub returns-in_default : goal.returns-in_default
returns-in_default g c = record {
  made = λ source f w b h hw ht hb.
      arrive-none f c.args.n w c.args.p b c.args.before (HoldsAll-none h c.args.p c.args.n (sym c.in_default.ensures.value)) hb;
}

pub returns-in_err-path : goal.returns-in_err-path
returns-in_err-path g c = record {
  made = λ source f w b h hw ht hb.
      let step = HoldsAll-item h c.args.p c.args.n c.in-Some.step.now (sym c.in-Some.ensures.value) in
      Makes-as (arrival_operations-is f c.args.n w c.args.p b)
      (Makes-exit c.from_residual.result (join_operation b (seq_of (seq_of w (f c.args.p c.args.n)) (star_of (f c.args.n c.args.n)))) c.from_residual.ensures.1
      (c.in_err-path.ensures.made _ _ _ _ _ _ hw step ht).run);
}

pub join_both-requires : goal.join_both-requires
join_both-requires g c =
    let source = c.requires.0 in let f = c.requires.1 in let w = c.requires.2 in let b = c.requires.3 in
    let step = HoldsAll-item c.requires.4 c.args.p c.args.n c.in-Some.step.now (sym c.in-Some.ensures.value) in
    let m = c.in_ok-path.ensures.made _ _ _ _ _ _ c.requires.5 step c.requires.6 in (
      b,
      seq_of (seq_of w (f c.args.p c.args.n)) (star_of (f c.args.n c.args.n)),
      node_at source 0,
      node_at source c.args.n,
      IsItemOrZero-kept m.run.keeps b c.args.before (node_at source 0) (node_at source c.args.n) c.requires.7,
      m.good,
    )

pub returns : goal.returns
returns g c = record {
  made = λ source f w b h hw ht hb.
      let step = HoldsAll-item h c.args.p c.args.n c.in-Some.step.now (sym c.in-Some.ensures.value) in
      let m = c.in_ok-path.ensures.made _ _ _ _ _ _ hw step ht in
      let before = IsItemOrZero-kept m.run.keeps b c.args.before (node_at source 0) (node_at source c.args.n) hb in
      Makes-as (arrival_operations-is f c.args.n w c.args.p b) (Makes-then m.run
      (c.join_both.ensures.made b (seq_of (seq_of w (f c.args.p c.args.n)) (star_of (f c.args.n c.args.n))) (node_at source 0) (node_at source c.args.n) before m.good));
}
