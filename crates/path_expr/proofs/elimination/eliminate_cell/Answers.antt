use Rattle.std.proofs.Common.{◌∙◌, ap, sym, Some, None, cond, ◌&&◌, eqb, []}
use Rattle.std.proofs.lemmas.List.{append-nil}
use Rattle.path_expr.specs.PathExpr.{seq_of, join_of}
use Rattle.path_expr.specs.Operations.{join_operation}
use Rattle.path_expr.specs.Holds.{node_at}
use Rattle.path_expr.specs.Table.{cell}
use Rattle.path_expr.proofs.RunLemmas.{Runs-none, Runs-then, Runs-as, Makes-ok, Makes-exit, Makes-exit_memory, Makes-as}
use Rattle.path_expr.proofs.HoldLemmas.{HoldsAll-item, HoldsAll-none, HoldsAll-kept, HoldsAll-taken}
use Rattle.path_expr.proofs.SweepLemmas.{HoldsAll-written, HoldsAll-as, cond-twice, written-same, step-Zero, step_operations-Zero}
use Rattle.path_expr.proofs.elimination.eliminate_cell.Goals as goal

pub returns-in_default-clause-made : goal.returns-in_default-clause-made
returns-in_default-clause-made g c = λ source f w h k.
    let none = HoldsAll-none h c.args.n c.args.j (sym c.in_default.ensures.value) in
    Makes-ok tt (Runs-as (step_operations-Zero f w c.args.n c.args.i c.args.j none) (Runs-none c.args.algebra.now))
    (HoldsAll-as (written-same f c.args.i c.args.j (join_of (f c.args.i c.args.j) (seq_of w (f c.args.n c.args.j))) (step-Zero f w c.args.n c.args.i c.args.j none)) h)

pub returns-in_err-path-clause-made : goal.returns-in_err-path-clause-made
returns-in_err-path-clause-made g c = λ source f w h k.
    let out = HoldsAll-item h c.args.n c.args.j c.in-Some.out.now (sym c.in-Some.ensures.value) in
    Makes-exit c.from_residual.result (join_operation (f c.args.i c.args.j) (seq_of w (f c.args.n c.args.j))) c.from_residual.ensures.1
    (c.in_err-path.ensures.made w (f c.args.n c.args.j) (node_at source c.args.i) (node_at source c.args.n) (node_at source c.args.j) k out).run

pub join_onto-requires : goal.join_onto-requires
join_onto-requires g c =
    let source = c.requires.holds.0 in let f = c.requires.holds.1 in let w = c.requires.holds.2 in let h = c.requires.holds.3 in
    let out = HoldsAll-item h c.args.n c.args.j c.in-Some.out.now (sym c.in-Some.ensures.value) in
    let m = c.in_ok-path.ensures.made w (f c.args.n c.args.j) (node_at source c.args.i) (node_at source c.args.n) (node_at source c.args.j) c.requires.holds.4 out in (
      f c.args.i c.args.j,
      seq_of w (f c.args.n c.args.j),
      node_at source c.args.i,
      node_at source c.args.j,
      HoldsAll-taken (HoldsAll-kept m.run.keeps h) c.args.i c.args.j c.take-before.result c.take-before.ensures.value,
      m.good,
    )

pub returns-in_err-joined-clause-made : goal.returns-in_err-joined-clause-made
returns-in_err-joined-clause-made g c = λ source f w h k.
    let out = HoldsAll-item h c.args.n c.args.j c.in-Some.out.now (sym c.in-Some.ensures.value) in
    let m = c.in_ok-path.ensures.made w (f c.args.n c.args.j) (node_at source c.args.i) (node_at source c.args.n) (node_at source c.args.j) k out in
    let before = HoldsAll-taken (HoldsAll-kept m.run.keeps h) c.args.i c.args.j c.take-before.result c.take-before.ensures.value in
    let joins = c.in_err-joined.ensures.made (f c.args.i c.args.j) (seq_of w (f c.args.n c.args.j)) (node_at source c.args.i) (node_at source c.args.j) before m.good in
    Makes-as (append-nil _) (Makes-exit c.from_residual-in_err-joined.result [] c.from_residual-in_err-joined.ensures.1 (Runs-then m.run joins.run))

pub returns-in_err-put-clause-made : goal.returns-in_err-put-clause-made
returns-in_err-put-clause-made g c = λ source f w h k.
    let out = HoldsAll-item h c.args.n c.args.j c.in-Some.out.now (sym c.in-Some.ensures.value) in
    let m = c.in_ok-path.ensures.made w (f c.args.n c.args.j) (node_at source c.args.i) (node_at source c.args.n) (node_at source c.args.j) k out in
    let before = HoldsAll-taken (HoldsAll-kept m.run.keeps h) c.args.i c.args.j c.take-before.result c.take-before.ensures.value in
    let joins = c.in_ok-joined.ensures.made (f c.args.i c.args.j) (seq_of w (f c.args.n c.args.j)) (node_at source c.args.i) (node_at source c.args.j) before m.good in
    Makes-as (append-nil _) (Makes-exit_memory c.from_residual-in_err-put.result [] c.from_residual-in_err-put.ensures.1 (Runs-then m.run joins.run))

pub returns-clause-made : goal.returns-clause-made
returns-clause-made g c = λ source f w h k.
    let out = HoldsAll-item h c.args.n c.args.j c.in-Some.out.now (sym c.in-Some.ensures.value) in
    let m = c.in_ok-path.ensures.made w (f c.args.n c.args.j) (node_at source c.args.i) (node_at source c.args.n) (node_at source c.args.j) k out in
    let before = HoldsAll-taken (HoldsAll-kept m.run.keeps h) c.args.i c.args.j c.take-before.result c.take-before.ensures.value in
    let joins = c.in_ok-joined.ensures.made (f c.args.i c.args.j) (seq_of w (f c.args.n c.args.j)) (node_at source c.args.i) (node_at source c.args.j) before m.good in
    Makes-ok tt (Runs-then m.run joins.run)
    (HoldsAll-written c.put.new.self c.args.i c.args.j (join_of (f c.args.i c.args.j) (seq_of w (f c.args.n c.args.j))) (Some c.in_ok-joined.joined)
    (HoldsAll-kept joins.run.keeps (HoldsAll-kept m.run.keeps h)) joins.good
    (λ a b. c.in_ok-put.ensures.others a b ∙ (ap (cond (eqb a c.args.i && eqb b c.args.j) (Some c.in_ok-joined.joined)) (c.take-before.ensures.others a b)
    ∙ cond-twice (eqb a c.args.i && eqb b c.args.j) (Some c.in_ok-joined.joined) None (cell c.args.table.now a b))))
