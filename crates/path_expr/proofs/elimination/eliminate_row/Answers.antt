use Rattle.std.proofs.Common.{sym}
use Rattle.path_expr.specs.PathExpr.{seq_of, star_of}
use Rattle.path_expr.specs.Operations.{below}
use Rattle.path_expr.specs.Sweeps.{step_operations}
use Rattle.path_expr.specs.Holds.{node_at}
use Rattle.path_expr.proofs.RunLemmas.{Runs-as, Runs-none, Makes-ok, Makes-as, Makes-exit, Makes-then}
use Rattle.path_expr.proofs.HoldLemmas.{HoldsAll-kept, HoldsAll-item, HoldsAll-none}
use Rattle.path_expr.proofs.SweepLemmas.{HoldsAll-as, row_operations-is, row_operations-Zero, swept-Zero}
use Rattle.path_expr.proofs.elimination.eliminate_row.Goals as goal

pub returns-in_default-clause-made : goal.returns-in_default-clause-made
returns-in_default-clause-made g c = λ source f h k.
    let none = HoldsAll-none h c.args.i c.args.n (sym c.in_default.ensures.value) in
    Makes-ok tt (Runs-as (row_operations-Zero f c.args.n c.args.i none) (Runs-none c.args.algebra.now))
    (HoldsAll-as (swept-Zero f c.args.n c.args.i none) h)

pub returns-in_err-way-clause-made : goal.returns-in_err-way-clause-made
returns-in_err-way-clause-made g c = λ source f h k.
    let into = HoldsAll-item h c.args.i c.args.n c.in-Some.into.now (sym c.in-Some.ensures.value) in
    Makes-as (row_operations-is f c.args.n c.args.i)
    (Makes-exit c.from_residual.result (below (step_operations f (seq_of (f c.args.i c.args.n) (star_of (f c.args.n c.args.n))) c.args.n c.args.i) c.args.n) c.from_residual.ensures.1
    (c.in_err-way.ensures.made (f c.args.i c.args.n) (star_of (f c.args.n c.args.n)) (node_at source c.args.i) (node_at source c.args.n) into k).run)

pub eliminate_cells-requires-clause-holds : goal.eliminate_cells-requires-clause-holds
eliminate_cells-requires-clause-holds g c =
    let source = c.requires.holds.0 in let f = c.requires.holds.1 in let h = c.requires.holds.2 in
    let into = HoldsAll-item h c.args.i c.args.n c.in-Some.into.now (sym c.in-Some.ensures.value) in
    let m = c.in_ok-way.ensures.made (f c.args.i c.args.n) (star_of (f c.args.n c.args.n)) (node_at source c.args.i) (node_at source c.args.n) into c.requires.holds.3 in
    (source, f, seq_of (f c.args.i c.args.n) (star_of (f c.args.n c.args.n)), HoldsAll-kept m.run.keeps h, m.good)

pub returns-clause-made : goal.returns-clause-made
returns-clause-made g c = λ source f h k.
    let into = HoldsAll-item h c.args.i c.args.n c.in-Some.into.now (sym c.in-Some.ensures.value) in
    let m = c.in_ok-way.ensures.made (f c.args.i c.args.n) (star_of (f c.args.n c.args.n)) (node_at source c.args.i) (node_at source c.args.n) into k in
    Makes-as (row_operations-is f c.args.n c.args.i)
    (Makes-then m.run (c.eliminate_cells.ensures.made source f (seq_of (f c.args.i c.args.n) (star_of (f c.args.n c.args.n))) (HoldsAll-kept m.run.keeps h) m.good))
