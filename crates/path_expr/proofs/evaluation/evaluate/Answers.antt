use Rattle.std.proofs.Common.{◌++◌}
use Rattle.path_expr.specs.Elimination.{last_table}
use Rattle.path_expr.proofs.RunLemmas.{Runs-then, Makes-then, Makes-exit, Makes-exit_memory, Makes-as}
use Rattle.path_expr.proofs.ReachLemmas.{first_part, elimination_part, way_part, operations-one, operations-two, operations-three}
use Rattle.path_expr.proofs.evaluation.evaluate.Goals as goal

pub returns-in_err-items-clause-made : goal.returns-in_err-items-clause-made
returns-in_err-items-clause-made g c = let n = c.args.nodes in let l = c.args.links.now in let s = c.args.source in
    Makes-as (operations-one n l s)
    (Makes-exit c.from_residual.result (first_part n l s ++ (elimination_part n l s ++ way_part n l s)) c.from_residual.ensures.1 c.in_err-items.ensures.made.run)

pub returns-in_err-table-clause-made : goal.returns-in_err-table-clause-made
returns-in_err-table-clause-made g c = let n = c.args.nodes in let l = c.args.links.now in let s = c.args.source in
    Makes-as (operations-two n l s)
    (Makes-exit c.from_residual-in_err-table.result (elimination_part n l s ++ way_part n l s) c.from_residual-in_err-table.ensures.1
    (Runs-then c.in_ok-items.ensures.made.run c.in_err-table.ensures.made.run))

pub returns-in_err-stars-clause-made : goal.returns-in_err-stars-clause-made
returns-in_err-stars-clause-made g c = let n = c.args.nodes in let l = c.args.links.now in let s = c.args.source in
    Makes-as (operations-two n l s)
    (Makes-exit_memory c.from_residual-in_err-stars.result (elimination_part n l s ++ way_part n l s) c.from_residual-in_err-stars.ensures.1
    (Runs-then c.in_ok-items.ensures.made.run c.in_ok-table.ensures.made.run))

pub returns-in_err-eliminate_all-clause-made : goal.returns-in_err-eliminate_all-clause-made
returns-in_err-eliminate_all-clause-made g c = let n = c.args.nodes in let l = c.args.links.now in let s = c.args.source in
    Makes-as (operations-three n l s)
    (Makes-exit c.from_residual-in_err-eliminate_all.result (way_part n l s) c.from_residual-in_err-eliminate_all.ensures.1
    (Runs-then (Runs-then c.in_ok-items.ensures.made.run c.in_ok-table.ensures.made.run)
    (c.in_err-eliminate_all.ensures.made c.args.source c.args.links.now c.in_ok-table.ensures.made.good).run))

pub returns-clause-made : goal.returns-clause-made
returns-clause-made g c = let n = c.args.nodes in let l = c.args.links.now in let s = c.args.source in
    let m = c.in_ok-eliminate_all.ensures.made c.args.source c.args.links.now c.in_ok-table.ensures.made.good in
    Makes-as (operations-three n l s)
    (Makes-then (Runs-then (Runs-then c.in_ok-items.ensures.made.run c.in_ok-table.ensures.made.run) m.run)
    (c.find_ways.ensures.made c.args.source (last_table c.args.nodes c.args.links.now c.args.source) m.good.0 m.good.1))
