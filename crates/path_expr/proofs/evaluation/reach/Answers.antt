use Rattle.std.proofs.Common.{◌<◌, length, arith, ◌∙◌, ap}
use Rattle.std.specs.List.{insert}
use Rattle.path_expr.proofs.ReachLemmas.{AreCells-moved}
use Rattle.path_expr.proofs.evaluation.reach.Goals as goal

pub returns-clause-cells : goal.returns-clause-cells
returns-clause-cells g c =
    let len = c.in_ok-cells.ensures.length in
    let lt : c.args.source < length c.in_ok-cells.cells.items = omega (arith, len, c.requires.source) in
    AreCells-moved c.args.nodes c.args.links.now c.args.source c.insert.new.self.items c.remove-first.result lt c.remove-first.ensures.value
    (c.in_ok-insert.ensures.items ∙ ap (λ xs. insert xs c.args.source c.remove-first.result) c.remove-first.ensures.items)
    c.in_ok-cells.ensures.made.good
