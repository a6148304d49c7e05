use Rattle.std.proofs.Common.{sym}
use Rattle.path_expr.specs.Holds.{node_at}
use Rattle.path_expr.proofs.HoldLemmas.{HoldsAll-item}
use Rattle.path_expr.proofs.elimination.turns.Goals as goal

pub returns-in-Ok : goal.returns-in-Ok
returns-in-Ok g c = record {
  made = λ source f h.
      let m = c.in-Ok.ensures.made (f c.args.n c.args.n) (node_at source c.args.n)
      (HoldsAll-item h c.args.n c.args.n c.in-Some.cell.now (sym c.in-Some.ensures.value)) in
      record { run = m.run; good = m.good };
}
