use Rattle.std.proofs.Common.{arith}
use Rattle.path_expr.specs.PathExpr.{Edge}
use Rattle.checked_tree.specs.declared.key.Key.TheVariants as key
use Rattle.checked_tree.proofs.NumberedKeys.{path-kept, paths-made, edge-path}
use Rattle.checked_tree.proofs.plan.EliminationPlanAlgebra.edge.Goals as goal

pub returns-clause-keeps : goal.returns-clause-keeps
returns-clause-keeps c = record {
  paths = λ path item h. path-kept c.args.self.now.keys.keys c.note.new.self.keys.keys c.args.self.now.order c.note.new.self.order (key.Edge c.args.number) c.note.result c.note.ensures.noted c.note.ensures.keys path item h;
  nodes = λ item from to h. h;
  numbers = λ number from to h. h;
  later = omega arith;
}

pub returns-clause-made : goal.returns-clause-made
returns-clause-made c done h =
    paths-made c.args.self.now.keys.keys c.note.new.self.keys.keys c.args.self.now.order c.note.new.self.order (key.Edge c.args.number) c.note.result c.note.ensures.noted (Edge c.args.number)
    (edge-path c.args.self.now.keys.keys c.note.new.self.keys.keys c.args.self.now.order c.note.new.self.order c.args.number c.note.result c.note.ensures.noted) done h
