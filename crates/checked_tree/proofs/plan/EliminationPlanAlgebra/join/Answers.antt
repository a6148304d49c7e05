use Rattle.std.proofs.Common.{arith}
use Rattle.path_expr.specs.PathExpr.{Join}
use Rattle.checked_tree.specs.declared.key.Key.TheVariants as key
use Rattle.checked_tree.proofs.NumberedKeys.{path-kept, paths-made, join-path}
use Rattle.checked_tree.proofs.plan.EliminationPlanAlgebra.join.Goals as goal

pub returns-clause-keeps : goal.returns-clause-keeps
returns-clause-keeps c = record {
  paths = λ path item h. path-kept c.args.self.now.keys.keys c.note.new.self.keys.keys c.args.self.now.order c.note.new.self.order (key.Join c.args.left.now c.args.right.now) c.note.result c.note.ensures.noted c.note.ensures.keys path item h;
  nodes = λ item from to h. h;
  numbers = λ number from to h. h;
  later = omega arith;
}

pub returns-clause-fits : goal.returns-clause-fits
returns-clause-fits c p q h k = join-path c.args.self.now.keys.keys c.note.new.self.keys.keys c.args.self.now.order c.note.new.self.order c.args.left.now c.args.right.now c.note.result c.note.ensures.noted p q h k

pub returns-clause-made : goal.returns-clause-made
returns-clause-made c p q done h k before =
    paths-made c.args.self.now.keys.keys c.note.new.self.keys.keys c.args.self.now.order c.note.new.self.order (key.Join c.args.left.now c.args.right.now) c.note.result c.note.ensures.noted (Join p q)
    (join-path c.args.self.now.keys.keys c.note.new.self.keys.keys c.args.self.now.order c.note.new.self.order c.args.left.now c.args.right.now c.note.result c.note.ensures.noted p q h k) done before
