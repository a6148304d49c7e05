-- Calls one after the other.
use Rattle.std.proofs.Common.{ℕ, ◌<◌, List, [], ◌∷◌, ◌++◌, length}
use Rattle.syntax_tree.specs.declared.program.Program.{Program}
use Rattle.flow_graph.specs.Groups.{CallsOver}

module _ (program : Program) where
  pub reaches_join : (p k : ℕ) (path : List ℕ) (q : ℕ) (more : List ℕ) → CallsOver program p path k → CallsOver program k more q → CallsOver program p (path ++ k ∷ more) q
  reaches_join p k [] q more one other = (one, other)
  reaches_join p k (next ∷ path) q more one other = (one.0, reaches_join next k path q more one.1 other)

  pub target_within : (p : ℕ) (path : List ℕ) (q : ℕ) → CallsOver program p path q → q < length program.procs
  target_within p [] q calls = calls.1
  target_within p (next ∷ path) q calls = target_within next path q calls.1
