use Rattle.std.proofs.Common.{◌≡◌, drop, ◌++◌, length, Ok}
use Rattle.std.specs.Prelude.{IsTrue, map}
use Rattle.items.specs.Gives.{◌>>=◌}
use Rattle.syntax_tree.specs.Term.{term_of}
use Rattle.syntax_tree.specs.WellFormed.{all_columns_below}
use Rattle.execution.specs.Chosen.{numbers_in}
use Rattle.execution.proofs.interpreter.values.Given as goal

abbrev pub invariant-loop-e : goal.invariant-loop-e
invariant-loop-e l = record {
  came : numbers_in (map term_of l.args) l.state ≡ (numbers_in (map term_of (drop l.e-index l.args)) l.state >>= λ vs. Ok (l.all ++ vs));
  below : IsTrue (all_columns_below (length l.state) (map term_of (drop l.e-index l.args)));
}
