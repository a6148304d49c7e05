use Rattle.std.proofs.Common.{◌≡◌, drop}
use Rattle.std.specs.Prelude.{map}
use Rattle.syntax_tree.specs.Term.{term_of}
use Rattle.syntax_tree.specs.WellFormed.{all_columns_below}
use Rattle.syntax_tree.proofs.measure.all_columns_below.Given as goal

abbrev pub invariant-loop-e : goal.invariant-loop-e
invariant-loop-e l = all_columns_below l.width (map term_of l.args) ≡ all_columns_below l.width (map term_of (drop l.e-index l.args))
