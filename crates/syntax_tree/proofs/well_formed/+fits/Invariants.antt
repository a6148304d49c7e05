use Rattle.std.proofs.Common.{◌≡◌, drop}
use Rattle.syntax_tree.specs.Code.{code_of}
use Rattle.syntax_tree.specs.WellFormed.{code_fits}
use Rattle.syntax_tree.proofs.well_formed.+fits.Given as goal

abbrev pub invariant-code_fits-loop-stmt : goal.invariant-code_fits-loop-stmt
invariant-code_fits-loop-stmt l = code_fits l.program l.width l.place (code_of l.stmts) ≡ code_fits l.program l.width l.place (code_of (drop l.stmt-index l.stmts))
