use Rattle.std.proofs.Common.{◌≡◌, ◌++◌, ◌∷◌, [], drop}
use Rattle.linear_terms.specs.Operations.{add_row, parts}
use Rattle.linear_terms.proofs.multiply.add_row.Given as goal

abbrev pub invariant-loop-mono : goal.invariant-loop-mono
invariant-loop-mono l =
    add_row l.columns l.number (drop l.mono-index l.mono-items ++ ([], l.b.rest) ∷ []) l.total ≡ add_row l.columns l.number (parts l.b) l.fn.total
