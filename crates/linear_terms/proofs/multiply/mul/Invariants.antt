use Rattle.std.proofs.Common.{◌≡◌, ◌++◌, ◌∷◌, [], drop}
use Rattle.linear_terms.specs.Operations.{add_rows, parts, product_of_polys}
use Rattle.linear_terms.proofs.multiply.mul.Given as goal

abbrev pub invariant-loop-mono : goal.invariant-loop-mono
invariant-loop-mono l = add_rows (drop l.mono-index l.mono-items ++ ([], l.a.rest) ∷ []) (parts l.b) l.total ≡ product_of_polys l.a l.b
