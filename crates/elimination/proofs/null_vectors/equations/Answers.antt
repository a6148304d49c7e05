use Rattle.std.proofs.Common.{◌≡◌, ◌++◌, ◌∷◌, ◌∙◌, [], ap, rules, List, ℤ}
use Rattle.linear_terms.specs.declared.row.Row.{Row}
use Rattle.elimination.specs.Equations.{equation_of}
use Rattle.simplex.proofs.Behind.{mapped-next}
use Rattle.elimination.proofs.null_vectors.equations.Goals as goal

pub loop-line-preserved : goal.loop-line-preserved
loop-line-preserved c =
    let f : List ℤ → Row = equation_of in
    let x = c.line-item.result in
    let more : c.push.new.self ≡ c.loop-line.rows ++ f x ∷ [] = search rules in
    mapped-next f c.args.lines.now c.loop-line.rows c.push.new.self c.loop-line.line-index x c.loop-line-test.true c.loop-line.invariant (more ∙ ap (λ y. c.loop-line.rows ++ f y ∷ []) c.line-item.is)
