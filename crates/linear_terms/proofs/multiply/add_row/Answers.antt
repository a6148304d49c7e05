use Rattle.std.proofs.Common.{[], ◌∷◌, sym, ◌∙◌, arith}
use Rattle.linear_terms.proofs.Steps.{add_row-next}
use Rattle.linear_terms.proofs.multiply.add_row.Goals as goal

pub loop-mono-preserved : goal.loop-mono-preserved
loop-mono-preserved c =
    sym (add_row-next c.args.columns.now c.args.number.now c.as_slice-mono-items.result.now (([], c.args.b.now.rest) ∷ []) c.loop-mono.mono-index c.loop-mono-item.result c.loop-mono.total c.add_product.new.self
    (omega arith) c.loop-mono-item.is (rw c.columns.ensures.columns at c.in_ok-add_product.ensures.ok))
    ∙ c.loop-mono.invariant
