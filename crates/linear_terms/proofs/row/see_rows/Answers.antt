use Rattle.std.proofs.Common.{sym, subst, arith}
use Rattle.std.proofs.lemmas.List.{take_all}
use Rattle.std.proofs.lemmas.List.Elements.{All-more, All-same}
use Rattle.linear_terms.specs.declared.row.Row.{Row}
use Rattle.linear_terms.specs.Polynomial.{IsCanonical}
use Rattle.linear_terms.proofs.row.see_rows.Goals as goal

pub loop-row-preserved : goal.loop-row-preserved
loop-row-preserved c =
    All-more (λ (row : Row). IsCanonical row.poly.terms) c.args.rows.now c.loop-row.row-index c.row-item.result (omega arith) c.loop-row.invariant
    (subst (λ (row : Row). IsCanonical row.poly.terms) c.row-item.is (subst IsCanonical c.terms.ensures.terms c.terms.ensures.canonical))

pub returns : goal.returns
returns c = All-same (λ (row : Row). IsCanonical row.poly.terms) c.args.rows.now _ (sym (take_all c.loop-row.row-index c.args.rows.now (omega arith))) c.loop-row.invariant
