use Rattle.std.proofs.Common.{sym, subst, arith}
use Rattle.std.proofs.lemmas.List.{take_all}
use Rattle.std.proofs.lemmas.List.Elements.{All-more, All-same}
use Rattle.linear_terms.specs.Polynomial.{Polynomial, IsCanonical}
use Rattle.farkas_check.proofs.kept.canonical_polys.Goals as goal

pub loop-poly-preserved : goal.loop-poly-preserved
loop-poly-preserved c =
    All-more (λ (p : Polynomial). IsCanonical p.terms) c.args.polys.now c.loop-poly.poly-index c.poly-item.result (omega arith) c.loop-poly.invariant
    (subst (λ (p : Polynomial). IsCanonical p.terms) c.poly-item.is (subst IsCanonical c.terms-terms.ensures.terms c.terms-terms.ensures.canonical))

pub returns : goal.returns
returns c = All-same (λ (p : Polynomial). IsCanonical p.terms) c.args.polys.now _ (sym (take_all c.loop-poly.poly-index c.args.polys.now (omega arith))) c.loop-poly.invariant
