use Rattle.std.proofs.Common.{◌≡◌, ◌∙◌, [], ap, sym, subst}
use Rattle.std.specs.Option.{unwrap_or}
use Rattle.path_expr.specs.PathExpr.{Zero}
use Rattle.path_expr.specs.Elimination.{path_through}
use Rattle.path_expr.specs.Operations.{join_operations}
use Rattle.path_expr.specs.Holds.{IsItemOrZero, node_at}
use Rattle.path_expr.specs.Numbers.{numbers_at, path_through_at, HaveItems}
use Rattle.path_expr.proofs.RunLemmas.{Makes-as, Makes-ok}
use Rattle.path_expr.proofs.HoldLemmas.{HoldsAll-kept}
use Rattle.path_expr.proofs.SweepLemmas.{HoldsAll-as, written-same}
use Rattle.path_expr.proofs.beginning.begin_cell.Goals as goal

pub returns-in_default-first-clause-made : goal.returns-in_default-first-clause-made
returns-in_default-first-clause-made g c = λ source f items h holds_no.
    let numbers : c.as_slice.result.now ≡ numbers_at c.args.numbers.now c.args.i c.args.j = c.as_slice.ensures ∙ ap (λ o. unwrap_or o []) c.in-Some.ensures.value in
    let have = subst (λ ns. HaveItems g.A.Algebra.fits g.A.Algebra.spans c.args.algebra.now c.args.items.now ns (node_at source c.args.i) (node_at source c.args.j)) (sym numbers) (items.at c.args.i c.args.j) in
    let m = c.in_ok-first.ensures.made (node_at source c.args.i) (node_at source c.args.j) have in
    let none = subst (λ o. IsItemOrZero g.A.Algebra.fits g.A.Algebra.spans c.first_cell.new.algebra (path_through Zero c.as_slice.result.now) o (node_at source c.args.i) (node_at source c.args.j)) c.in_default-first.is m.good in
    Makes-as (ap (join_operations Zero) numbers) (Makes-ok tt m.run
    (HoldsAll-as (written-same f c.args.i c.args.j (path_through_at c.args.numbers.now c.args.i c.args.j) (sym (ap (path_through Zero) numbers) ∙ (none ∙ sym holds_no)))
    (HoldsAll-kept m.run.keeps h)))
