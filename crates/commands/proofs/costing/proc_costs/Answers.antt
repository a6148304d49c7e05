use Rattle.std.proofs.Common.{List, refl, sym, subst, length, rules}
use Rattle.std.proofs.lemmas.Option.{slice_get_read}
use Rattle.cost_bounds.specs.declared.cost.Cost.{Cost}
use Rattle.report.specs.declared.blocks.ProcBlock.{ProcBlock}
use Rattle.commands.specs.Cost.{AreCostsOf}
use Rattle.commands.specs.Posts.{HavePost}
use Rattle.commands.proofs.Pairs.{AreSoFar, so-far-all, so-far-next, so-far-none}
use Rattle.commands.proofs.costing.proc_costs.Goals as goal

pub loop-block-init : goal.loop-block-init
loop-block-init c =
    let belongs = λ (block : ProcBlock) (made : List Cost). AreCostsOf c.args.number block.formula.cases made in
    subst (AreSoFar belongs c.args.blocks.now 0) (sym c.new-costs.ensures) (so-far-none belongs c.args.blocks.now)

pub case_costs-requires : goal.case_costs-requires
case_costs-requires c =
    let lt = c.loop-block-test.true in
    subst (HavePost c.args.number) (sym c.cases.ensures.cases)
    (c.requires.each c.loop-block.block-index c.block-item.result (slice_get_read c.args.blocks.now (length c.args.blocks.now) c.loop-block.block-index c.block-item.result refl lt c.block-item.is))

pub loop-block-preserved : goal.loop-block-preserved
loop-block-preserved c =
    let belongs = λ (block : ProcBlock) (made : List Cost). AreCostsOf c.args.number block.formula.cases made in
    let lt = c.loop-block-test.true in
    so-far-next belongs c.args.blocks.now c.loop-block.block-index c.loop-block.costs c.block-item.result c.in_ok-made.made c.push.new.self c.loop-block.invariant
    (slice_get_read c.args.blocks.now (length c.args.blocks.now) c.loop-block.block-index c.block-item.result refl lt c.block-item.is)
    (subst (λ cases. AreCostsOf c.args.number cases c.in_ok-made.made) c.cases.ensures.cases c.in_ok-made.ensures) c.in_ok-push.ensures.ok

pub returns : goal.returns
returns c =
    so-far-all (λ (block : ProcBlock) (made : List Cost). AreCostsOf c.args.number block.formula.cases made) c.args.blocks.now c.loop-block.block-index c.loop-block.costs c.loop-block.invariant (search rules)
