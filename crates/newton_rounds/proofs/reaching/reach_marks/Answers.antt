use Rattle.std.proofs.Common.{◌<◌, subst, sym}
use Rattle.std.proofs.lemmas.List.Elements.{recursion_from_All}
use Rattle.path_expr.specs.declared.link.Link.{Link}
use Rattle.newton_rounds.specs.Reached.{IsMarked, TellsReached, count_unmarked}
use Rattle.newton_rounds.proofs.Marks.{begun, goes-on, told, links-fewer}
use Rattle.newton_rounds.proofs.reaching.reach_marks.Goals as goal

pub loop-init : goal.loop-init
loop-init c = record {
  marked =
      subst (IsMarked c.args.nodes c.args.links.now c.args.starts.now) (sym c.in_ok-marks.ensures)
      (begun c.args.links.now c.args.starts.now c.args.nodes (recursion_from_All (λ n. n < c.args.nodes) c.args.starts.now c.requires.starts));
}

pub loop-smaller : goal.loop-smaller
loop-smaller c =
    subst (λ ms. count_unmarked ms < count_unmarked c.loop.marks.items) (sym c.spread.ensures.marks)
    (links-fewer c.args.nodes c.loop.marks.items c.args.links.now c.loop.invariant.marked.long
    (recursion_from_All (λ (link : Link). (link.from < c.args.nodes) × (link.to < c.args.nodes)) c.args.links.now c.requires.graph) (sym c.loop-test.ensures.grows))

pub loop-preserved : goal.loop-preserved
loop-preserved c = record {
  marked =
      goes-on c.args.links.now c.args.starts.now c.args.nodes c.loop.marks.items c.spread.new.marks.items
      (recursion_from_All (λ (link : Link). (link.from < c.args.nodes) × (link.to < c.args.nodes)) c.args.links.now c.requires.graph) c.loop.invariant.marked c.spread.ensures.marks;
}

pub returns : goal.returns
returns c =
    subst (TellsReached c.args.nodes c.args.links.now c.args.starts.now) (sym c.from_vec.ensures)
    (told c.args.links.now c.args.starts.now c.args.nodes c.loop.marks.items c.spread.new.marks.items c.loop.invariant.marked c.spread.ensures.marks (sym c.loop-test.ensures.grows))
