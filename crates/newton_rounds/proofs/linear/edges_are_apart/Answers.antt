use Rattle.std.proofs.Common.{◌↔◌, ◌∙◌, IsTrue, map, subst, sym}
use Rattle.flow_graph.specs.Plain.{arc_of}
use Rattle.newton_rounds.specs.Members.{AreApart}
use Rattle.newton_rounds.specs.Reached.{TellsReached}
use Rattle.newton_rounds.proofs.LinearGroups.{told_apart, links_within, ends_within}
use Rattle.newton_rounds.proofs.linear.edges_are_apart.Goals as goal

pub reach_marks-requires-clause-graph : goal.reach_marks-requires-clause-graph
reach_marks-requires-clause-graph c =
    links_within c.args.nodes c.args.edges.now c.as_slice.result.now (c.as_slice.ensures ∙ c.in_ok-links.ensures) c.requires

pub reach_marks-requires-clause-starts : goal.reach_marks-requires-clause-starts
reach_marks-requires-clause-starts c =
    ends_within c.args.nodes c.args.procs.now c.args.edges.now c.as_slice-2.result.now (c.as_slice-2.ensures ∙ c.in_ok-ends.ensures) c.requires

pub returns : goal.returns
returns c =
    subst (λ b. IsTrue b ↔ AreApart c.args.procs.now (map arc_of c.args.edges.now)) (sym c.no_call_begins.ensures)
    (told_apart c.args.procs.now (map arc_of c.args.edges.now) c.as_slice.result.now c.as_slice-2.result.now c.as_slice-3.result.now c.args.nodes
    (c.as_slice.ensures ∙ c.in_ok-links.ensures) (c.as_slice-2.ensures ∙ c.in_ok-ends.ensures)
    (subst (TellsReached c.args.nodes c.as_slice.result.now c.as_slice-2.result.now) (sym c.as_slice-3.ensures) c.in_ok-marks.ensures))
