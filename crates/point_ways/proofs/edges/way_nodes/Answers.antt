use Rattle.std.proofs.Common.{◌≡◌, ◌+◌, ℕ, List, length, replicate, ap, subst, ◌∙◌}
use Rattle.std.specs.Prelude.{IfOk}
use Rattle.flow_graph.specs.Plain.{plain}
use Rattle.vocabularies.specs.Ends.{full_of}
use Rattle.point_induction.specs.Points.{heads_of}
use Rattle.point_ways.proofs.edges.way_nodes.Goals as goal

pub heads-requires : goal.heads-requires
heads-requires c = c.requires.graph.edges

pub returns : goal.returns
returns c = λ p is.
    let heads : c.len.result ≡ length (heads_of (plain c.args.own.graph.now)) = c.len.ensures ∙ ap (λ (hs : List ℕ). length hs) c.in_ok-heads.ensures in
    subst (λ (count : ℕ). IfOk c.full_vocabularies.result (λ made. made ≡ replicate count (full_of c.args.own.program.now p)))
    (λ i. c.args.own.graph.now.nodes + heads i) (c.full_vocabularies.ensures p is)
