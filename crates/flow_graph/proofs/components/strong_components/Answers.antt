use Rattle.std.proofs.Common.{◌≡◌, ℕ, List, map, ap, sym, subst, ◌∙◌}
use Rattle.flow_graph.specs.Search.{state_of, group_in}
use Rattle.flow_graph.specs.Components.{AreComponents}
use Rattle.flow_graph.proofs.Searching.{are_components}
use Rattle.flow_graph.proofs.components.strong_components.Goals as goal

pub returns : goal.returns
returns c =
    let s = state_of c.in_ok-search.search in
    let is : c.in_ok-group_of.group_of ≡ map group_in s.marks = c.in_ok-group_of.ensures ∙ ap (map group_in) c.deref.ensures.value in
    subst (λ (xs : List ℕ). AreComponents c.args.calls.now xs s.groups) (sym is)
    (are_components c.args.calls.now s c.in_ok-search.ensures c.requires.numbers)
