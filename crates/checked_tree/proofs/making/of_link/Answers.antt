use Rattle.std.proofs.Common.{◌≡◌, sym, subst, ap, ◌∙◌}
use Rattle.path_expr.specs.declared.link.Link.{Link}
use Rattle.posing.proofs.Steps.{in_other_words}
use Rattle.transition_formula.specs.Transition.{Transition, AreSolvable}
use Rattle.polyhedra.specs.Laws.{HaveCanonicalRows}
use Rattle.checked_tree.specs.declared.step.TreeStep.{TreeStep}
use Rattle.checked_tree.specs.Graph.{Graph, link_at, vocabulary_at}
use Rattle.checked_tree.specs.Evaluation.{leaf_formula}
use Rattle.checked_tree.specs.Law.{IsEnd, IsFrom}
use Rattle.checked_tree.specs.Tree.{Leaf, own_of, tree_of}
use Rattle.checked_tree.specs.Growing.{graph_in, IsLeafOf}
use Rattle.checked_tree.proofs.LogGains.{if_all}
use Rattle.checked_tree.proofs.making.of_link.Goals as goal

pub leaf-requires-clause-between : goal.leaf-requires-clause-between
leaf-requires-clause-between g c =
    let graph : Graph = graph_in c.args.graph in
    let start = c.vocabulary_at-start.ensures ∙ ap (λ (l : Link). vocabulary_at graph l.from) c.link_at-link.ensures in
    let end = c.vocabulary_at-end.ensures ∙ ap (λ (l : Link). vocabulary_at graph l.to) c.link_at-link.ensures in
    subst (λ v. IsFrom v c.vocabulary_at-end.result.now.value c.leaf_at-given.result.now) (sym start)
    (subst (λ v. IsFrom (vocabulary_at graph (link_at graph c.args.number).from) v c.leaf_at-given.result.now) (sym end)
    (subst (IsFrom (vocabulary_at graph (link_at graph c.args.number).from) (vocabulary_at graph (link_at graph c.args.number).to)) (sym c.leaf_at-given.ensures) c.requires.due.leaf.between))

pub leaf-requires-clause-start : goal.leaf-requires-clause-start
leaf-requires-clause-start g c =
    let graph : Graph = graph_in c.args.graph in
    subst IsEnd (sym (c.vocabulary_at-start.ensures ∙ ap (λ (l : Link). vocabulary_at graph l.from) c.link_at-link.ensures)) c.requires.due.start

pub leaf-requires-clause-end : goal.leaf-requires-clause-end
leaf-requires-clause-end g c =
    let graph : Graph = graph_in c.args.graph in
    subst IsEnd (sym (c.vocabulary_at-end.ensures ∙ ap (λ (l : Link). vocabulary_at graph l.to) c.link_at-link.ensures)) c.requires.due.end

pub leaf-requires-clause-solvable : goal.leaf-requires-clause-solvable
leaf-requires-clause-solvable g c = subst (λ (f : Transition). AreSolvable f.cases) (sym c.leaf_at-given.ensures) c.requires.due.leaf.solvable

pub leaf-requires-clause-canonical : goal.leaf-requires-clause-canonical
leaf-requires-clause-canonical g c = subst (λ (f : Transition). HaveCanonicalRows f.cases) (sym c.leaf_at-given.ensures) c.requires.canonical

pub returns-clause-follows : goal.returns-clause-follows
returns-clause-follows g c =
    let graph : Graph = graph_in c.args.graph in
    let start = c.vocabulary_at-start.ensures ∙ ap (λ (l : Link). vocabulary_at graph l.from) c.link_at-link.ensures in
    let end = c.vocabulary_at-end.ensures ∙ ap (λ (l : Link). vocabulary_at graph l.to) c.link_at-link.ensures in
    in_other_words (λ i. leaf_formula (c.leaf_at-given.ensures i) (start i) (end i)) c.leaf.ensures.follows

pub returns-clause-of_leaf : goal.returns-clause-of_leaf
returns-clause-of_leaf g c =
    let graph : Graph = graph_in c.args.graph in
    let start = c.vocabulary_at-start.ensures ∙ ap (λ (l : Link). vocabulary_at graph l.from) c.link_at-link.ensures in
    let end = c.vocabulary_at-end.ensures ∙ ap (λ (l : Link). vocabulary_at graph l.to) c.link_at-link.ensures in
    if_all c.leaf.result
    (λ (step : TreeStep). tree_of step ≡ Leaf c.args.number c.leaf_at-given.result.now (own_of (tree_of step)))
    (λ (step : TreeStep). (own_of (tree_of step)).from ≡ c.vocabulary_at-start.result.now.value)
    (λ (step : TreeStep). (own_of (tree_of step)).to ≡ c.vocabulary_at-end.result.now.value)
    (λ (step : TreeStep). IsLeafOf graph c.args.number (tree_of step))
    c.leaf.ensures.is c.leaf.ensures.from_is c.leaf.ensures.to_is
    (λ step is from to. record {
      is = is ∙ (λ i. Leaf c.args.number (c.leaf_at-given.ensures i) (own_of (tree_of step)));
      from_is = from ∙ start;
      to_is = to ∙ end;
    })
