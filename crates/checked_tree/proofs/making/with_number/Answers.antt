use Rattle.std.proofs.Common.{subst, sym, ◌≡◌, ◌∙◌, List, [], refl, ap, Some}
use Rattle.std.specs.Prelude.{slice_set}
use Rattle.path_expr.specs.declared.link.Link.{Link}
use Rattle.posing.proofs.Steps.{value_first, at_end}
use Rattle.checked_tree.specs.declared.growth.Growth.{Growth}
use Rattle.checked_tree.specs.declared.key.Key.{Key}
use Rattle.checked_tree.specs.declared.key.Key.TheVariants as key
use Rattle.checked_tree.specs.Graph.{Graph, bare_links}
use Rattle.checked_tree.specs.ByNumber.{Entries, ends_by, formula_by, key_at, with_number}
use Rattle.checked_tree.specs.Tree.{formula_of, tree_of}
use Rattle.checked_tree.specs.Growing.{graph_in, entries_in, IsGrowable, IsTreeBy}
use Rattle.checked_tree.proofs.Growths.{entries-set}
use Rattle.checked_tree.proofs.LogGains.{first_fails}
use Rattle.checked_tree.proofs.making.with_number.Goals as goal

-- the nodes of a key's path are those of the links alone
ends-by-links : (g : Graph) (entries : Entries) (k : Key) → ends_by (bare_links g.links []) entries k ≡ ends_by g entries k
ends-by-links g entries (key.Edge number) = refl
ends-by-links g entries (key.Seq i j) = refl
ends-by-links g entries (key.Join i j) = refl
ends-by-links g entries (key.Star i) = refl

ends-of-key : (g : Graph) (made growths : List Growth) (k next : Key) (ends : Link) → made ≡ growths → k ≡ next → ends ≡ ends_by (bare_links g.links []) (entries_in made) k → ends ≡ ends_by g (entries_in growths) next
ends-of-key g made growths k next ends same key_is is = is ∙ ends-by-links g (entries_in made) k ∙ (λ i. ends_by g (entries_in (same i)) (key_is i))

pub tree_by-requires : goal.tree_by-requires
tree_by-requires g c =
    let graph : Graph = graph_in c.args.graph in
    subst (λ growths. IsGrowable graph growths c.key_at-key.result) (sym c.as_slice-made.ensures)
    (subst (IsGrowable graph c.args.growths) (sym c.key_at-key.ensures) c.requires.growable)

pub returns-in_err-tree-clause-follows : goal.returns-in_err-tree-clause-follows
unfolding with_number
returns-in_err-tree-clause-follows g c =
    let graph : Graph = graph_in c.args.graph in
    let made = c.as_slice-made.ensures in
    let k = c.key_at-key.ensures in
    first_fails c.from_residual.result entries_in _ c.in_err-tree.ensures.follows (λ i. formula_by graph (entries_in (made i)) (k i)) c.from_residual.ensures.1

pub returns-clause-follows : goal.returns-clause-follows
unfolding with_number
returns-clause-follows g c =
    let graph : Graph = graph_in c.args.graph in
    let made = c.as_slice-made.ensures in
    let k = c.key_at-key.ensures in
    let ends = ends-of-key graph c.as_slice-made.result.now c.args.growths c.key_at-key.result (key_at c.args.keys.now c.args.number) c.ends_by-ends.result made k c.ends_by-ends.ensures in
    value_first _ c.in_ok-tree.ensures.follows (λ i. formula_by graph (entries_in (made i)) (k i))
    (at_end (ap entries_in c.with_growth.ensures ∙ entries-set c.args.growths c.args.number _
    ∙ (λ i. slice_set (entries_in c.args.growths) c.args.number (record { from = (ends i).from; to = (ends i).to; formula = formula_of (tree_of c.in_ok-tree.tree) }))))

pub returns-clause-grown : goal.returns-clause-grown
returns-clause-grown g c =
    let graph : Graph = graph_in c.args.graph in
    let made = c.as_slice-made.ensures in
    let k = c.key_at-key.ensures in
    let ends = ends-of-key graph c.as_slice-made.result.now c.args.growths c.key_at-key.result (key_at c.args.keys.now c.args.number) c.ends_by-ends.result made k c.ends_by-ends.ensures in
    record {
      growth = record { from = c.ends_by-ends.result.from; to = c.ends_by-ends.result.to; tree = Some c.in_ok-tree.tree };
      tree = tree_of c.in_ok-tree.tree;
      set = c.with_growth.ensures;
      from_is = ap (λ (l : Link). l.from) ends;
      to_is = ap (λ (l : Link). l.to) ends;
      tree_is = refl;
      by = subst (λ growths. IsTreeBy graph growths (key_at c.args.keys.now c.args.number) (tree_of c.in_ok-tree.tree)) made
          (subst (λ x. IsTreeBy graph c.as_slice-made.result.now x (tree_of c.in_ok-tree.tree)) k c.in_ok-tree.ensures.by);
      new = c.in_ok-tree.ensures.new;
    }
