-- A graph whose links have formulas and whose nodes have vocabularies, and the ends of its paths.
use Rattle.std.specs.Prelude.{ℕ, List, [], Bool, true, false, ◌&&◌, ◌==◌}
use Rattle.std.specs.List.{slice_get}
use Rattle.std.specs.Option.{unwrap_or}
use Rattle.path_expr.specs.declared.link.Link.{Link}
use Rattle.path_expr.specs.PathExpr.{PathExpr, Zero, One, Edge, Seq, Join, Star}
use Rattle.transition_formula.specs.Transition.{Transition}
use Rattle.polyhedra.specs.Vocabulary.{Vocabulary}

-- links between nodes, the formula of each link, and the vocabulary of each node
pub record Graph : Type 0 where
  pub links : List Link
  pub leaves : List Transition
  pub nodes : List Vocabulary

-- the graph of links, their leaves in the same order, and the vocabularies of nodes
abbrev pub graph_of : List Link → List Transition → List Vocabulary → Graph
graph_of links leaves nodes = record { links = links; leaves = leaves; nodes = nodes }

-- links and leaves without nodes
abbrev pub bare_links : List Link → List Transition → Graph
bare_links links leaves = graph_of links leaves []

-- nodes without links
abbrev pub bare : List Vocabulary → Graph
bare nodes = graph_of [] [] nodes

-- the formula that holds of nothing, from no columns to none
abbrev pub nothing : Transition
nothing = record { from = 0; to = 0; cases = [] }

-- the link of a number; past the end one from node 0 to node 0
abbrev pub link_at : Graph → ℕ → Link
link_at g number = unwrap_or (slice_get g.links number) record { from = 0; to = 0 }

-- the leaf of a link's number; past the end `nothing`
abbrev pub leaf_at : Graph → ℕ → Transition
leaf_at g number = unwrap_or (slice_get g.leaves number) nothing

-- the vocabulary of a node; past the end one without columns
abbrev pub vocabulary_at : Graph → ℕ → Vocabulary
vocabulary_at g node =
    unwrap_or (slice_get g.nodes node) record {
      columns = 0;
      named = [];
      harvested = [];
      rule = 0;
      extra = [];
    }

-- the node that a path leads from, by its first links
abbrev pub start_of : Graph → PathExpr → ℕ
start_of g Zero = 0
start_of g One = 0
start_of g (Edge number) = (link_at g number).from
start_of g (Seq first second) = start_of g first
start_of g (Join left right) = start_of g left
start_of g (Star turn) = start_of g turn

-- the node that it leads to, by its last links
abbrev pub end_of : Graph → PathExpr → ℕ
end_of g Zero = 0
end_of g One = 0
end_of g (Edge number) = (link_at g number).to
end_of g (Seq first second) = end_of g second
end_of g (Join left right) = end_of g left
end_of g (Star turn) = start_of g turn

-- the vocabulary of the node that a path leads from
abbrev pub start_vocabulary : Graph → PathExpr → Vocabulary
start_vocabulary g path = vocabulary_at g (start_of g path)

-- the vocabulary of the node that a path leads to
abbrev pub end_vocabulary : Graph → PathExpr → Vocabulary
end_vocabulary g path = vocabulary_at g (end_of g path)

-- two path expressions are equal
abbrev pub same_path : PathExpr → PathExpr → Bool
same_path Zero Zero = true
same_path One One = true
same_path (Edge m) (Edge n) = m == n
same_path (Seq a b) (Seq c d) = same_path a c && same_path b d
same_path (Join a b) (Join c d) = same_path a c && same_path b d
same_path (Star a) (Star b) = same_path a b
same_path p q = false
