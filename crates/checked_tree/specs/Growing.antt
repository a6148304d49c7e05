-- The evaluation of a plan that is under way, with its trees.
use Rattle.std.specs.Prelude.{◌≡◌, ◌<◌, ℕ, List, [], ◌++◌, map, length, drop, Option, None, Some, slice_set}
use Rattle.std.specs.List.{flat_map, slice_get}
use Rattle.std.specs.Option.{unwrap_or, option_map}
use Rattle.std.specs.Rc.{rc_value}
use Rattle.path_expr.specs.declared.cell.Cell.{Cell}
use Rattle.path_expr.specs.declared.cell.Cell.TheVariants as known
use Rattle.path_expr.specs.Operations.{operations}
use Rattle.path_expr.specs.PathExpr.{PathExpr}
use Rattle.posing.specs.declared.log.Log.{Log}
use Rattle.posing.specs.Logs.{log_of}
use Rattle.transition_formula.specs.Transition.{Transition}
use Rattle.polyhedra.specs.Laws.{HaveCanonicalRows}
use Rattle.checked_tree.specs.declared.growth.Growth.{Growth}
use Rattle.polyhedra.specs.Vocabulary.{Vocabulary}
use Rattle.checked_tree.specs.declared.making.SharedGraph.{SharedGraph}
use Rattle.checked_tree.specs.declared.mark.LogMark.{LogMark}
use Rattle.checked_tree.specs.declared.key.Key.{Key}
use Rattle.checked_tree.specs.declared.key.Key.TheVariants as key
use Rattle.checked_tree.specs.Graph.{Graph, graph_of, bare, nothing, link_at, leaf_at, vocabulary_at, start_of, end_of, start_vocabulary, end_vocabulary}
use Rattle.checked_tree.specs.Law.{IsEnd, IsLeaf, IsEvaluated, HaveCanonicalLeaves}
use Rattle.checked_tree.specs.Ready.{IsAmong, AreReady}
use Rattle.checked_tree.specs.Plan.{IsPathOf, ArePathsOf, AreDistinct}
use Rattle.checked_tree.specs.ByNumber.{Entry, Entries, key_at, ends_by}
use Rattle.checked_tree.specs.Tree.{Own, Tree, Leaf, Seq, Join, Star, own_of, formula_of, path_of, tree_of}
use Rattle.checked_tree.specs.Checked.{IsChecked}
use Rattle.checked_tree.specs.TreeLaw.{IsOf}
use Rattle.checked_tree.specs.Grown.{AreBuilt}

-- ---- one step

-- what a log has behind so many notes and answers
abbrev pub log_gain : ℕ → ℕ → Log → Log
log_gain notes answers log = log_of (drop notes log.notes) (drop answers log.answers)

-- the step's part of a tree between two vocabularies, which keeps what the log has behind a mark
abbrev pub own_with : Vocabulary → Vocabulary → Transition → LogMark → Log → Own
own_with from to formula mark log =
    record { from = from; to = to; formula = formula; log = log_gain mark.notes mark.answers log }

-- a checked tree, whose last step kept what the log gained
pub record IsNew (before after : Log) (t : Tree) : Type 0 where
  pub checked : IsChecked t
  pub noted : after.notes ≡ before.notes ++ (own_of t).log.notes
  pub answered : after.answers ≡ before.answers ++ (own_of t).log.answers

-- ---- growths

-- the graph whose nodes share their vocabularies with the steps of trees
abbrev pub graph_in : SharedGraph → Graph
graph_in g = graph_of g.links.now g.leaves.now (map rc_value g.nodes.now)

-- what stands for a growth past the end: no tree, from node 0 to node 0
abbrev pub bare_growth : Growth
bare_growth = record { from = 0; to = 0; tree = None }

-- the growth of a number; past the end `bare_growth`
abbrev pub growth_at : List Growth → ℕ → Growth
growth_at growths n = unwrap_or (slice_get growths n) bare_growth

-- the plain form of its tree
abbrev pub grown_tree : Growth → Option Tree
grown_tree growth = option_map tree_of growth.tree

-- the formula of a tree; where there is none, the one that holds of nothing
abbrev pub formula_in : Option Tree → Transition
formula_in None = nothing
formula_in (Some t) = formula_of t

-- growths, by their formulas alone
abbrev pub entry_of_growth : Growth → Entry
entry_of_growth growth = record {
  from = growth.from;
  to = growth.to;
  formula = formula_in (grown_tree growth);
}

-- growths by their formulas alone, in their order
abbrev pub entries_in : List Growth → Entries
entries_in growths = map entry_of_growth growths

-- the growth has this tree, between the vocabularies of its nodes
pub record HasTree (g : Graph) (growth : Growth) (t : Tree) : Type 0 where
  pub is : grown_tree growth ≡ Some t
  pub from_is : (own_of t).from ≡ vocabulary_at g growth.from
  pub to_is : (own_of t).to ≡ vocabulary_at g growth.to

-- ---- what an operation asks of growths, and what it makes of them

-- the link's leaf and nodes are there
pub record IsDueLink (g : Graph) (number : ℕ) : Type 0 where
  pub leaf_within : number < length g.leaves
  pub from_within : (link_at g number).from < length g.nodes
  pub to_within : (link_at g number).to < length g.nodes
  pub start : IsEnd (vocabulary_at g (link_at g number).from)
  pub end : IsEnd (vocabulary_at g (link_at g number).to)
  pub leaf : IsLeaf g number

-- both growths have trees, and the second begins at the node where the first ends
pub record AreInLine (g : Graph) (first second : Growth) : Type 0 where
  pub one : Tree
  pub one_is : HasTree g first one
  pub other : Tree
  pub other_is : HasTree g second other
  pub through : first.to ≡ second.from

-- both growths have trees, between the same two nodes
pub record AreBeside (g : Graph) (left right : Growth) : Type 0 where
  pub one : Tree
  pub one_is : HasTree g left one
  pub other : Tree
  pub other_is : HasTree g right other
  pub starts : left.from ≡ right.from
  pub ends : left.to ≡ right.to

-- the growth has a tree, which ends at the node where it begins
pub record IsRound (g : Graph) (turn : Growth) : Type 0 where
  pub one : Tree
  pub one_is : HasTree g turn one
  pub turns : turn.to ≡ turn.from

-- the link's leaf is there, or the operands have trees that meet
abbrev pub IsGrowable : Graph → List Growth → Key → Type 0
IsGrowable g growths (key.Edge number) = IsDueLink g number
    × HaveCanonicalRows (leaf_at g number).cases
IsGrowable g growths (key.Seq i j) =
    (i < length growths) × (j < length growths)
    × AreInLine g (growth_at growths i) (growth_at growths j)
IsGrowable g growths (key.Join i j) =
    (i < length growths) × (j < length growths)
    × AreBeside g (growth_at growths i) (growth_at growths j)
IsGrowable g growths (key.Star i) = (i < length growths) × IsRound g (growth_at growths i)

-- the growth of a number has its place, and what its key asks of the others is there
pub record IsNextGrowth (g : Graph) (keys : List Key) (growths : List Growth) (n : ℕ) : Type 0 where
  pub within : n < length growths
  pub growable : IsGrowable g growths (key_at keys n)

-- a leaf of this link's formula, between the vocabularies of the link's ends
pub record IsLeafOf (g : Graph) (number : ℕ) (t : Tree) : Type 0 where
  pub is : t ≡ Leaf number (leaf_at g number) (own_of t)
  pub from_is : (own_of t).from ≡ vocabulary_at g (link_at g number).from
  pub to_is : (own_of t).to ≡ vocabulary_at g (link_at g number).to

-- the tree of a key's path, from those of its operands
abbrev pub IsTreeBy : Graph → List Growth → Key → Tree → Type 0
IsTreeBy g growths (key.Edge number) t = IsLeafOf g number t
IsTreeBy g growths (key.Seq i j) t =
    (a : Tree) × (b : Tree) × (grown_tree (growth_at growths i) ≡ Some a)
    × (grown_tree (growth_at growths j) ≡ Some b)
    × (t ≡ Seq a b (own_of t))
IsTreeBy g growths (key.Join i j) t =
    (a : Tree) × (b : Tree) × (grown_tree (growth_at growths i) ≡ Some a)
    × (grown_tree (growth_at growths j) ≡ Some b)
    × (t ≡ Join a b (own_of t))
IsTreeBy g growths (key.Star i) t =
    (a : Tree) × (grown_tree (growth_at growths i) ≡ Some a) × (t ≡ Star a (own_of t))

-- growths with that of one number set, by a new tree of its key
pub record HasGrown (g : Graph) (keys : List Key) (growths : List Growth) (n : ℕ)
    (before after : Log) (next : List Growth) : Type 0 where
  pub growth : Growth
  pub tree : Tree
  pub set : next ≡ slice_set growths n growth
  pub from_is : growth.from ≡ (ends_by g (entries_in growths) (key_at keys n)).from
  pub to_is : growth.to ≡ (ends_by g (entries_in growths) (key_at keys n)).to
  pub tree_is : grown_tree growth ≡ Some tree
  pub by : IsTreeBy g growths (key_at keys n) tree
  pub new : IsNew before after tree

-- ---- the loop

-- a checked tree of the graph, of this path, between the vocabularies of the path's ends
pub record IsTreeOf (g : Graph) (p : PathExpr) (t : Tree) : Type 0 where
  pub path : path_of t ≡ p
  pub checked : IsChecked t
  pub of : IsOf g t
  pub from_is : (own_of t).from ≡ start_vocabulary g p
  pub to_is : (own_of t).to ≡ end_vocabulary g p

-- the growth has one of the steps for the tree of this path
pub record IsGrownAs (g : Graph) (steps : List Tree) (growth : Growth) (p : PathExpr) : Type 0 where
  pub tree : Tree
  pub is : grown_tree growth ≡ Some tree
  pub among : IsAmong tree steps
  pub of_path : IsTreeOf g p tree
  pub from_is : growth.from ≡ start_of g p
  pub to_is : growth.to ≡ end_of g p

-- a graph whose operations have distinct keys
pub record IsPlantable (g : Graph) (source : ℕ) (keys : List Key) : Type 0 where
  pub evaluated : IsEvaluated g source
  pub distinct : AreDistinct keys
  pub leaves : HaveCanonicalLeaves g

-- the growths have a tree for each path that was made, the log is what each step kept, and what is
-- left are the numbers of paths that are ready where they stand
pub record AreGrowing (g : Graph) (source : ℕ) (keys : List Key) (start log : Log)
    (growths : List Growth) (rest : List ℕ) : Type 0 where
  pub plantable : IsPlantable g source keys
  pub steps : List Tree
  pub paths : List PathExpr
  pub long : length growths ≡ length keys
  pub grown : (p : PathExpr) (n : ℕ) → IsPathOf keys p n → IsAmong p (map path_of steps)
      → IsGrownAs g steps (growth_at growths n) p
  pub ready : AreReady g (map path_of steps) paths
  pub numbers : ArePathsOf keys paths rest
  pub parts : map path_of steps ++ paths ≡ operations (length g.nodes) g.links source
  pub noted : log.notes ≡ start.notes ++ flat_map (λ t. (own_of t).log.notes) steps
  pub answered : log.answers ≡ start.answers ++ flat_map (λ t. (own_of t).log.answers) steps
  pub shared : AreBuilt [] steps

-- growths that are under way at one log and order, become such at others
abbrev pub KeepsGrowing : Graph → List Key → Log → List Growth → List ℕ → Log → List Growth → List ℕ
    → Type 0
KeepsGrowing g keys before growths order after next rest =
    (source : ℕ) (start : Log) → AreGrowing g source keys start before growths order
    → AreGrowing g source keys start after next rest

-- growths that are under way, at some source and from some log on
pub record AreUnderWay (g : Graph) (keys : List Key) (log : Log) (growths : List Growth)
    (order : List ℕ) : Type 0 where
  pub source : ℕ
  pub start : Log
  pub growing : AreGrowing g source keys start log growths order

-- ---- the cells

-- what stands for a tree where there is none
abbrev pub no_tree : Tree
no_tree = Leaf 0 nothing record {
  from = vocabulary_at (bare []) 0;
  to = vocabulary_at (bare []) 0;
  formula = nothing;
  log = log_of [] [];
}

-- a cell of a path's number, with the tree of that number; `no_tree` where there is none
abbrev pub tree_cell : List Growth → Cell ℕ → Cell Tree
tree_cell growths known.Zero = known.Zero
tree_cell growths known.One = known.One
tree_cell growths (known.Item n) = known.Item (unwrap_or (grown_tree (growth_at growths n)) no_tree)

-- there is a tree of this number
pub record IsGrownAt (growths : List Growth) (n : ℕ) : Type 0 where
  pub within : n < length growths
  pub tree : Tree
  pub is : grown_tree (growth_at growths n) ≡ Some tree

-- an item has a tree
abbrev pub IsGrownCell : List Growth → Cell ℕ → Type 0
IsGrownCell growths known.Zero = Unit {0}
IsGrownCell growths known.One = Unit {0}
IsGrownCell growths (known.Item n) = IsGrownAt growths n

-- each item of the cells has a tree
abbrev pub AreGrownCells : List Growth → List (Cell ℕ) → Type 0
AreGrownCells growths cells = (node : ℕ) (cell : Cell ℕ) → slice_get cells node ≡ Some cell
    → IsGrownCell growths cell
