-- What the code makes of the entry graph, and what it asks for that.
use Rattle.std.specs.Prelude.{◌≤◌, ℕ, IsTrue, List, ◌++◌, length, map}
use Rattle.std.specs.List.{flat_map}
use Rattle.flow_graph.specs.declared.parts.Edge.{Edge}
use Rattle.flow_graph.specs.Plain.{arc_of}
use Rattle.syntax_tree.specs.Code.{Call, Statement}
use Rattle.syntax_tree.specs.Term.{Term}
use Rattle.syntax_tree.specs.WellFormed.{all_columns_below, joint_operators}
use Rattle.context.specs.declared.edges.Edges.{Edges}
use Rattle.context.specs.declared.stand.Widths.{Widths}
use Rattle.context.specs.Entries.{Calling, Way, callings_in}

-- the links, leaves and losses of ways, behind those that are made
abbrev pub with_ways : Edges → List Way → Edges
with_ways made ways =
    record {
      links = made.links ++ map (λ way. way.link) ways;
      leaves = made.leaves ++ map (λ way. way.leaf) ways;
      losses = made.losses ++ flat_map (λ way. way.lost) ways;
    }

-- the same of these alone
abbrev pub edges_by : List Way → Edges
edges_by ways =
    record {
      links = map (λ way. way.link) ways;
      leaves = map (λ way. way.leaf) ways;
      losses = flat_map (λ way. way.lost) ways;
    }

-- the entry's columns and the globals are among the columns, of which there are at most 63
pub record AreWidths (w : Widths) : Type 0 where
  pub entry : w.entry ≤ w.columns
  pub globals : w.globals ≤ w.columns
  pub few : w.columns ≤ 63

-- arguments that can be made in states of so many columns
pub record AreArguments (columns : ℕ) (args : List Term) : Type 0 where
  pub below : IsTrue (all_columns_below columns args)
  pub operators : joint_operators args ≤ 200000
  pub few : length args ≤ 8

-- a call of one of at most 256 procedures with such arguments, or no call
abbrev pub IsCallFit : ℕ → Statement → Type 0
IsCallFit columns (Call proc args into) = (proc ≤ 256) × AreArguments columns args
IsCallFit columns _ = Unit {0}

-- the calls that edges make
abbrev pub callings_on : List Edge → List Calling
callings_on edges = callings_in (map arc_of edges)

-- the call of the procedure of a number with these arguments
abbrev pub calling_of : ℕ → List Term → Calling
calling_of callee args = record { callee = callee; args = args }
