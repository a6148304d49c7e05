-- Activations whose calls are told in one way are told in another, if each edge's calls are.
use Rattle.std.proofs.Common.{ℕ, ℤ, List, [], ◌∷◌, ◌++◌, length, take}
use Rattle.std.specs.Prelude.{slice_get}
use Rattle.std.specs.List.{AllByRecursion}
use Rattle.items.proofs.Each.{each-get}
use Rattle.syntax_tree.specs.declared.program.Program.{Program}
use Rattle.syntax_tree.specs.Code.{Statement, Set, Any, Call, Guard, Check, If, Loop, Break, Continue, Return}
use Rattle.syntax_tree.specs.Value.{State}
use Rattle.flow_graph.specs.FlowGraph.{Arc, body_of, exit_of, graph_of}
use Rattle.flow_graph.specs.Heights.{ReturnsOver}
use Rattle.flow_graph.specs.Walks.{CallMeaning, EdgeRelates, Stride, Walks}

-- a call to a procedure means as much there as here; other statements call none
abbrev pub TellsCall : CallMeaning → CallMeaning → Statement → Type 0
TellsCall calls others (Call proc args into) = (globals values left : State) (value : ℤ) → calls proc globals values left value → others proc globals values left value
TellsCall calls others _ = Unit {0}

module _ (calls others : CallMeaning) where
  pub edge-told : (globals : ℕ) (act : Statement) (before after : State) → TellsCall calls others act → EdgeRelates calls globals act before after → EdgeRelates others globals act before after
  edge-told globals (Call proc args into) before after tells call = record {
    values = call.values;
    are = call.are;
    left = call.left;
    value = call.value;
    returns = tells (take globals before) call.values call.left call.value call.returns;
    after_is = call.after_is;
  }
  edge-told globals (Set col value) before after tells relates = relates
  edge-told globals (Any col) before after tells relates = relates
  edge-told globals (Guard cond) before after tells relates = relates
  edge-told globals (Check number cond) before after tells relates = relates
  edge-told globals (If cond on_true on_false) before after tells relates = relates
  edge-told globals (Loop pre cond body step first) before after tells relates = relates
  edge-told globals Break before after tells relates = relates
  edge-told globals Continue before after tells relates = relates
  edge-told globals Return before after tells relates = relates

  abbrev pub TellsArcs : List Arc → Type 0
  TellsArcs arcs = AllByRecursion (λ way. TellsCall calls others way.act) arcs

  pub walks-told : (globals : ℕ) (arcs : List Arc) → TellsArcs arcs → (node : ℕ) (state : State) (path : List Stride) (last : ℕ) (final : State)
      → Walks calls globals arcs node state path last final → Walks others globals arcs node state path last final
  walks-told globals arcs tells node state [] last final walk = walk
  walks-told globals arcs tells node state (stride ∷ path) last final (way, is, from, relates, later) = (
    way,
    is,
    from,
    edge-told globals way.act state stride.state (each-get (λ (w : Arc). TellsCall calls others w.act) arcs stride.edge way tells is) relates,
    walks-told globals arcs tells way.to stride.state path last final later,
  )

  pub returns-told : (program : Program) (proc : ℕ) → TellsArcs (graph_of program proc).arcs → (globals args after : State) (value : ℤ)
      → ReturnsOver calls program proc globals args after value → ReturnsOver others program proc globals args after value
  returns-told program proc tells globals args after value r = record {
    width = r.width;
    callee = r.callee;
    is = r.is;
    params = r.params;
    others = r.others;
    columns = r.columns;
    path = r.path;
    final = r.final;
    walk = walks-told (length program.globals) (graph_of program proc).arcs tells 0 (globals ++ (args ++ r.others)) r.path (exit_of (body_of (slice_get program.procs proc))) r.final r.walk;
    after_is = r.after_is;
    value_is = r.value_is;
  }
