-- Walks go on over passages and arrivals.
use Rattle.std.proofs.Common.{ℕ, ℤ, List, [], ◌∷◌, ◌++◌, refl, sym, subst}
use Rattle.std.specs.Prelude.{length}
use Rattle.syntax_tree.specs.declared.program.Program.{Program}
use Rattle.syntax_tree.specs.Code.{Statement, Set, Any, Call, Guard, Check, If, Loop, Break, Continue, Return}
use Rattle.syntax_tree.specs.Value.{State}
use Rattle.execution.specs.Execution.{Returns}
use Rattle.flow_graph.specs.FlowGraph.{Arc}
use Rattle.flow_graph.specs.Walks.{CallMeaning, EdgeRelates, Stride, Walks, WalksTo}
use Rattle.point_induction.specs.Points.{Arrival, Passage}
use Rattle.point_induction.specs.Induction.{IsFirstState, ReturnsSaid, Sayings, arcs_of}

-- ---- calls that are read in another way

-- each call that is so in the one way is so in the other
pub record IsReading (one other : CallMeaning) : Type 0 where
  pub each : (proc : ℕ) (globals args left : State) (value : ℤ) → one proc globals args left value → other proc globals args left value

pub relates-read : (one other : CallMeaning) (globals : ℕ) (act : Statement) (before after : State) → IsReading one other → EdgeRelates one globals act before after → EdgeRelates other globals act before after
relates-read one other globals (Call callee terms into) before after reading call =
    record {
      values = call.values;
      are = call.are;
      left = call.left;
      value = call.value;
      returns = reading.each callee _ call.values call.left call.value call.returns;
      after_is = call.after_is;
    }
relates-read one other globals (Set col value) before after reading relates = relates
relates-read one other globals (Any col) before after reading relates = relates
relates-read one other globals (Guard cond) before after reading relates = relates
relates-read one other globals (Check number cond) before after reading relates = relates
relates-read one other globals (If cond on_true on_false) before after reading relates = relates
relates-read one other globals (Loop pre cond body step first) before after reading relates = relates
relates-read one other globals Break before after reading relates = relates
relates-read one other globals Continue before after reading relates = relates
relates-read one other globals Return before after reading relates = relates

-- ---- walks, one behind another

walks-then : (one other : CallMeaning) (globals : ℕ) (arcs : List Arc) (node : ℕ) (before : State) (path : List Stride) (between : ℕ) (middle : State) (more : List Stride) (last : ℕ) (final : State)
    → IsReading one other → Walks other globals arcs node before path between middle → Walks one globals arcs between middle more last final
    → Walks other globals arcs node before (path ++ more) last final
walks-then one other globals arcs node before (stride ∷ path) between middle more last final reading (way, is, from, relates, later) second =
    (way, is, from, relates, walks-then one other globals arcs way.to stride.state path between middle more last final reading later second)
walks-then one other globals arcs node before [] between middle more last final reading first second =
    subst (λ n. Walks other globals arcs n before more last final) (sym first.0)
    (subst (λ s. Walks other globals arcs between s more last final) (sym first.1) (read between middle more second))
  where
    read : (at : ℕ) (state : State) (path : List Stride) → Walks one globals arcs at state path last final → Walks other globals arcs at state path last final
    read at state [] walk = walk
    read at state (stride ∷ path) (way, is, from, relates, later) =
        (way, is, from, relates-read one other globals way.act state stride.state reading relates, read way.to stride.state path later)

module _ (program : Program) (say : Sayings) (proc : ℕ) (globals args : State) where
  returned : IsReading (ReturnsSaid program say) (Returns program)
  returned = record { each = λ proc globals args left value said. said.returns }

  -- over a passage
  pub walk-on : (point : ℕ) (before : State) (to : ℕ) (after : State) → WalksTo program proc globals args point before
      → Passage (ReturnsSaid program say) (length program.globals) (arcs_of program proc) point before to after → WalksTo program proc globals args to after
  walk-on point before to after walk passage =
      record {
        width = walk.width;
        callee = walk.callee;
        is = walk.is;
        params = walk.params;
        others = walk.others;
        columns = walk.columns;
        path = walk.path ++ passage.path;
        walk = walks-then (ReturnsSaid program say) (Returns program) (length program.globals) (arcs_of program proc) 0 (globals ++ (args ++ walk.others)) walk.path point before passage.path to after returned walk.walk passage.walk;
      }

  -- over an arrival
  pub walk-to_head : (point : ℕ) (before : State) (head : ℕ) (after : State) → WalksTo program proc globals args point before
      → Arrival (ReturnsSaid program say) (length program.globals) (arcs_of program proc) point before head after → WalksTo program proc globals args head after
  walk-to_head point before head after walk arrival =
      let near = walk-on point before arrival.last arrival.between walk arrival.passage in
      let stride : Stride = record { edge = arrival.edge; state = after } in
      record {
        width = near.width;
        callee = near.callee;
        is = near.is;
        params = near.params;
        others = near.others;
        columns = near.columns;
        path = near.path ++ stride ∷ [];
        walk = walks-then (ReturnsSaid program say) (Returns program) (length program.globals) (arcs_of program proc) 0 (globals ++ (args ++ near.others)) near.path arrival.last arrival.between (stride ∷ []) head after returned near.walk
            (arrival.way, arrival.is, arrival.starts, arrival.relates, (arrival.ends, refl));
      }

  -- from where it begins, nowhere yet
  pub walk-none : (state : State) → IsFirstState program proc globals args state → WalksTo program proc globals args 0 state
  walk-none state first =
      record {
        width = first.width;
        callee = first.callee;
        is = first.is;
        params = first.params;
        others = first.others;
        columns = first.columns;
        path = [];
        walk = (refl, sym first.state_is);
      }
