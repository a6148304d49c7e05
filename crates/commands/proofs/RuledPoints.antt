-- Rows at points that are true of a program under a rule are true of it: no execution knows the
-- rule.
use Rattle.std.proofs.Common.{ℕ, List, [], ◌∷◌, ◌++◌, length}
use Rattle.linear_terms.specs.declared.row.Row.{Row}
use Rattle.syntax_tree.specs.declared.program.Program.{Program}
use Rattle.syntax_tree.specs.Code.{Statement, Set, Any, Call, Guard, Check, If, Loop, Break, Continue, Return}
use Rattle.syntax_tree.specs.Value.{State}
use Rattle.execution.specs.Execution.{Returns}
use Rattle.execution.specs.Machine.{Config, Do, Frame, Item}
use Rattle.flow_graph.specs.FlowGraph.{Arc}
use Rattle.flow_graph.specs.Stack.{Beginning, IsChain, StandsOver}
use Rattle.flow_graph.specs.Walks.{EdgeRelates, Stands, Stride, Walks, WalksTo}
use Rattle.point_induction.specs.Induction.{start_of}
use Rattle.report.specs.declared.points.RowsAt.{RowsAt}
use Rattle.report.specs.declared.points.RowsAt.TheVariants as place
use Rattle.point_reports.specs.declared.whole.PointReport.{PointReport}
use Rattle.point_reports.specs.Claims.{AreAllMet, AreMetAt, AreTrueAt, AreTrueOfReturns}
use Rattle.summary_cache.specs.Rules.{with_rule}
use Rattle.summary_cache.proofs.Rules.{begins, claims_know_no_rule, returns, runs}

module _ (program : Program) (rule : ℕ) where
  abbrev ruled : Program
  ruled = with_rule rule program

  stands : (proc : ℕ) (globals args : State) (items : List Item) (final : State) → Stands program proc globals args items final → Stands ruled proc globals args items final
  stands proc globals args items final s = record {
    first = s.first;
    begins = begins program rule proc globals args s.first s.begins;
    steps = s.steps;
    now = s.now;
    frame = s.frame;
    runs = runs program rule s.first s.steps _ s.runs;
    items_are = s.items_are;
    state_is = s.state_is;
  }

  over : (bottom here : Beginning) (globals : State) (items : List Item) (frame : Frame) (below : List Frame)
      → StandsOver program bottom here globals items frame below → StandsOver ruled bottom here globals items frame below
  over bottom here globals items frame [] (bottom_is, proc_is, there) =
      (bottom_is, proc_is, stands here.proc here.globals here.args items (globals ++ frame.own) there)
  over bottom here globals items frame (caller ∷ below) (proc_is, there, under, values, are, rest) = (
    proc_is,
    stands here.proc here.globals here.args items (globals ++ frame.own) there,
    under,
    values,
    are,
    over bottom under here.globals (Do (Call here.proc values frame.into) ∷ caller.items) caller below rest,
  )

  chain : (config : Config) → IsChain program (start_of program) config → IsChain ruled (start_of ruled) config
  chain config c = record {
    top = c.top;
    frame = c.frame;
    below = c.below;
    frames_are = c.frames_are;
    stands = over (start_of program) c.top config.globals c.frame.items c.frame c.below c.stands;
  }

  relates : (s : Statement) (before after : State) → EdgeRelates (Returns program) (length program.globals) s before after → EdgeRelates (Returns ruled) (length program.globals) s before after
  relates (Set col value) before after r = r
  relates (Any col) before after r = r
  relates (Call proc args into) before after r = record {
    values = r.values;
    are = r.are;
    left = r.left;
    value = r.value;
    returns = returns program rule proc _ r.values r.left r.value r.returns;
    after_is = r.after_is;
  }
  relates (Guard cond) before after r = r
  relates (Check number cond) before after r = r
  relates (If cond on_true on_false) before after r = r
  relates (Loop pre cond body step first) before after r = r
  relates Break before after r = r
  relates Continue before after r = r
  relates Return before after r = r

  walks : (arcs : List Arc) (node : ℕ) (state : State) (path : List Stride) (last : ℕ) (final : State)
      → Walks (Returns program) (length program.globals) arcs node state path last final → Walks (Returns ruled) (length program.globals) arcs node state path last final
  walks arcs node state [] last final walk = walk
  walks arcs node state (stride ∷ path) last final (way, is, from, related, later) =
      (way, is, from, relates way.act state stride.state related, walks arcs way.to stride.state path last final later)

  walks-to : (proc : ℕ) (globals args : State) (node : ℕ) (final : State) → WalksTo program proc globals args node final → WalksTo ruled proc globals args node final
  walks-to proc globals args node final w = record {
    width = w.width;
    callee = w.callee;
    is = w.is;
    params = w.params;
    others = w.others;
    columns = w.columns;
    path = w.path;
    walk = walks _ 0 _ w.path node final w.walk;
  }

  at-met : (proc node : ℕ) (rows : List Row) → AreTrueAt ruled proc node rows → AreTrueAt program proc node rows
  unfolding chain
  at-met proc node rows met = λ config c same after walk. met config (chain config c) same after (walks-to proc c.top.globals c.top.args node after walk)

  returns-met : (proc : ℕ) (rows : List Row) → AreTrueOfReturns ruled proc rows → AreTrueOfReturns program proc rows
  unfolding chain
  returns-met proc rows met = λ config c same left value returned. met config (chain config c) same left value (returns program rule proc c.top.globals c.top.args left value returned)

  met-at : (proc : ℕ) (at : RowsAt) (rows : List Row) → AreMetAt ruled proc at rows → AreMetAt program proc at rows
  met-at proc place.Entry rows met = at-met proc 0 rows met
  met-at proc (place.Loop number) rows met = λ node is. at-met proc node rows (met node is)
  met-at proc place.Return rows met = returns-met proc rows met

  pub all-met : (made : PointReport) → AreAllMet ruled made → AreAllMet program made
  all-met made met = record {
    claims = claims_know_no_rule program rule made.report met.claims;
    points = λ n told at. met-at told.proc told.at told.rows (met.points n told at);
  }
