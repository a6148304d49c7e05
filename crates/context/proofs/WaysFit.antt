-- Each way of a program leads between the entries of procedures, and its leaf goes between their
-- columns.
use Rattle.std.proofs.Common.{◌≡◌, ℕ, suc, ◌+◌, ◌*◌, ◌<◌, ◌≤◌, ◌^◌, length, map, List, [], ◌∷◌, Option, None, Some, refl, sym, ap, ◌∙◌, length-append, arith}
use Rattle.std.specs.Prelude.{IsSomeAnd, IsTrue, true, if◌then◌else◌, nat_lt, slice_get}
use Rattle.std.specs.List.{AllByRecursion, list_all}
use Rattle.std.proofs.lemmas.Bool.{eq-eqb}
use Rattle.std.proofs.lemmas.List.{length-map}
use Rattle.std.proofs.lemmas.List.Elements.{All-from_recursion, recursion_from_All}
use Rattle.items.proofs.Each.{each-append, each-flat_map}
use Rattle.linear_terms.specs.Polynomial.{constant_of}
use Rattle.syntax_tree.specs.declared.program.GlobalVar.{GlobalVar}
use Rattle.syntax_tree.specs.declared.program.Proc.{Proc}
use Rattle.syntax_tree.specs.declared.program.Program.{Program}
use Rattle.syntax_tree.specs.Code.{Statement, Set, Any, Call, Guard, Check, If, Loop, Break, Continue, Return}
use Rattle.syntax_tree.specs.WellFormed.{IsProcFit, IsWellFormed, width_of}
use Rattle.transition_formula.specs.Transition.{IsSolvable, IsTransition, every_column, fits, is_below}
use Rattle.transition_formula.proofs.ColumnTests.{both_true}
use Rattle.transition_formula.proofs.FittedFormulas.{fits-solvable}
use Rattle.transition_formula.proofs.Fitting.{from_fitting}
use Rattle.flow_graph.specs.FlowGraph.{Arc, body_of, flow_of}
use Rattle.leaf_cases.proofs.Graphs.{EdgeFits, act-fits}
use Rattle.vocabularies.specs.Ends.{entry_of, entry_width, start_of}
use Rattle.vocabularies.specs.Procs.{IsProcOf}
use Rattle.proc_summary.specs.declared.stop.Flow.{Flow}
use Rattle.proc_summary.specs.declared.stop.NodeFormula.{NodeFormula}
use Rattle.proc_summary.specs.Claims.{FitsFlow, FitsStop}
use Rattle.proc_summary.specs.Subject.{own_graph}
use Rattle.proc_summary.proofs.Graphs.{few-arcs}
use Rattle.context.specs.declared.stand.Widths.{Widths}
use Rattle.context.specs.Claims.{AreFlows}
use Rattle.context.specs.Entries.{Calling, call_way, call_ways, calling_by, callings_in, node_of, nodes_of, start_case, start_way, ways_from, ways_of, widths_of}
use Rattle.context.specs.Made.{AreArguments, AreWidths}
use Rattle.context.proofs.CallLeaves.{leaf-fits, leaf-solvable}
use Rattle.context.proofs.EntryGraph.{AreWays, IsWay, entry-columns, node-found, none-columns}
use Rattle.context.proofs.AssertionPlaces.{proc-fit}

pub each-by-place : {X : Type 0} (P : X → Type 0) (xs : List X) → ((k : ℕ) (x : X) → slice_get xs k ≡ Some x → P x) → AllByRecursion P xs
each-by-place P [] h = tt
each-by-place P (x ∷ xs) h = (h 0 x refl, each-by-place P xs (λ k y e. h (suc k) y e))

-- ---- calls

-- a call of a procedure with a number for each parameter
pub record IsCalling (program : Program) (columns : ℕ) (calling : Calling) : Type 0 where
  pub callee : Proc
  pub is : IsProcOf program calling.callee callee
  pub params : callee.params ≡ length calling.args
  pub args : AreArguments columns calling.args

pub widths-fit : (program : Program) (p : Proc) → IsWellFormed program → IsProcFit program p → AreWidths (widths_of program p)
widths-fit program p formed fit =
    let globals = formed.globals in
    let slots = fit.slots in
    let first = fit.first in
    record { entry = omega (arith, first); globals = omega arith; few = omega (arith, globals, slots) }

calling-fits : (program : Program) (columns : ℕ) (statement : Statement) → IsWellFormed program → EdgeFits program columns statement → AllByRecursion (IsCalling program columns) (calling_by statement)
calling-fits program columns (Set col value) formed h = tt
calling-fits program columns (Any col) formed h = tt
calling-fits program columns (Call proc args into) formed h =
    let params = (proc-fit program proc h.callee formed h.is).params in
    let same = h.params in
    (record { callee = h.callee; is = h.is; params = h.params; args = record { below = h.below; operators = h.operators; few = omega (arith, params, same) } }, tt)
calling-fits program columns (Guard cond) formed h = tt
calling-fits program columns (Check number cond) formed h = tt
calling-fits program columns (If cond a b) formed h = tt
calling-fits program columns (Loop pre cond body step first) formed h = tt
calling-fits program columns Break formed h = tt
calling-fits program columns Continue formed h = tt
calling-fits program columns Return formed h = tt

constants-fit : (aux : ℕ) (globals : List GlobalVar) → IsTrue (list_all (every_column (is_below 0 aux)) (map (λ (g : GlobalVar). constant_of g.init) globals))
constants-fit aux [] = refl
constants-fit aux (g ∷ globals) = constants-fit aux globals

start-fits : (program : Program) → IsTrue (fits 0 (length program.globals) (start_case program))
start-fits program = from_fitting 0 (length program.globals) (start_case program) (record { length_is = length-map program.globals (λ (g : GlobalVar). constant_of g.init); rows_are = refl; posts_are = constants-fit 0 program.globals })

pub start-leaf-fits : (program : Program) → IsTransition 0 (length program.globals) (start_case program ∷ [])
start-leaf-fits program = both_true (fits 0 (length program.globals) (start_case program)) true (start-fits program) refl

module _ (program : Program) (formed : IsWellFormed program) where
  pub arcs-fit : (number : ℕ) (p : Proc) → IsProcOf program number p → AllByRecursion (λ (way : Arc). EdgeFits program (width_of program p) way.act) (own_graph p).arcs
  arcs-fit number p is =
      each-by-place (λ (way : Arc). EdgeFits program (width_of program p) way.act) (own_graph p).arcs
      (λ k way e. act-fits program number p way.act formed is
      (record { place = k; way = way; is = ap (λ (o : Option Proc). slice_get (flow_of (body_of o)).arcs k) is ∙ e; does = refl }))

  pub callings-fit : (number : ℕ) (p : Proc) → IsProcOf program number p → AllByRecursion (IsCalling program (width_of program p)) (callings_in (own_graph p).arcs)
  callings-fit number p is =
      each-flat_map (λ (way : Arc). EdgeFits program (width_of program p) way.act) (IsCalling program (width_of program p)) (λ way. calling_by way.act)
      (λ way fit. calling-fits program (width_of program p) way.act formed fit) (own_graph p).arcs (arcs-fit number p is)

  module _ (m : Proc) (is_main : IsProcOf program program.main m) (no_params : m.params ≡ 0) where
    call-way-fits : (number : ℕ) (p : Proc) → IsProcOf program number p → (calling : Calling) (stop : NodeFormula) → IsCalling program (width_of program p) calling → FitsStop (width_of program p) stop
        → IsWay program (call_way program.main number (widths_of program p) calling stop)
    call-way-fits number p is calling stop call fit =
        let w : Widths = widths_of program p in
        let wide = widths-fit program p formed (proc-fit program number p formed is) in
        let params = call.params in
        let to : length program.globals + length calling.args ≡ entry_width program call.callee = omega (arith, params) in
        record {
          from = entry_of program p;
          from_is = node-found program m is_main number p is;
          to = entry_of program call.callee;
          to_is = node-found program m is_main calling.callee call.callee call.is;
          between = record {
            from_is = sym (entry-columns program p);
            to_is = to ∙ sym (entry-columns program call.callee);
            fits = leaf-fits w wide stop.formula fit calling.args call.args;
          };
          solvable = leaf-solvable w wide stop.formula fit calling.args call.args;
        }

    call-ways-fit : (number : ℕ) (p : Proc) → IsProcOf program number p → (callings : List Calling) (stops : List NodeFormula) → AllByRecursion (IsCalling program (width_of program p)) callings
        → AllByRecursion (FitsStop (width_of program p)) stops → AreWays program (call_ways program.main number (widths_of program p) callings stops)
    call-ways-fit number p is [] stops h k = tt
    call-ways-fit number p is (calling ∷ callings) [] h k = tt
    call-ways-fit number p is (calling ∷ callings) (stop ∷ stops) h k = (call-way-fits number p is calling stop h.0 k.0, call-ways-fit number p is callings stops h.1 k.1)

    ways-from-fit : (number : ℕ) (procs : List Proc) (flows : List Flow) → ((k : ℕ) (p : Proc) → slice_get procs k ≡ Some p → slice_get program.procs (number + k) ≡ Some p)
        → ((k : ℕ) (p : Proc) (flow : Flow) → slice_get procs k ≡ Some p → slice_get flows k ≡ Some flow → FitsFlow program p flow) → AreWays program (ways_from program number procs flows)
    ways-from-fit number [] flows there fit = tt
    ways-from-fit number (p ∷ procs) [] there fit = tt
    ways-from-fit number (p ∷ procs) (flow ∷ flows) there fit =
        let zero_more : number + 0 ≡ number = omega arith in
        let is : IsProcOf program number p = sym (ap (slice_get program.procs) zero_more) ∙ there 0 p refl in
        let flow_fits = fit 0 p flow refl refl in
        each-append (IsWay program) (call_ways program.main number (widths_of program p) (callings_in (own_graph p).arcs) flow.calls) (ways_from program (number + 1) procs flows)
        (call-ways-fit number p is (callings_in (own_graph p).arcs) flow.calls (callings-fit number p is) (recursion_from_All (FitsStop (width_of program p)) flow.calls flow_fits.calls))
        (ways-from-fit (number + 1) procs flows
        (λ k q e. let next : number + 1 + k ≡ number + suc k = omega arith in ap (slice_get program.procs) next ∙ there (suc k) q e)
        (λ k q f e d. fit (suc k) q f e d))

    -- ---- the start

    start-way-fits : IsWay program (start_way program)
    start-way-fits =
        let globals = formed.globals in
        let node : node_of program.main program.main ≡ 1 = main-node in
        let columns : length program.globals ≡ entry_width program m = omega (arith, no_params) in
        record {
          from = start_of program;
          from_is = refl;
          to = entry_of program m;
          to_is = sym (ap (slice_get (nodes_of program)) node) ∙ node-found program m is_main program.main m is_main;
          between = record {
            from_is = sym (none-columns program);
            to_is = columns ∙ sym (entry-columns program m);
            fits = start-leaf-fits program;
          };
          solvable = All-from_recursion IsSolvable (start_case program ∷ []) (fits-solvable 0 (length program.globals) (start_case program) (start-fits program) (omega (arith, globals)), tt);
        }
      where
        main-node : node_of program.main program.main ≡ 1
        main-node = ap (λ b. if b then 1 else (if nat_lt program.main program.main then program.main + 2 else program.main + 1)) (eq-eqb program.main program.main refl)

    pub ways-fit : (flows : List Flow) → AreFlows program flows → AreWays program (ways_of program flows)
    ways-fit flows are = (start-way-fits, ways-from-fit 0 program.procs flows (λ k p e. let same : 0 + k ≡ k = omega arith in ap (slice_get program.procs) same ∙ e) (λ k p flow e d. are.fit k p flow e d))

-- `main` is a procedure without parameters
pub main-is : (program : Program) → IsWellFormed program → (m : Proc) × (IsProcOf program program.main m) × (m.params ≡ 0)
main-is program formed = go (slice_get program.procs program.main) refl formed.main
  where
    go : (o : Option Proc) → slice_get program.procs program.main ≡ o → IsSomeAnd o (λ p. p.params ≡ 0) → (m : Proc) × (IsProcOf program program.main m) × (m.params ≡ 0)
    go None e h = absurd h
    go (Some m) e h = (m, e, h)

-- ---- how many there are

callings-few : (arcs : List Arc) → length (callings_in arcs) ≤ length arcs
callings-few [] = omega arith
callings-few (way ∷ arcs) =
    let rest = callings-few arcs in
    let all = length-append (calling_by way.act) (callings_in arcs) in
    let one = at-most-one way.act in omega (arith, rest, all, one)
  where
    at-most-one : (statement : Statement) → length (calling_by statement) ≤ 1
    at-most-one (Set col value) = omega arith
    at-most-one (Any col) = omega arith
    at-most-one (Call proc args into) = omega arith
    at-most-one (Guard cond) = omega arith
    at-most-one (Check number cond) = omega arith
    at-most-one (If cond a b) = omega arith
    at-most-one (Loop pre cond body step first) = omega arith
    at-most-one Break = omega arith
    at-most-one Continue = omega arith
    at-most-one Return = omega arith

call-ways-few : (main number : ℕ) (w : Widths) (callings : List Calling) (stops : List NodeFormula) → length (call_ways main number w callings stops) ≤ length callings
call-ways-few main number w [] stops = omega arith
call-ways-few main number w (calling ∷ callings) [] = omega arith
call-ways-few main number w (calling ∷ callings) (stop ∷ stops) = let rest = call-ways-few main number w callings stops in omega (arith, rest)

ways-from-few : (program : Program) (number : ℕ) (procs : List Proc) (flows : List Flow) → AllByRecursion (IsProcFit program) procs → length (ways_from program number procs flows) ≤ 1024 * length procs
ways-from-few program number [] flows fit = omega arith
ways-from-few program number (p ∷ procs) [] fit = omega arith
ways-from-few program number (p ∷ procs) (flow ∷ flows) fit =
    let own = call_ways program.main number (widths_of program p) (callings_in (own_graph p).arcs) flow.calls in
    let one = call-ways-few program.main number (widths_of program p) (callings_in (own_graph p).arcs) flow.calls in
    let two = callings-few (own_graph p).arcs in
    let three = few-arcs program p fit.0 in
    let rest = ways-from-few program (number + 1) procs flows fit.1 in
    let all = length-append own (ways_from program (number + 1) procs flows) in
    omega (arith, one, two, three, rest, all)

pub few-ways : (program : Program) (flows : List Flow) → IsWellFormed program → length (ways_of program flows) < 2 ^ 32
few-ways program flows formed =
    let few = ways-from-few program 0 program.procs flows (recursion_from_All (IsProcFit program) program.procs formed.each) in
    let procs = formed.procedures in omega (arith, few, procs)
