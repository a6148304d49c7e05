-- Each way out of a point leads between the columns of the procedure and those of its target.
use Rattle.std.proofs.Common.{◌≡◌, ℕ, zero, suc, ◌+◌, ◌-◌, ◌<◌, ◌≤◌, ◌^◌, Bool, true, false, length, take, List, ◌++◌, Option, None, Some, refl, sym, ap, subst, ◌∙◌, length-append, arith}
use Rattle.std.specs.Prelude.{All, IsTrue, slice_get}
use Rattle.std.specs.List.{AllByRecursion, range_with_len}
use Rattle.std.proofs.lemmas.List.Elements.{All-from_recursion}
use Rattle.std.proofs.lemmas.List.FromFn.{length-range_with_len}
use Rattle.items.proofs.Each.{each-append, each-more}
use Rattle.linear_terms.specs.declared.row.Case.{Case}
use Rattle.path_expr.specs.declared.cell.Cell.{Cell}
use Rattle.syntax_tree.specs.declared.program.Proc.{Proc}
use Rattle.syntax_tree.specs.declared.program.Program.{Program}
use Rattle.syntax_tree.specs.Code.{code_of}
use Rattle.syntax_tree.specs.Term.{Term}
use Rattle.syntax_tree.specs.Value.{State}
use Rattle.syntax_tree.specs.WellFormed.{IsProcFit, IsWellFormed, all_columns_below, joint_operators, width_of}
use Rattle.transition_formula.specs.Composition.{sequence_of}
use Rattle.transition_formula.specs.Posts.{numbers_at}
use Rattle.transition_formula.specs.Transition.{AreFew, IsTransition, Transition}
use Rattle.transition_formula.proofs.Fitting.{sequence_of-fits}
use Rattle.flow_graph.specs.FlowGraph.{exit_of}
use Rattle.flow_graph.specs.Laws.{last_of}
use Rattle.leaf_cases.specs.Edges.{arguments_of}
use Rattle.leaf_cases.specs.Summaries.{exit_values}
use Rattle.leaf_cases.proofs.Arguments.{arguments-fit}
use Rattle.leaf_cases.proofs.EdgeFits.{entering_few, entering_fits}
use Rattle.leaf_cases.proofs.Graphs.{CallFits}
use Rattle.vocabularies.specs.Ends.{entry_width, exit_width, value_width}
use Rattle.vocabularies.specs.Procs.{IsProcOf}
use Rattle.proc_summary.specs.Flow.{formula_at}
use Rattle.proc_summary.specs.Subject.{own_graph}
use Rattle.proc_summary.specs.Summary.{ends_of, exit_places, value_place}
use Rattle.proc_summary.proofs.ExitSummaries.{numbers-told}
use Rattle.context.specs.Ends.{HasFew}
use Rattle.context.proofs.AssertionPlaces.{proc-fit}
use Rattle.context.proofs.Few.{few-below, few-more, few-pairs, sequence-few}
use Rattle.context.proofs.PlaceColumns.{full-columns}
use Rattle.context.proofs.WaysFit.{arcs-fit}
use Rattle.point_induction.specs.Points.{heads_of}
use Rattle.point_steps.specs.declared.outs.WayOut.{WayOut}
use Rattle.point_steps.specs.declared.target.Target.{Target}
use Rattle.point_steps.specs.declared.target.Target.TheVariants.{Head, Entry, Exit, Check}
use Rattle.point_steps.specs.Claims.{AreWayCells, IsState, IsWayFormula, entry_columns}
use Rattle.point_steps.specs.Outs.{arguments_formula, call_outs, check_outs, entry_out, exit_outs, head_outs, outs_of}
use Rattle.point_steps.specs.Parts.{ArePlacesAt, IsOut, IsOutFormula, IsStepOrigin, IsWayOut, way_columns}
use Rattle.point_steps.proofs.StepOuts.{Stays, all-calls, all-checks, all-exits, all-heads, way_to}

-- ---- from a state to the globals and arguments

module _ (columns globals : ℕ) (args : List Term) (wide : globals ≤ columns) (narrow : columns ≤ 63) (few : length args ≤ 8) (below : IsTrue (all_columns_below columns args)) (operators : joint_operators args ≤ 200000) where
  pub arguments-formula-fits : IsTransition columns (globals + length args) (arguments_formula columns globals args).cases
  arguments-formula-fits = entering_fits columns globals (length args) (arguments_of args).cases (arguments_formula columns globals args).cases wide (arguments-fit columns args below) refl

  pub arguments-formula-few : HasFew (2 ^ 31 - 1) (arguments_formula columns globals args)
  arguments-formula-few =
      let same : 2 ^ 31 ≡ 2 ^ 31 - 1 + 1 = omega arith in
      few-below (2 ^ 31 - 1) (arguments_formula columns globals args)
      (subst (λ n. All (λ (case : Case). case.aux < n) (arguments_formula columns globals args).cases) same (entering_few columns globals args (arguments_formula columns globals args) below operators refl))

  module _ (way : Transition) (is : IsWayFormula columns way) where
    pub way-meets : way.to ≡ (arguments_formula columns globals args).from
    way-meets = is.to

    pub way-few : AreFew way (arguments_formula columns globals args)
    way-few = few-pairs 64 (2 ^ 31 - 1) way (arguments_formula columns globals args) is.few arguments-formula-few (omega (arith, wide, narrow, few))

    pub entry-fits : IsTransition way.from (globals + length args) (sequence_of way (arguments_formula columns globals args)).cases
    entry-fits = sequence_of-fits way (arguments_formula columns globals args) way-meets is.fits arguments-formula-fits

    pub entry-few : HasFew (2 ^ 31 + 1000) (sequence_of way (arguments_formula columns globals args))
    entry-few =
        few-more (64 + (2 ^ 31 - 1) + (globals + length args)) (2 ^ 31 + 1000) (sequence_of way (arguments_formula columns globals args)) (omega (arith, wide, narrow, few))
        (sequence-few 64 (2 ^ 31 - 1) way (arguments_formula columns globals args) arguments-formula-fits is.few arguments-formula-few)

    pub entry-formula : IsOutFormula columns (sequence_of way (arguments_formula columns globals args))
    entry-formula = record { from = is.from; to = omega (arith, wide, narrow, few); fits = entry-fits; few = entry-few }

-- ---- all ways out

entry-columns-of : (program : Program) (callee : ℕ) (q : Proc) → slice_get program.procs callee ≡ Some q → entry_columns program (slice_get program.procs callee) ≡ entry_width program q
entry-columns-of program callee q e = ap (entry_columns program) e

module _ (program : Program) (proc : ℕ) (p : Proc) (formed : IsWellFormed program) (is : IsProcOf program proc p) where
  fit : IsProcFit program p
  fit = proc-fit program proc p formed is

  pub narrow-width : width_of program p ≤ 63
  narrow-width = let globals = formed.globals in let slots = fit.slots in omega (arith, globals, slots)

  pub globals-within : length program.globals ≤ width_of program p
  globals-within = omega arith

  module _ (cells : List (Cell Transition)) (ways : AreWayCells (width_of program p) cells) where
    own-way : (target : Target) (node : ℕ) (f : Transition) → Stays target → formula_at (width_of program p) cells node ≡ Some f → IsWayOut program p (way_to target f)
    own-way target node f stays e =
        let way = ways.each node f e in
        record { from = way.from; to = way.to ∙ same target stays; fits = way.fits; few = few-more 64 (2 ^ 31 + 1000) f (omega arith) way.few }
      where
        same : (target : Target) → Stays target → width_of program p ≡ way_columns program p target
        same (Head node) h = refl
        same (Entry callee) h = absurd h
        same Exit h = refl
        same (Check number) h = refl

    entry-way : (callee : ℕ) (terms : List Term) (into : Option ℕ) (from : ℕ) (f : Transition) → CallFits program (width_of program p) callee terms into → formula_at (width_of program p) cells from ≡ Some f
        → IsWayOut program p (entry_out (width_of program p) (length program.globals) f callee terms)
    entry-way callee terms into from f h e =
        let way = ways.each from f e in
        let params = (proc-fit program callee h.callee formed h.is).params in
        let same = h.params in
        let few : length terms ≤ 8 = omega (arith, params, same) in
        let entry = entry-columns-of program callee h.callee h.is in
        record {
          from = way.from;
          to = sym (entry ∙ (λ i. length program.globals + same i));
          fits = entry-fits (width_of program p) (length program.globals) terms globals-within narrow-width few h.below h.operators f way;
          few = entry-few (width_of program p) (length program.globals) terms globals-within narrow-width few h.below h.operators f way;
        }

    pub each-out : (point : ℕ) → AllByRecursion (IsWayOut program p) (outs_of program proc p point cells)
    each-out point =
        let columns = width_of program p in
        let g = own_graph p in
        let heads = head_outs columns cells g.nodes (heads_of g) in
        let calls = call_outs columns (length program.globals) cells g.arcs point in
        let exits = exit_outs program.main proc columns cells (exit_of (code_of p.body)) in
        let checks = check_outs columns cells g.arcs point 0 g.checks in
        each-append (IsWayOut program p) heads (calls ++ (exits ++ checks)) (all-heads (IsWayOut program p) columns cells own-way g.nodes (heads_of g))
        (each-append (IsWayOut program p) calls (exits ++ checks) (all-calls (IsWayOut program p) program columns (length program.globals) cells point entry-way g.arcs g.arcs (arcs-fit program formed proc p is))
        (each-append (IsWayOut program p) exits checks (all-exits (IsWayOut program p) columns cells own-way program.main proc (exit_of (code_of p.body))) (all-checks (IsWayOut program p) columns cells own-way g.arcs point 0 g.checks)))

  -- ---- the columns that are told at the exit

  places-below : (returns : Bool) → AllByRecursion (λ place. place < width_of program p) (range_with_len 0 (length program.globals) ++ value_place returns (width_of program p))
  places-below returns =
      each-append (λ place. place < width_of program p) (range_with_len 0 (length program.globals)) (value_place returns (width_of program p)) (range-below 0 (length program.globals) (omega arith)) (value-below returns)
    where
      range-below : (a n : ℕ) → a + n ≤ length program.globals → AllByRecursion (λ place. place < width_of program p) (range_with_len a n)
      range-below a zero le = tt
      range-below a (suc n) le = (omega (arith, le), range-below (a + 1) n (omega (arith, le)))

      value-below : (returns : Bool) → AllByRecursion (λ place. place < width_of program p) (value_place returns (width_of program p))
      value-below true = (omega arith, tt)
      value-below false = tt

  exit-places-are : exit_places (ends_of program p) ≡ range_with_len 0 (length program.globals) ++ value_place p.returns (width_of program p)
  exit-places-are = ap (λ n. range_with_len 0 (length program.globals) ++ value_place p.returns n) (full-columns program p)

  pub exit-places-below : All (λ place. place < width_of program p) (exit_places (ends_of program p))
  exit-places-below =
      All-from_recursion (λ place. place < width_of program p) (exit_places (ends_of program p))
      (subst (AllByRecursion (λ place. place < width_of program p)) (sym exit-places-are) (places-below p.returns))

  pub exit-places-told : (after : State) → length after ≡ width_of program p → numbers_at (exit_places (ends_of program p)) after ≡ exit_values p (take (length program.globals) after) (last_of after)
  exit-places-told after long =
      ap (λ places. numbers_at places after) exit-places-are
      ∙ numbers-told p.returns (length program.globals) (width_of program p) after (take (length program.globals) after) (last_of after) long globals-within refl refl

  pub exit-places-length : length (exit_places (ends_of program p)) ≡ exit_width program p
  exit-places-length =
      ap length exit-places-are ∙ length-append (range_with_len 0 (length program.globals)) (value_place p.returns (width_of program p))
      ∙ (λ i. length-range_with_len 0 (length program.globals) i + value-length p.returns i)
    where
      value-length : (returns : Bool) → length (value_place returns (width_of program p)) ≡ value_width returns
      value-length true = refl
      value-length false = refl

  value-few : (returns : Bool) → value_width returns ≤ 1
  value-few true = omega arith
  value-few false = omega arith

  -- ---- for the code

  pub out-ready : (places : List ℕ) → places ≡ exit_places (ends_of program p) → (out : WayOut) → IsWayOut program p out → IsOut (width_of program p) places out
  out-ready places same out is_out =
      let narrow = narrow-width in
      record {
        formula = record { from = is_out.from; to = few-columns out.target out.formula is_out.to; fits = is_out.fits; few = is_out.few };
        there = there out.target out.formula is_out.to;
      }
    where
      entry-narrow : (callee : ℕ) (o : Option Proc) → slice_get program.procs callee ≡ o → entry_columns program o ≤ 1000
      entry-narrow callee None e = omega arith
      entry-narrow callee (Some q) e = let globals = formed.globals in let params = (proc-fit program callee q formed e).params in omega (arith, globals, params)

      few-columns : (target : Target) (f : Transition) → f.to ≡ way_columns program p target → f.to ≤ 1000
      few-columns (Head node) f e = let narrow = narrow-width in omega (arith, e, narrow)
      few-columns (Entry callee) f e = let few = entry-narrow callee (slice_get program.procs callee) refl in omega (arith, e, few)
      few-columns Exit f e = let narrow = narrow-width in omega (arith, e, narrow)
      few-columns (Check number) f e = let narrow = narrow-width in omega (arith, e, narrow)

      there : (target : Target) (f : Transition) → f.to ≡ way_columns program p target → ArePlacesAt places target f
      there (Head node) f e = tt
      there (Entry callee) f e = tt
      there Exit f e = subst (λ n. All (λ place. place < n) places) (sym e) (subst (All (λ place. place < width_of program p)) (sym same) exit-places-below)
      there (Check number) f e = tt

  pub outs-ready : (cells : List (Cell Transition)) → AreWayCells (width_of program p) cells → (point : ℕ) (places : List ℕ) → places ≡ exit_places (ends_of program p) → (outs : List WayOut) → outs ≡ outs_of program proc p point cells → AllByRecursion (IsOut (width_of program p) places) outs
  outs-ready cells ways point places same outs e =
      each-more (IsWayOut program p) (IsOut (width_of program p) places) (out-ready places same) outs (subst (AllByRecursion (IsWayOut program p)) (sym e) (each-out cells ways point))

  pub state-ready : (state : Transition) → IsState (width_of program p + entry_width program p) state → (places : List ℕ) → places ≡ exit_places (ends_of program p) → IsStepOrigin (width_of program p) places state
  state-ready state is_state places same =
      let narrow = narrow-width in
      let globals = formed.globals in
      let params = fit.params in
      let to = is_state.to in
      let long = ap length same ∙ exit-places-length in
      let value = value-few p.returns in
      record {
        from = is_state.from;
        to = omega (arith, to);
        few_columns = omega (arith, to, narrow, globals, params);
        few_places = omega (arith, long, globals, value);
        fits = is_state.fits;
        few = is_state.few;
      }
