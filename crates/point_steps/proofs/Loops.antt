-- Loops that make the ways out.
use Rattle.std.proofs.Common.{◌≡◌, ℕ, ◌+◌, ◌<◌, ◌≤◌, ◌-◌, Bool, true, length, map, drop, get_or, List, [], ◌∷◌, ◌++◌, Option, Some, refl, sym, ap, subst, ◌∙◌, append_assoc, append-nil, arith}
use Rattle.std.specs.Prelude.{if◌then◌else◌}
use Rattle.std.specs.List.{flat_map}
use Rattle.std.proofs.lemmas.List.{drop_all}
use Rattle.path_expr.specs.declared.cell.Cell.{Cell}
use Rattle.transition_formula.specs.Transition.{Transition}
use Rattle.transition_formula.proofs.Loops.{at_index}
use Rattle.flow_graph.specs.declared.parts.CheckNode.{CheckNode}
use Rattle.syntax_tree.specs.declared.program.Proc.{Proc}
use Rattle.syntax_tree.specs.Code.{code_of}
use Rattle.syntax_tree.specs.Term.{Term}
use Rattle.syntax_tree.specs.WellFormed.{width_of}
use Rattle.flow_graph.specs.FlowGraph.{Arc, FlowGraph, body_of, exit_of, flow_of}
use Rattle.flow_graph.specs.Plain.{check_of, plain}
use Rattle.leaf_cases.specs.Conditions.{columns_in}
use Rattle.vocabularies.specs.Procs.{IsProcOf}
use Rattle.proc_summary.specs.Subject.{own_graph}
use Rattle.context.specs.Made.{AreArguments}
use Rattle.context.proofs.AssertionPlaces.{proc-fit}
use Rattle.context.proofs.PlaceColumns.{got}
use Rattle.point_induction.specs.Points.{heads_of}
use Rattle.proc_summary.specs.Flow.{formula_at}
use Rattle.point_steps.specs.declared.outs.WayOut.{WayOut}
use Rattle.point_steps.specs.declared.source.StepSource.{StepSource}
use Rattle.point_steps.specs.declared.target.Target.TheVariants.{Head, Check}
use Rattle.point_steps.specs.Claims.{IsStepSource, IsWayFormula}
use Rattle.point_steps.specs.Outs.{call_outs, check_outs, entry_out, entry_outs, exit_outs, head_outs, if_passed, is_passed, out_to, outs_of}
use Rattle.point_steps.specs.Parts.{AreWidthsOf, outs_by_call, own_calls, own_checks, own_columns, own_exits, own_heads}
use Rattle.point_steps.proofs.HeadPlaces.{heads-few}
use Rattle.point_steps.proofs.OutFits.{globals-within, narrow-width}

-- ---- any list of ways out

pub no-heads : {whole : List WayOut} (outs : List WayOut) → outs ≡ [] → outs ++ whole ≡ whole
no-heads {whole} outs e = ap (λ l. l ++ whole) e

pub flat_map-mapped : {A B C : Type 0} (f : B → List C) (g : A → B) (xs : List A) → flat_map f (map g xs) ≡ flat_map (λ x. f (g x)) xs
flat_map-mapped f g [] = refl
flat_map-mapped f g (x ∷ xs) = ap (λ l. f (g x) ++ l) (flat_map-mapped f g xs)

-- ---- heads

module _ (columns : ℕ) (cells : List (Cell Transition)) (heads : List ℕ) (i : ℕ) where
  pub heads-next : (head arrival : ℕ) (outs next : List WayOut) (way : Option Transition) → i < length heads → head ≡ get_or heads i head → way ≡ formula_at columns cells arrival → next ≡ outs ++ out_to (Head head) way
      → next ++ head_outs columns cells (arrival + 1) (drop (i + 1) heads) ≡ outs ++ head_outs columns cells arrival (drop i heads)
  heads-next head arrival outs next way lt is at pushed =
      let rest = head_outs columns cells (arrival + 1) (drop (i + 1) heads) in
      ap (λ l. l ++ rest) (pushed ∙ ap (λ o. outs ++ out_to (Head head) o) at)
      ∙ append_assoc outs (out_to (Head head) (formula_at columns cells arrival)) rest
      ∙ ap (λ l. outs ++ head_outs columns cells arrival l) (sym (at_index heads i head lt is))

  pub heads-end : {whole : List WayOut} (arrival : ℕ) (outs : List WayOut) → length heads ≤ i → outs ++ head_outs columns cells arrival (drop i heads) ≡ whole → outs ≡ whole
  heads-end arrival outs le e = sym (append-nil outs) ∙ ap (λ l. outs ++ head_outs columns cells arrival l) (sym (drop_all i heads le)) ∙ e

-- ---- assertions

module _ (columns : ℕ) (cells : List (Cell Transition)) (arcs : List Arc) (point : ℕ) (checks : List CheckNode) (i : ℕ) where
  pub checks-next : (check : CheckNode) (outs next : List WayOut) → i < length checks → check ≡ get_or checks i check
      → next ≡ outs ++ if_passed arcs point (check_of check).node (out_to (Check i) (formula_at columns cells (check_of check).node))
      → next ++ check_outs columns cells arcs point (i + 1) (map check_of (drop (i + 1) checks)) ≡ outs ++ check_outs columns cells arcs point i (map check_of (drop i checks))
  checks-next check outs next lt is pushed =
      let rest = check_outs columns cells arcs point (i + 1) (map check_of (drop (i + 1) checks)) in
      ap (λ l. l ++ rest) pushed
      ∙ append_assoc outs (if_passed arcs point (check_of check).node (out_to (Check i) (formula_at columns cells (check_of check).node))) rest
      ∙ ap (λ l. outs ++ check_outs columns cells arcs point i (map check_of l)) (sym (at_index checks i check lt is))

  pub checks-end : {whole : List WayOut} (outs : List WayOut) → length checks ≤ i → outs ++ check_outs columns cells arcs point i (map check_of (drop i checks)) ≡ whole → outs ≡ whole
  checks-end outs le e = sym (append-nil outs) ∙ ap (λ l. outs ++ check_outs columns cells arcs point i (map check_of l)) (sym (drop_all i checks le)) ∙ e

-- ---- what a source has

module _ (source : StepSource) (known : IsStepSource source) where
  graph-is : (p : Proc) → IsProcOf source.program.now source.proc p → plain source.graph.now ≡ own_graph p
  graph-is p is = known.graph.same ∙ ap (λ (o : Option Proc). flow_of (body_of o)) is

  columns-are : (p : Proc) → IsProcOf source.program.now source.proc p → own_columns source ≡ width_of source.program.now p
  columns-are p is = ap (columns_in source.program.now) is

  pub few-arrivals : source.graph.now.nodes + length source.heads.now ≤ 1024
  few-arrivals =
      let there = got source.program.now.procs source.proc known.procedure in
      let same = ap (λ (g : FlowGraph). g.nodes) (graph-is there.0 there.1) in
      let few = (proc-fit source.program.now source.proc there.0 known.formed there.1).nodes in
      let heads = ap length known.heads in
      let most = heads-few (plain source.graph.now) in
      omega (arith, same, few, heads, most)

  narrow-columns : own_columns source ≤ 63
  narrow-columns =
      let there = got source.program.now.procs source.proc known.procedure in
      let wide = columns-are there.0 there.1 in
      let narrow = narrow-width source.program.now source.proc there.0 known.formed there.1 in
      omega (arith, wide, narrow)

  globals-there : length source.program.now.globals ≤ own_columns source
  globals-there =
      let there = got source.program.now.procs source.proc known.procedure in
      let wide = columns-are there.0 there.1 in
      let within = globals-within source.program.now source.proc there.0 known.formed there.1 in
      omega (arith, wide, within)

  module _ (columns from : ℕ) (way : Transition) (wide : columns ≡ own_columns source) (is : formula_at columns source.cells.now from ≡ Some way) where
    found-way : IsWayFormula (own_columns source) way
    found-way = known.ways.each from way (ap (λ n. formula_at n source.cells.now from) (sym wide) ∙ is)

    pub own-way : IsWayFormula way.to way
    own-way = subst (λ n. IsWayFormula n way) (sym found-way.to) found-way

    pub own-widths : (globals : ℕ) → globals ≡ length source.program.now.globals → AreWidthsOf globals way
    own-widths globals same =
        let to = found-way.to in
        let narrow = narrow-columns in
        let within = globals-there in
        record { within = omega (arith, to, within, same); few = omega (arith, to, narrow) }

    pub own-arguments : (args : List Term) → AreArguments (own_columns source) args → AreArguments way.to args
    own-arguments args h = subst (λ n. AreArguments n args) (sym found-way.to) h

    pub call-made : (passed : Bool) → passed ≡ is_passed (plain source.graph.now).arcs source.node from → passed ≡ true → (globals : ℕ) → globals ≡ length source.program.now.globals → (callee : ℕ) (args : List Term) (out : WayOut)
        → out ≡ entry_out way.to globals way callee args → (outs next : List WayOut) → next ≡ outs ++ out ∷ [] → next ≡ outs ++ outs_by_call source from callee args
    call-made passed tested there globals same callee args out made outs next pushed =
        pushed ∙ (λ i. outs ++ (made ∙ (λ j. entry_out (found-way.to j) (same j) way callee args)) i ∷ [])
        ∙ ap (λ l. outs ++ l) (ap (entry_outs (own_columns source) (length source.program.now.globals) callee args) (sym (ap (λ n. formula_at n source.cells.now from) (sym wide) ∙ is)))
        ∙ ap (λ b. outs ++ (if b then entry_outs (own_columns source) (length source.program.now.globals) callee args (formula_at (own_columns source) source.cells.now from) else [])) (sym there ∙ tested)

  pub outs-together : (p : Proc) → IsProcOf source.program.now source.proc p → (heads calls exits checks : List WayOut) → heads ≡ own_heads source → calls ≡ own_calls source → exits ≡ own_exits source → checks ≡ own_checks source
      → heads ++ (calls ++ (exits ++ checks)) ≡ outs_of source.program.now source.proc p source.node source.cells.now
  outs-together p is heads calls exits checks a b c d =
      let g = graph-is p is in
      let w = columns-are p is in
      let cells = source.cells.now in
      let last : source.graph.now.nodes - 1 ≡ exit_of (code_of p.body) = let same = ap (λ (g : FlowGraph). g.nodes) g in omega (arith, same) in
      λ i.
      (a ∙ (λ j. head_outs (w j) cells (FlowGraph.nodes (g j)) ((known.heads ∙ ap heads_of g) j))) i
      ++ ((b ∙ (λ j. call_outs (w j) (length source.program.now.globals) cells (FlowGraph.arcs (g j)) source.node)) i
      ++ ((c ∙ (λ j. exit_outs source.program.now.main source.proc (w j) cells (last j))) i
      ++ (d ∙ (λ j. check_outs (w j) cells (FlowGraph.arcs (g j)) source.node 0 (FlowGraph.checks (g j)))) i))
