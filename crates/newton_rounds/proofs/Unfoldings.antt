-- The formula of one more unfolding holds of each activation whose calls the known formulas tell.
use Rattle.std.proofs.Common.{◌≡◌, ℕ, ℤ, ◌+◌, ◌<◌, List, ◌++◌, length, Option, Some, None, refl, sym, ap, subst, ◌∙◌, length-append, arith}
use Rattle.std.specs.Prelude.{slice_get, unwrap_or}
use Rattle.std.proofs.lemmas.List.{length-replicate}
use Rattle.items.proofs.Each.{each-map}
use Rattle.linear_terms.proofs.Canonical.{IsCanonical-substituted}
use Rattle.path_expr.specs.declared.cell.Cell.{Cell}
use Rattle.path_expr.specs.declared.cell.Cell.TheVariants as found
use Rattle.syntax_tree.specs.declared.program.Proc.{Proc}
use Rattle.syntax_tree.specs.declared.program.Program.{Program}
use Rattle.syntax_tree.specs.Code.{code_of}
use Rattle.syntax_tree.specs.Value.{State}
use Rattle.syntax_tree.specs.WellFormed.{IsWellFormed, width_of}
use Rattle.transition_formula.specs.Hiding.{hidden, hidden_case, hiding}
use Rattle.transition_formula.specs.Meaning.{Covers, Holds}
use Rattle.transition_formula.specs.Posts.{case_with_posts}
use Rattle.transition_formula.specs.Transition.{Transition}
use Rattle.transition_formula.proofs.Meanings.{identity-holds}
use Rattle.flow_graph.specs.FlowGraph.{FlowGraph, body_of, exit_of, graph_of}
use Rattle.flow_graph.specs.Heights.{ReturnsOver}
use Rattle.flow_graph.specs.Walks.{CallMeaning, Stride, Walks}
use Rattle.leaf_cases.specs.Conditions.{AreKnown, KnownCalls}
use Rattle.leaf_cases.specs.Summaries.{exit_values}
use Rattle.posing.specs.Posing.{Always}
use Rattle.posing.proofs.Paths.{always_bind, always_weaker}
use Rattle.recurrence.proofs.StarLaws.{always_both}
use Rattle.vocabularies.specs.Ends.{entry_of, entry_width, full_of}
use Rattle.vocabularies.specs.Ends as ends
use Rattle.vocabularies.specs.Procs.{IsProcOf}
use Rattle.checked_tree.specs.Evaluation.{evaluated_cells, settled_and_fitted}
use Rattle.checked_tree.specs.Law.{HoldsCell, IsBetweenEnds}
use Rattle.checked_tree.proofs.Between.{settled_and_fitted-between, settled_and_fitted-covers}
use Rattle.proc_summary.specs.Claims.{FitsIf, HoldsIf, HoldsOfWalks}
use Rattle.proc_summary.specs.Flow.{cells_from, columns_of, formula_at, formula_of}
use Rattle.proc_summary.specs.Subject.{graph_by, own_graph, subject_of}
use Rattle.proc_summary.specs.Summary.{ends_of, exit_formula, exit_places, summary_from, projection_of}
use Rattle.proc_summary.proofs.Graphs.{full-columns, graph-is, holds-of-walks}
use Rattle.proc_summary.proofs.ExitSummaries.{entry-columns, entry-end, exit-end, exit-told, told-between, told-is, told-solved}
use Rattle.newton_rounds.specs.Candidates.{unfolded_formula}
use Rattle.newton_rounds.proofs.CratesBelow.{some_at}
use Rattle.checked_tree.proofs.CanonicalEvaluations.{AreCanonicalCells, AreTrueCells, IsCanonicalCell, evaluated-true, rows-canonical, settled_and_fitted-canonical}
use Rattle.recurrence.proofs.CanonicalOrder.{IsCanonicalCase, IsCanonicalFormula, rows_by-canonical}
use Rattle.newton_rounds.proofs.LeafFits.{graph-evaluated, leaves-canonical, leaves-fit, links-inside}
use Rattle.newton_rounds.proofs.Widths.{columns-are, some-nodes, states-at}
use Rattle.newton_rounds.proofs.PairLists.{some-one}

-- ---- rows of what is told

pub hidden-canonical : (n : ℕ) (f : Transition) → IsCanonicalFormula f → IsCanonicalFormula (hidden n f)
hidden-canonical n f h =
    each-map IsCanonicalCase IsCanonicalCase (hidden_case n f.from)
    (λ case k. rows_by-canonical (hiding n f.from case) (λ p r e fine. IsCanonical-substituted _ p r e) case.rows k) f.cases h

pub told-canonical : (entry : ℕ) (places : List ℕ) (f : Transition) → IsCanonicalFormula f → IsCanonicalFormula (projection_of entry places f)
told-canonical entry places f h = each-map IsCanonicalCase IsCanonicalCase (case_with_posts places) (λ case k. k) (hidden entry f).cases (hidden-canonical entry f h)

-- a formula that may be missing has canonical rows
abbrev pub IsCanonicalExit : Option Transition → Type 0
IsCanonicalExit None = Unit {0}
IsCanonicalExit (Some f) = IsCanonicalFormula f

exit-canonical : (columns : ℕ) (exit : Option Transition) → IsCanonicalExit exit → IsCanonicalFormula (exit_formula columns exit)
exit-canonical columns None h = tt
exit-canonical columns (Some f) h = h

cell-exit : (columns : ℕ) (cell : Cell Transition) → IsCanonicalCell cell → IsCanonicalExit (formula_of columns cell)
cell-exit columns found.Zero h = tt
cell-exit columns found.One h = (tt, tt)
cell-exit columns (found.Item f) h = h

pub at-canonical : (columns : ℕ) (cells : List (Cell Transition)) → AreCanonicalCells cells → (node : ℕ) → IsCanonicalExit (formula_at columns cells node)
at-canonical columns cells h node = go (slice_get cells node) refl
  where
    go : (o : Option (Cell Transition)) → slice_get cells node ≡ o → IsCanonicalExit (formula_of columns (unwrap_or o found.Zero))
    go None e = tt
    go (Some cell) e = cell-exit columns cell (h node cell e)

cell-tells : (columns : ℕ) (cell : Cell Transition) (before after : State) → length before ≡ columns → HoldsCell cell before after → HoldsIf (formula_of columns cell) before after
cell-tells columns found.Zero before after long h = h
cell-tells columns found.One before after long h = identity-holds columns before after h long
cell-tells columns (found.Item t) before after long h = h

module _ (program : Program) (proc : ℕ) (p : Proc) (known : List (Option Transition)) (is : IsProcOf program proc p) (formed : IsWellFormed program) (are : AreKnown program known) where
  abbrev width : ℕ
  width = width_of program p

  abbrev places : List ℕ
  places = exit_places (ends_of program p)

  -- ---- what stands at the nodes, from a source

  -- it fits, is canonical, and holds of walks from the source
  pub record AreTrueAt (source : ℕ) (cells : List (Cell Transition)) : Type 0 where
    pub fit : (node : ℕ) → FitsIf width (formula_at width cells node)
    pub canonical : (node : ℕ) → IsCanonicalExit (formula_at width cells node)
    pub hold : (node : ℕ) (path : List Stride) (before after : State) → node < (own_graph p).nodes → length before ≡ width →
        Walks (KnownCalls known) (length program.globals) (own_graph p).arcs source before path node after → HoldsIf (formula_at width cells node) before after

  pub cells-true : (source : ℕ) → source < (own_graph p).nodes → Always (AreTrueAt source) (cells_from (subject_of program p known) source)
  unfolding cells_from
  cells-true source lt =
      let g = graph_by (subject_of program p known) in
      let ev = graph-evaluated program proc p known is formed are source lt in
      let canon = leaves-canonical program proc p known is formed are in
      always_weaker (AreTrueCells g source ev canon) (AreTrueAt source) (evaluated_cells g source)
      (λ cells true_cells. record {
        fit = states-at program proc p formed is known are source cells lt true_cells.fit;
        canonical = at-canonical width cells true_cells.canonical;
        hold = λ node path before after within long walk.
            let there = some_at cells node (let each = true_cells.fit.one_each in let all = length-replicate (own_graph p).nodes (full_of program p) in subst (λ n. node < n) (sym (each ∙ all)) within) in
            let walks : HoldsOfWalks program p known source cells =
            holds-of-walks program proc p known is formed are (leaves-fit program proc p known is formed are) (links-inside program proc p known is formed are) source cells lt true_cells.hold in
            subst (λ o. HoldsIf (formula_of width (unwrap_or o found.Zero)) before after) (sym there.1)
            (cell-tells width there.0 before after long (walks node there.0 there.1 path before after long walk));
      })
      (evaluated-true g source ev canon)

  -- ---- what is told of an exit

  -- it goes from the entry to the exit, is canonical, and holds of all that the exit's formula
  -- tells
  pub record IsTold (exit : Option Transition) (f : Transition) : Type 0 where
    pub between : IsBetweenEnds (entry_of program p) (ends.exit_of program p) f
    pub canonical : IsCanonicalFormula f
    pub covers : Covers f (projection_of (entry_width program p) places (exit_formula width exit))

  pub summary-told : (exit : Option Transition) → FitsIf width exit → IsCanonicalExit exit → Always (IsTold exit) (summary_from (ends_of program p) exit)
  unfolding summary_from
  summary-told exit fit canonical =
      let start = entry-end program proc p formed is in
      let end = exit-end program proc p formed is in
      let told = projection_of (entry_width program p) places (exit_formula width exit) in
      let between = told-between program proc p formed is exit fit in
      let fine = told-canonical (entry_width program p) places (exit_formula width exit) (exit-canonical width exit canonical) in
      let same : projection_of (entry_of program p).columns places (exit_formula (full_of program p).columns exit) ≡ told =
      told-is program proc p formed is (full_of program p).columns (entry_of program p).columns places exit (full-columns program p) (entry-columns program proc p formed is) refl fit in
      subst (λ t. Always (IsTold exit) (settled_and_fitted t (entry_of program p) (ends.exit_of program p))) (sym same)
      (always_weaker (λ f. IsBetweenEnds (entry_of program p) (ends.exit_of program p) f × (IsCanonicalFormula f × Covers f told)) (IsTold exit)
      (settled_and_fitted told (entry_of program p) (ends.exit_of program p)) (λ f h. record { between = h.0; canonical = h.1.0; covers = h.1.1 })
      (always_both (IsBetweenEnds (entry_of program p) (ends.exit_of program p)) (λ f. IsCanonicalFormula f × Covers f told) (settled_and_fitted told (entry_of program p) (ends.exit_of program p))
      (settled_and_fitted-between (entry_of program p) (ends.exit_of program p) start end told between)
      (always_both IsCanonicalFormula (λ f. Covers f told) (settled_and_fitted told (entry_of program p) (ends.exit_of program p))
      (settled_and_fitted-canonical told (entry_of program p) (ends.exit_of program p) start.is fine)
      (settled_and_fitted-covers (entry_of program p) (ends.exit_of program p) start end told between (rows-canonical told fine) (told-solved program proc p formed is exit fit)))))

  -- ---- activations

  module _ (calls : CallMeaning) (globals args after : State) (value : ℤ) (r : ReturnsOver calls program proc globals args after value) where
    abbrev before : State
    before = globals ++ (args ++ r.others)

    pub own-callee : r.callee ≡ p
    own-callee = some-one r.is is

    pub before-long : length before ≡ width
    before-long =
        let all = length-append globals (args ++ r.others) in
        let both = length-append args r.others in
        let own = r.columns ∙ ap (λ (q : Proc). length q.columns + 1) own-callee in
        let globals_are = r.width in
        omega (arith, all, both, own, globals_are)

    pub own-walk : Walks calls (length program.globals) (own_graph p).arcs 0 before r.path (exit_of (code_of p.body)) r.final
    own-walk =
        subst (λ (f : FlowGraph). Walks calls (length program.globals) f.arcs 0 before r.path (exit_of (code_of p.body)) r.final) (graph-is program proc p known is)
        (subst (λ (o : Option Proc). Walks calls (length program.globals) (graph_of program proc).arcs 0 before r.path (exit_of (body_of o)) r.final) is r.walk)

  exit-within : exit_of (code_of p.body) < (own_graph p).nodes
  exit-within = omega arith

  -- the formula holds of each activation that returns, where calls mean what the known formulas say
  pub record IsUnfolded (f : Transition) : Type 0 where
    pub between : IsBetweenEnds (entry_of program p) (ends.exit_of program p) f
    pub canonical : IsCanonicalFormula f
    pub tells : (globals args after : State) (value : ℤ) → ReturnsOver (KnownCalls known) program proc globals args after value → Holds f (globals ++ args) (exit_values p after value)

  exit-tells : (cells : List (Cell Transition)) → AreTrueAt 0 cells → (f : Transition) → IsTold (formula_at width cells (exit_of (code_of p.body))) f → IsUnfolded f
  exit-tells cells true_cells f told = record {
    between = told.between;
    canonical = told.canonical;
    tells = λ globals args after value r.
        told.covers (globals ++ args) (exit_values p after value)
        (exit-told program proc p formed is (formula_at width cells (exit_of (code_of p.body))) (true_cells.fit (exit_of (code_of p.body))) globals args r.others r.final after value r.width
        (r.params ∙ ap (λ (q : Proc). q.params) (own-callee (KnownCalls known) globals args after value r))
        (true_cells.hold (exit_of (code_of p.body)) r.path (globals ++ (args ++ r.others)) r.final exit-within (before-long (KnownCalls known) globals args after value r) (own-walk (KnownCalls known) globals args after value r))
        r.after_is r.value_is);
  }

  pub unfolded-tells : Always IsUnfolded (unfolded_formula program known p)
  unfolding unfolded_formula
  unfolded-tells =
      always_bind (AreTrueAt 0) IsUnfolded (cells_from (subject_of program p known) 0)
      (λ cells. summary_from (ends_of program p) (formula_at (columns_of (subject_of program p known)) cells (exit_of (code_of p.body))))
      (cells-true 0 (some-nodes program proc p formed is))
      (λ cells true_cells. subst (λ n. Always IsUnfolded (summary_from (ends_of program p) (formula_at n cells (exit_of (code_of p.body))))) (sym (columns-are program proc p formed is known are))
      (always_weaker (IsTold (formula_at width cells (exit_of (code_of p.body)))) IsUnfolded (summary_from (ends_of program p) (formula_at width cells (exit_of (code_of p.body))))
      (λ f told. exit-tells cells true_cells f told)
      (summary-told (formula_at width cells (exit_of (code_of p.body))) (true_cells.fit (exit_of (code_of p.body))) (true_cells.canonical (exit_of (code_of p.body))))))
