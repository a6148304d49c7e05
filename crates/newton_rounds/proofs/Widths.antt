-- How many columns the ends of a procedure have, and what stands at the nodes of its graph.
use Rattle.std.proofs.Common.{◌≡◌, ℕ, ◌-◌, ◌<◌, List, refl, ap, ◌∙◌, arith}
use Rattle.std.specs.Prelude.{Option, None, Some}
use Rattle.std.specs.List.{slice_get}
use Rattle.std.specs.Option.{unwrap_or}
use Rattle.std.proofs.lemmas.List.{length-replicate}
use Rattle.std.proofs.lemmas.Option.{slice_get_within}
use Rattle.path_expr.specs.declared.cell.Cell.{Cell}
use Rattle.path_expr.specs.declared.cell.Cell.TheVariants as found
use Rattle.syntax_tree.specs.declared.program.Proc.{Proc}
use Rattle.syntax_tree.specs.declared.program.Program.{Program}
use Rattle.syntax_tree.specs.Code.{code_of}
use Rattle.syntax_tree.specs.WellFormed.{IsWellFormed, width_of}
use Rattle.flow_graph.specs.declared.parts.Graph.{Graph}
use Rattle.flow_graph.specs.FlowGraph.{FlowGraph, body_of, exit_of, flow_of, graph_of}
use Rattle.flow_graph.specs.Plain.{plain}
use Rattle.transition_formula.specs.Transition.{Transition}
use Rattle.polyhedra.specs.Vocabulary.{Vocabulary}
use Rattle.vocabularies.specs.Ends.{entry_of, full_of, pair_of}
use Rattle.vocabularies.specs.Ends as ends
use Rattle.vocabularies.specs.Procs.{IsProcOf}
use Rattle.leaf_cases.specs.Conditions.{AreKnown}
use Rattle.checked_tree.specs.Graph.{vocabulary_at}
use Rattle.checked_tree.specs.Law.{AreFittedCells, FitsCell}
use Rattle.proc_summary.specs.Claims.{FitsIf}
use Rattle.proc_summary.specs.Flow.{columns_of, formula_at, formula_of}
use Rattle.proc_summary.specs.Subject.{graph_by, own_graph, subject_of}
use Rattle.newton_rounds.specs.Closure.{pair_ends}
use Rattle.newton_rounds.specs.Shapes.{AreEnds}
use Rattle.newton_rounds.proofs.CratesBelow.{full-columns, identity-fits, narrow, proc-fit, vocabulary-is}

module _ (program : Program) (proc : ℕ) (p : Proc) (formed : IsWellFormed program) (is : IsProcOf program proc p) where
  pub ends-are : AreEnds (pair_ends program p)
  unfolding full_of entry_of ends.exit_of pair_of
  ends-are =
      let fit = proc-fit program proc p formed is in
      record {
        globals = formed.globals;
        globals_enter = omega arith;
        entry = let first = fit.first in omega (arith, first);
        full = narrow program p formed fit;
        exit = refl;
        pair = refl;
      }

  -- the exit is the last node
  pub exit-node : (g : Graph) → plain g ≡ graph_of program proc → g.nodes - 1 ≡ exit_of (code_of p.body)
  exit-node g same =
      let nodes : g.nodes ≡ (own_graph p).nodes = ap (λ (f : FlowGraph). f.nodes) (same ∙ ap (λ (o : Option Proc). flow_of (body_of o)) is) in
      omega (arith, nodes)

  pub some-nodes : 0 < (own_graph p).nodes
  some-nodes = omega arith

  -- ---- what stands at the nodes

  module _ (known : List (Option Transition)) (are : AreKnown program known) where
    pub columns-are : columns_of (subject_of program p known) ≡ width_of program p
    columns-are = ap (λ (voc : Vocabulary). voc.columns) (vocabulary-is program proc p known is formed are 0 some-nodes) ∙ full-columns program p

    voc-wide : (node : ℕ) → node < (own_graph p).nodes → (vocabulary_at (graph_by (subject_of program p known)) node).columns ≡ width_of program p
    voc-wide node lt = ap (λ (voc : Vocabulary). voc.columns) (vocabulary-is program proc p known is formed are node lt) ∙ full-columns program p

    cell-states : (from to : Vocabulary) (cell : Cell Transition) → from.columns ≡ width_of program p → to.columns ≡ width_of program p → FitsCell from to cell → FitsIf (width_of program p) (formula_of (width_of program p) cell)
    cell-states from to found.Zero e f h = tt
    cell-states from to found.One e f h = record { from = refl; to = refl; fits = identity-fits (width_of program p); fitted = refl }
    cell-states from to (found.Item t) e f h = record { from = h.between.from_is ∙ e; to = h.between.to_is ∙ f; fits = h.between.fits; fitted = h.fitted }

    -- the formula at each node goes between states
    pub states-at : (source : ℕ) (cells : List (Cell Transition)) → source < (own_graph p).nodes → AreFittedCells (graph_by (subject_of program p known)) source cells → (node : ℕ) → FitsIf (width_of program p) (formula_at (width_of program p) cells node)
    states-at source cells lt fitted node = go (slice_get cells node) refl
      where
        go : (o : Option (Cell Transition)) → slice_get cells node ≡ o → FitsIf (width_of program p) (formula_of (width_of program p) (unwrap_or o found.Zero))
        go None e = tt
        go (Some cell) e =
            let within = slice_get_within cells node cell e in
            let all = length-replicate (own_graph p).nodes (full_of program p) in
            let long = fitted.one_each in
            let node_lt : node < (own_graph p).nodes = omega (arith, within, all, long) in
            cell-states (vocabulary_at (graph_by (subject_of program p known)) source) (vocabulary_at (graph_by (subject_of program p known)) node) cell (voc-wide source lt) (voc-wide node node_lt) (fitted.fits node cell e)
