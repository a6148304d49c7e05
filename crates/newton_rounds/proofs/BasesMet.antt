-- The bases hold of the pairs of activations that make no call of the group.
use Rattle.std.proofs.Common.{◌≡◌, ℕ, ◌<◌, ◌≤◌, ℤ, List, [], ◌∷◌, ◌++◌, length, map, take, Option, refl, sym, ap, subst, ◌∙◌, append_assoc, length-append, arith}
use Rattle.std.specs.List.{AllZip}
use Rattle.std.proofs.Math.Seq.{take-append_seam}
use Rattle.std.proofs.lemmas.List.{length-map}
use Rattle.std.proofs.lemmas.List.Elements.{All-from_recursion}
use Rattle.items.proofs.Each.{each-map}
use Rattle.linear_terms.specs.declared.row.Case.{Case}
use Rattle.path_expr.specs.declared.cell.Cell.{Cell}
use Rattle.posing.specs.Posing.{Done, each, Always}
use Rattle.posing.proofs.Paths.{always_bind}
use Rattle.syntax_tree.specs.declared.program.Proc.{Proc}
use Rattle.syntax_tree.specs.declared.program.Program.{Program}
use Rattle.syntax_tree.specs.Code.{code_of}
use Rattle.syntax_tree.specs.Value.{State}
use Rattle.syntax_tree.specs.WellFormed.{IsWellFormed, width_of}
use Rattle.transition_formula.specs.Equating.{equated_formula, equated_case}
use Rattle.transition_formula.specs.Meaning.{Holds}
use Rattle.transition_formula.specs.Posts.{case_with_posts, numbers_at}
use Rattle.transition_formula.specs.Transition.{IsTransition, Transition}
use Rattle.transition_formula.proofs.PostsAsEntries.{equated-fits}
use Rattle.transition_formula.proofs.SomePosts.{with_posts-fits}
use Rattle.vocabularies.specs.Procs.{IsProcOf}
use Rattle.flow_graph.specs.FlowGraph.{exit_of}
use Rattle.flow_graph.specs.Heights.{ReturnsOver}
use Rattle.flow_graph.specs.Laws.{last_of}
use Rattle.leaf_cases.specs.Conditions.{AreKnown, KnownCalls}
use Rattle.leaf_cases.specs.Summaries.{exit_values}
use Rattle.proc_summary.specs.Claims.{FitsIf, HoldsIf}
use Rattle.proc_summary.specs.Flow.{cells_from, formula_at}
use Rattle.proc_summary.specs.Subject.{own_graph, subject_of}
use Rattle.proc_summary.specs.Summary.{exit_formula, exit_places}
use Rattle.proc_summary.proofs.Graphs.{full-columns, length-after}
use Rattle.proc_summary.proofs.ExitSummaries.{entry-columns, numbers-told}
use Rattle.newton_rounds.specs.Between.{GoesBetween}
use Rattle.newton_rounds.specs.Closure.{base_of, pair_ends, with_base}
use Rattle.newton_rounds.specs.Members.{members_of}
use Rattle.newton_rounds.specs.Pairs.{PairEnds, base_from, entry_told}
use Rattle.newton_rounds.specs.Shapes.{AreEnds}
use Rattle.newton_rounds.proofs.GroupCalls.{AreThere}
use Rattle.recurrence.proofs.CanonicalOrder.{IsCanonicalFormula}
use Rattle.newton_rounds.proofs.MatchLoops.{IsBehind, each-match}
use Rattle.newton_rounds.proofs.MemberTables.{IsProcedure, each-member}
use Rattle.newton_rounds.proofs.PairNumbers.{HasFew, few-more, states-of}
use Rattle.newton_rounds.proofs.PairMeanings.{base-canonical, base-holds, whole-holds}
use Rattle.newton_rounds.proofs.ExitColumns.{pair-holds, places-length}
use Rattle.newton_rounds.proofs.PairStates.{told-fits, told-has, told-there, told-to}
use Rattle.newton_rounds.proofs.Unfoldings.{AreTrueAt, before-long, cells-true, own-callee, own-walk}
use Rattle.newton_rounds.proofs.Widths.{columns-are, ends-are, some-nodes}

-- ---- a base goes from the pairs

module _ (m : PairEnds) (ends : AreEnds m) (f : Option Transition) (fit : FitsIf m.ends.full.columns f) where
  equal-few : (cases : List Case) → HasFew 190 cases → HasFew 190 (map (equated_case m.ends.entry.columns (exit_places m.ends)) cases)
  equal-few cases h = each-map (λ (case : Case). case.aux ≤ 190) (λ (case : Case). case.aux ≤ 190) (equated_case m.ends.entry.columns (exit_places m.ends)) (λ case k. k) cases h

  base-goes-over : GoesBetween 1000 m.pair.columns 0 (base_from m f)
  base-goes-over =
      let told = entry_told m f in
      let equal = equated_formula m.ends.entry.columns (exit_places m.ends) told in
      record {
        from_is = refl;
        to_is = refl;
        fits =
            with_posts-fits [] equal (All-from_recursion (λ place. place < equal.to) [] tt)
            (equated-fits m.ends.entry.columns (exit_places m.ends) told (told-there m ends f fit) (pair-holds m ends)
            (subst (λ to. IsTransition m.pair.columns to told.cases) (sym (told-to m ends f fit)) (told-fits m ends f fit)));
        few =
            few-more 190 1000 (base_from m f).cases (omega arith)
            (each-map (λ (case : Case). case.aux ≤ 190) (λ (case : Case). case.aux ≤ 190) (case_with_posts []) (λ case k. k) equal.cases (equal-few told.cases (told-has m ends f fit)));
      }

-- ---- the base of a procedure

-- it goes from the pairs, has canonical rows, and holds of activations whose calls the known
-- formulas tell
pub record IsBase (program : Program) (known : List (Option Transition)) (p : Proc) (base : Transition) : Type 0 where
  pub goes : GoesBetween 1000 (pair_ends program p).pair.columns 0 base
  pub canonical : IsCanonicalFormula base
  pub tells : (proc : ℕ) → IsProcOf program proc p → (globals args after : State) (value : ℤ) → ReturnsOver (KnownCalls known) program proc globals args after value
      → Holds base ((globals ++ args) ++ exit_values p after value) []

module _ (program : Program) (known : List (Option Transition)) (formed : IsWellFormed program) (are : AreKnown program known) where
  module _ (proc : ℕ) (p : Proc) (is : IsProcOf program proc p) where
    abbrev m : PairEnds
    m = pair_ends program p

    -- what the entry and the exit of an activation are in its pair
    pub exits-told : (final after : State) (value : ℤ) → length final ≡ m.ends.full.columns → take (length program.globals) final ≡ after → last_of final ≡ value → numbers_at (exit_places m.ends) final ≡ exit_values p after value
    exits-told final after value long taken last =
        numbers-told p.returns (length program.globals) m.ends.full.columns final after value long (subst (λ n. length program.globals ≤ n) (sym (full-columns program p)) (omega arith)) taken last

    pub exits-long : (final after : State) (value : ℤ) → length final ≡ m.ends.full.columns → take (length program.globals) final ≡ after → last_of final ≡ value → length (exit_values p after value) ≡ m.ends.exit.columns
    exits-long final after value long taken last =
        sym (ap length (exits-told final after value long taken last)) ∙ length-map (exit_places m.ends) _ ∙ places-length m (ends-are program proc p formed is)

    pub entry-front : (globals args others : State) → length globals ≡ length program.globals → length args ≡ p.params → take m.ends.entry.columns (globals ++ (args ++ others)) ≡ globals ++ args
    entry-front globals args others width params =
        let all = length-append globals args in
        let same : length (globals ++ args) ≡ m.ends.entry.columns = omega (arith, all, width, params) ∙ sym (entry-columns program proc p formed is) in
        ap (take m.ends.entry.columns) (sym (append_assoc globals args others)) ∙ (λ i. take (sym same i) ((globals ++ args) ++ others)) ∙ take-append_seam (globals ++ args) others

    exit-node : exit_of (code_of p.body) < (own_graph p).nodes
    exit-node = omega arith

    base-made : (cells : List (Cell Transition)) → AreTrueAt program proc p known is formed are 0 cells → IsBase program known p (base_from m (formula_at (width_of program p) cells (exit_of (code_of p.body))))
    base-made cells true_cells =
        let exit = formula_at (width_of program p) cells (exit_of (code_of p.body)) in
        let ends = ends-are program proc p formed is in
        let fit : FitsIf m.ends.full.columns exit = subst (λ n. FitsIf n exit) (sym (full-columns program p)) (true_cells.fit (exit_of (code_of p.body))) in
        record {
          goes = base-goes-over m ends exit fit;
          canonical = base-canonical m ends exit fit (true_cells.canonical (exit_of (code_of p.body)));
          tells = λ number there globals args after value r.
              let before = globals ++ (args ++ r.others) in
              let h : HoldsIf exit before r.final =
              true_cells.hold (exit_of (code_of p.body)) r.path before r.final exit-node (before-long program number p known there formed are (KnownCalls known) globals args after value r) (own-walk program number p known there formed are (KnownCalls known) globals args after value r) in
              let states = states-of m.ends.full.columns exit fit in
              let long : length r.final ≡ m.ends.full.columns = length-after (exit_formula m.ends.full.columns exit) before r.final states.fits (whole-holds m ends exit fit before r.final h) ∙ states.to in
              let params : length args ≡ p.params = r.params ∙ ap (λ (q : Proc). q.params) (own-callee program number p known there formed are (KnownCalls known) globals args after value r) in
              subst (λ front. Holds (base_from m exit) (front ++ exit_values p after value) []) (entry-front globals args r.others r.width params)
              (base-holds m ends exit fit before (exit_values p after value) r.final (exits-long r.final after value long r.after_is r.value_is) (exits-told r.final after value long r.after_is r.value_is) h);
        }

    pub base-true : Always (IsBase program known p) (base_of program known p)
    unfolding base_of
    base-true =
        let s = subject_of program p known in
        always_bind (AreTrueAt program proc p known is formed are 0) (IsBase program known p) (cells_from s 0) _ (cells-true program proc p known is formed are 0 (some-nodes program proc p formed is))
        (λ cells true_cells. subst (λ n. IsBase program known p (base_from m (formula_at n cells (exit_of (code_of p.body))))) (sym (columns-are program proc p formed is known are)) (base-made cells true_cells))

  base-behind : (made : List Transition) (p : Proc) → IsProcedure program p → Always (IsBehind (IsBase program known) made p) (with_base program known made p)
  unfolding with_base
  base-behind made p member =
      always_bind (IsBase program known p) (IsBehind (IsBase program known) made p) (base_of program known p) (λ base. Done (made ++ base ∷ [])) (base-true member.0 p member.1)
      (λ base h. record { value = base; is = refl; holds = h })

  pub bases-true : (procs : List ℕ) → AreThere program procs → Always (AllZip (IsBase program known) (members_of program procs)) (each (with_base program known) [] (members_of program procs))
  bases-true procs there = each-match (IsProcedure program) (IsBase program known) (with_base program known) base-behind (members_of program procs) (each-member program procs there)
