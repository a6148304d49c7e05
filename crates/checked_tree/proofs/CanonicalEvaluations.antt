-- The cells of an evaluation have canonical rows, and hold of walks, if the leaves have canonical
-- rows.
use Rattle.std.proofs.Common.{◌≡◌, ℕ, ◌<◌, ℤ, List, [], ◌∷◌, ◌++◌, length, Some, refl, sym, ◌∙◌, ap, subst}
use Rattle.std.specs.List.{slice_get}
use Rattle.std.proofs.lemmas.List.Elements.{All-from_recursion, recursion_from_All}
use Rattle.std.proofs.lemmas.Option.{slice_get-get_or, unwrap_or-slice_get}
use Rattle.items.proofs.Each.{each-append, each-get, each-more}
use Rattle.linear_terms.specs.declared.row.Case.{Case}
use Rattle.path_expr.specs.declared.cell.Cell.{Cell}
use Rattle.path_expr.specs.declared.cell.Cell.TheVariants as known
use Rattle.path_expr.specs.PathExpr.{PathExpr, Zero, One, Edge, Seq, Join, Star}
use Rattle.path_expr.specs.Elimination.{path_at}
use Rattle.path_expr.specs.Operations.{operations}
use Rattle.path_expr.specs.Walks.{IsWalk}
use Rattle.transition_formula.specs.Composition.{union_of, sequence_of}
use Rattle.transition_formula.specs.Transition.{Transition}
use Rattle.posing.specs.Posing.{Done, Always}
use Rattle.posing.proofs.Paths.{always_bind, always_each, always_weaker}
use Rattle.polyhedra.specs.Laws.{HaveCanonicalRows}
use Rattle.polyhedra.specs.Settle.{settled_formula}
use Rattle.polyhedra.specs.Squash.{fitted_formula}
use Rattle.polyhedra.specs.Vocabulary.{Vocabulary, IsVocabulary}
use Rattle.recurrence.proofs.StarLaws.{always_both}
use Rattle.checked_tree.specs.Graph.{Graph, nothing, leaf_at, link_at, end_vocabulary, start_vocabulary, vocabulary_at}
use Rattle.checked_tree.specs.Evaluation.{Made, cell_of, cells_of, evaluated_cells, evaluation, formula_at, join_formula, leaf_formula, own, paths_of, sequence_formula, settled_and_fitted, with_entry, with_made}
use Rattle.checked_tree.specs.Law.{AreCanonicalMade, AreFittedCells, CellsHold, HaveCanonicalLeaves, HoldsAlong, HoldsCell, IsEvaluated, IsRun}
use Rattle.checked_tree.specs.Ready.{AreReady, IsReady}
use Rattle.checked_tree.specs.UnderWay.{IsKnown}
use Rattle.checked_tree.proofs.Between.{sequence-canonical}
use Rattle.checked_tree.proofs.Cells.{cells-fit, cells-found}
use Rattle.checked_tree.proofs.Entries.{known-more, latest-has, paths-entry}
use Rattle.checked_tree.proofs.EliminationSteps.{operations-ready}
use Rattle.checked_tree.proofs.Whole.{AllAlong, AllKnown, Keeps, cell-holds, link-within, own-along, own-known}
use Rattle.recurrence.proofs.CanonicalOrder.{IsCanonicalCase, IsCanonicalFormula, IsCanonicalRow, settled-canonical}
use Rattle.recurrence.proofs.CanonicalStars.{directions-canonical, fitted-canonical, joined-canonical}
use Rattle.phases.proofs.Repetitions.{repetition-canonical}

-- ---- two ways to say it

pub rows-canonical : (f : Transition) → IsCanonicalFormula f → HaveCanonicalRows f.cases
rows-canonical f h =
    All-from_recursion (λ (case : Case). _) f.cases (each-more IsCanonicalCase (λ (case : Case). _) (λ case k. All-from_recursion IsCanonicalRow case.rows k) f.cases h)

pub formula-canonical : (f : Transition) → HaveCanonicalRows f.cases → IsCanonicalFormula f
formula-canonical f h = each-more _ IsCanonicalCase (λ (case : Case) k. recursion_from_All IsCanonicalRow case.rows k) f.cases (recursion_from_All _ f.cases h)

pub settled_and_fitted-canonical : (f : Transition) (from to : Vocabulary) → IsVocabulary from → IsCanonicalFormula f → Always IsCanonicalFormula (settled_and_fitted f from to)
unfolding settled_and_fitted
settled_and_fitted-canonical f from to is h =
    always_bind IsCanonicalFormula IsCanonicalFormula (settled_formula f) (λ g. fitted_formula g from to) (settled-canonical f h) (λ g k. fitted-canonical g from to (directions-canonical from is) k)

abbrev pub IsCanonicalCell : Cell Transition → Type 0
IsCanonicalCell known.Zero = Unit {0}
IsCanonicalCell known.One = Unit {0}
IsCanonicalCell (known.Item f) = IsCanonicalFormula f

abbrev pub AreCanonicalCells : List (Cell Transition) → Type 0
AreCanonicalCells cells = (node : ℕ) (cell : Cell Transition) → slice_get cells node ≡ Some cell → IsCanonicalCell cell

module _ (g : Graph) (source : ℕ) (is : IsEvaluated g source) (leaves : HaveCanonicalLeaves g) where
  -- ---- one operation

  leaf-canonical : (number : ℕ) → number < length g.links → IsCanonicalFormula (leaf_at g number)
  leaf-canonical number lt =
      let within : number < length g.leaves = subst (λ n. number < n) (sym is.one_each) lt in
      formula-canonical (leaf_at g number)
      (subst (λ (f : Transition). HaveCanonicalRows f.cases) (sym (unwrap_or-slice_get g.leaves number nothing))
      (each-get (λ (f : Transition). HaveCanonicalRows f.cases) g.leaves number _ leaves (slice_get-get_or g.leaves number nothing within)))

  module _ (made : Made) (canonical : AreCanonicalMade made) where
    of-path : (p : PathExpr) → IsCanonicalFormula (formula_at made p)
    of-path p =
        formula-canonical (formula_at made p)
        (latest-has (λ f. HaveCanonicalRows f.cases) made p nothing (All-from_recursion (λ (case : Case). _) [] tt) canonical)

    module _ (all_known : AllKnown g source is made) where
      own-canonical : (path : PathExpr) → IsReady g (paths_of made) path → Always IsCanonicalFormula (own g made path)
      unfolding leaf_formula sequence_formula join_formula
      own-canonical Zero ready = absurd ready
      own-canonical One ready = absurd ready
      own-canonical (Edge number) ready =
          let ends = link-within g source is number ready in
          settled_and_fitted-canonical (leaf_at g number) (start_vocabulary g (Edge number)) (end_vocabulary g (Edge number)) (is.ends (link_at g number).from ends.0).is (leaf-canonical number ready)
      own-canonical (Seq a b) ready =
          let fa = formula_at made a in
          let fb = formula_at made b in
          settled_and_fitted-canonical (sequence_of fa fb) (start_vocabulary g a) (end_vocabulary g b) (all_known a ready.0).starts.is
          (formula-canonical (sequence_of fa fb) (sequence-canonical fa fb (rows-canonical fa (of-path a))))
      own-canonical (Join a b) ready =
          let fa = formula_at made a in
          let fb = formula_at made b in
          fitted-canonical (union_of fa fb) (start_vocabulary g a) (end_vocabulary g a) (directions-canonical (start_vocabulary g a) (all_known a ready.0).starts.is)
          (joined-canonical fa fb (of-path a) (of-path b))
      own-canonical (Star a) ready = repetition-canonical (formula_at made a) (start_vocabulary g a) (all_known a ready.0).starts.is

    -- ---- a cell

    pub cell-canonical : (p : PathExpr) → IsCanonicalCell (cell_of made p)
    cell-canonical Zero = tt
    cell-canonical One = tt
    cell-canonical (Edge n) = of-path (Edge n)
    cell-canonical (Seq a b) = of-path (Seq a b)
    cell-canonical (Join a b) = of-path (Join a b)
    cell-canonical (Star a) = of-path (Star a)

  -- ---- all operations

  -- what is left is ready, and what is made is known, canonical and holds
  record Lasts (rest : List PathExpr) (made : Made) : Type 0 where
    ready : AreReady g (paths_of made) rest
    parts : paths_of made ++ rest ≡ operations (length g.nodes) g.links source
    all_known : AllKnown g source is made
    along : AllAlong g source is made
    canonical : AreCanonicalMade made

  abbrev IsMade : PathExpr → Transition → Type 0
  IsMade path f = IsKnown g path f × (IsCanonicalFormula f × HoldsAlong g path f)

  append-one : (ps : List PathExpr) (p : PathExpr) (qs : List PathExpr) → (ps ++ p ∷ []) ++ qs ≡ ps ++ p ∷ qs
  append-one [] p qs = refl
  append-one (x ∷ ps) p qs = ap (λ r. x ∷ r) (append-one ps p qs)

  with_made-lasts : (path : PathExpr) (rest : List PathExpr) (made : Made) → Lasts (path ∷ rest) made → Always (Lasts rest) (with_made g made path)
  unfolding with_made
  with_made-lasts path rest made kept =
      always_bind (IsMade path) (Lasts rest) (own g made path) (λ f. Done (with_entry made path f))
      (always_both (IsKnown g path) (λ f. IsCanonicalFormula f × HoldsAlong g path f) (own g made path) (own-known g source is made kept.all_known path kept.ready.0)
      (always_both IsCanonicalFormula (HoldsAlong g path) (own g made path) (own-canonical made kept.canonical kept.all_known path kept.ready.0)
      (own-along g source is made kept.all_known leaves kept.canonical kept.along path kept.ready.0)))
      (λ f now. record {
        ready = subst (λ ps. AreReady g ps rest) (sym (paths-entry made path f)) kept.ready.1;
        parts = ap (λ ps. ps ++ rest) (paths-entry made path f) ∙ append-one (paths_of made) path rest ∙ kept.parts;
        all_known = known-more (IsKnown g) made path f (λ p h other. kept.all_known p h) now.0;
        along = known-more (HoldsAlong g) made path f (λ p h other. kept.along p h) now.1.1;
        canonical = each-append (λ entry. HaveCanonicalRows entry.1.cases) made ((path, f) ∷ []) kept.canonical (rows-canonical f now.1.0, tt);
      })

  evaluation-lasts : Always (Lasts []) (evaluation g source)
  unfolding evaluation
  evaluation-lasts =
      always_each Lasts (with_made g) [] (operations (length g.nodes) g.links source) with_made-lasts
      (record { ready = operations-ready g source is.graph is.source_is; parts = refl; all_known = λ p h. absurd h; along = λ p h. absurd h; canonical = tt })

  -- ---- the cells

  abbrev HoldsAtNode : ℕ → Cell Transition → Type 0
  HoldsAtNode node cell =
      (word : List ℕ) → IsWalk g.links source node word → (before after : List ℤ) → length before ≡ (vocabulary_at g source).columns → IsRun g word before after → HoldsCell cell before after

  whole : (made : Made) → Lasts [] made → Keeps g source is [] made
  whole made kept = record { ready = kept.ready; parts = kept.parts; known = kept.all_known; along = λ l c. kept.along }

  -- they fit, are canonical, and hold of walks
  pub record AreTrueCells (cells : List (Cell Transition)) : Type 0 where
    pub fit : AreFittedCells g source cells
    pub canonical : AreCanonicalCells cells
    pub hold : CellsHold g source cells

  cells-true : Always (λ cells. AreCanonicalCells cells × CellsHold g source cells) (evaluated_cells g source)
  unfolding evaluated_cells
  cells-true =
      always_bind (Lasts []) (λ cells. AreCanonicalCells cells × CellsHold g source cells) (evaluation g source) (λ made. Done (cells_of g source made)) evaluation-lasts
      (λ made kept. (
        cells-found g source (λ node cell. IsCanonicalCell cell) made (λ node below. cell-canonical made kept.canonical (path_at (length g.nodes) g.links source node)),
        cells-found g source HoldsAtNode made (λ node below word walk before after long run.
            cell-holds g source is made (whole made kept) node below kept.along word walk before after long run),
      ))

  pub evaluated-true : Always AreTrueCells (evaluated_cells g source)
  evaluated-true =
      always_weaker (λ cells. AreFittedCells g source cells × (AreCanonicalCells cells × CellsHold g source cells)) AreTrueCells (evaluated_cells g source)
      (λ cells h. record { fit = h.0; canonical = h.1.0; hold = h.1.1 })
      (always_both (AreFittedCells g source) (λ cells. AreCanonicalCells cells × CellsHold g source cells) (evaluated_cells g source) (cells-fit g source is) cells-true)
