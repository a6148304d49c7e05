-- The laws of an evaluation, whole.
use Rattle.std.proofs.Common.{◌≡◌, ℕ, ◌<◌, ℤ, List, [], ◌∷◌, ◌++◌, length, refl, sym, ◌∙◌, ap, subst}
use Rattle.std.proofs.lemmas.List.{append-nil}
use Rattle.std.proofs.lemmas.List.Elements.{All-from_recursion}
use Rattle.std.proofs.lemmas.Option.{slice_get-get_or, unwrap_or-slice_get}
use Rattle.items.proofs.Each.{each-front, each-get}
use Rattle.path_expr.specs.declared.link.Link.{Link}
use Rattle.path_expr.specs.PathExpr.{PathExpr, Zero, One, Edge, Seq, Join, Star, InLanguage}
use Rattle.path_expr.specs.Elimination.{path_at}
use Rattle.path_expr.specs.Operations.{operations}
use Rattle.path_expr.specs.Walks.{IsWalk}
use Rattle.path_expr.proofs.WayWalks.{language_is_walks}
use Rattle.linear_terms.specs.declared.row.Case.{Case}
use Rattle.linear_terms.specs.Row.{AreCanonical}
use Rattle.transition_formula.specs.Composition.{sequence_of, union_of}
use Rattle.transition_formula.specs.Meaning.{Covers, HoldsOfChains}
use Rattle.transition_formula.specs.Transition.{Transition}
use Rattle.posing.specs.Posing.{Posing, Done, Noted, Asked, Always}
use Rattle.posing.proofs.Paths.{always_bind, always_weaker, always_each}
use Rattle.polyhedra.specs.Laws.{HaveCanonicalRows}
use Rattle.polyhedra.specs.Squash.{fitted_formula}
use Rattle.phases.specs.Repetition.{repetition}
use Rattle.recurrence.proofs.StarLaws.{always_both}
use Rattle.phases.proofs.Repetitions.{repetitions-hold}
use Rattle.checked_tree.specs.Graph.{Graph, nothing, link_at, leaf_at, vocabulary_at, start_of, end_of, start_vocabulary, end_vocabulary}
use Rattle.checked_tree.specs.Evaluation.{Made, formula_at, settled_and_fitted, leaf_formula, sequence_formula, join_formula, own, with_entry, with_made, evaluation, cell_of, cell_at, paths_of}
use Rattle.checked_tree.specs.Law.{IsEvaluated, IsRun, HoldsCell, HoldsAlong, HaveCanonicalLeaves, AreCanonicalMade, HoldsOfWalks, EvaluationHolds, IsBetweenEnds, FitsCell, EvaluationFits}
use Rattle.checked_tree.specs.Ready.{IsAmong, IsReady, AreReady}
use Rattle.checked_tree.specs.UnderWay.{IsKnown}
use Rattle.checked_tree.proofs.Along.{edge-along, sequence-along, join-along, star-along}
use Rattle.checked_tree.proofs.Between.{fitted-between, fitted-covered, settled_and_fitted-between, settled_and_fitted-covers, sequence-from, sequence-solvable, sequence-canonical, joined-from, phasable, repetition-between}
use Rattle.checked_tree.proofs.Entries.{paths-entry, latest-has, known-more}
use Rattle.checked_tree.proofs.Stands.{Stands}
use Rattle.checked_tree.proofs.EliminationSteps.{operations-ready, path_at-stands}

-- what follows from a premise at every end holds at every end if the premise does
always_if : {A C : Type 0} (P : A → Type 0) (p : Posing A) → (C → Always P p) → Always (λ x. C → P x) p
always_if P (Done x) h = h
always_if P (Noted notes p) h = always_if P p h
always_if P (Asked question next) h = λ answer is_true. always_if P (next answer) (λ c. h c answer is_true)

module _ (g : Graph) (source : ℕ) (is : IsEvaluated g source) where
  abbrev pub AllKnown : Made → Type 0
  AllKnown made = (p : PathExpr) → IsAmong p (paths_of made) → IsKnown g p (formula_at made p)

  abbrev pub AllAlong : Made → Type 0
  AllAlong made = (p : PathExpr) → IsAmong p (paths_of made) → HoldsAlong g p (formula_at made p)

  pub link-within : (number : ℕ) → number < length g.links → ((link_at g number).from < length g.nodes) × ((link_at g number).to < length g.nodes)
  link-within number lt =
      let found = slice_get-get_or g.links number record { from = 0; to = 0 } lt in
      let same = unwrap_or-slice_get g.links number record { from = 0; to = 0 } in
      subst (λ (l : Link). (l.from < length g.nodes) × (l.to < length g.nodes)) (sym same) (is.graph number record { from = 0; to = 0 } lt)

  pub leaf-canonical : HaveCanonicalLeaves g → (number : ℕ) → number < length g.links → HaveCanonicalRows (leaf_at g number).cases
  leaf-canonical canonical number lt =
      let within : number < length g.leaves = subst (λ n. number < n) (sym is.one_each) lt in
      subst (λ (f : Transition). HaveCanonicalRows f.cases) (sym (unwrap_or-slice_get g.leaves number nothing))
      (each-get (λ (f : Transition). HaveCanonicalRows f.cases) g.leaves number _ canonical (slice_get-get_or g.leaves number nothing within))

  -- a formula of a second path, between the vocabularies that the first path's ends have
  pub moved_start : (p : PathExpr) (m n : ℕ) (f : Transition) → m ≡ n → IsBetweenEnds (vocabulary_at g n) (end_vocabulary g p) f → IsBetweenEnds (vocabulary_at g m) (end_vocabulary g p) f
  moved_start p m n f e h = subst (λ k. IsBetweenEnds (vocabulary_at g k) (end_vocabulary g p) f) (sym e) h

  pub moved_both : (i j m n : ℕ) (f : Transition) → i ≡ m → j ≡ n → IsBetweenEnds (vocabulary_at g m) (vocabulary_at g n) f → IsBetweenEnds (vocabulary_at g i) (vocabulary_at g j) f
  moved_both i j m n f e d h = subst (λ k. IsBetweenEnds (vocabulary_at g k) (vocabulary_at g j) f) (sym e) (subst (λ k. IsBetweenEnds (vocabulary_at g m) (vocabulary_at g k) f) (sym d) h)

  module _ (made : Made) (known : AllKnown made) where
    -- ---- the formula of an operation is between its vocabularies

    pub own-known : (path : PathExpr) → IsReady g (paths_of made) path → Always (IsKnown g path) (own g made path)
    unfolding leaf_formula sequence_formula join_formula
    own-known Zero ready = absurd ready
    own-known One ready = absurd ready
    own-known (Edge number) ready =
        let ends = link-within number ready in
        let start = is.ends (link_at g number).from ends.0 in
        let end = is.ends (link_at g number).to ends.1 in
        always_weaker (IsBetweenEnds (start_vocabulary g (Edge number)) (end_vocabulary g (Edge number))) (IsKnown g (Edge number)) (settled_and_fitted (leaf_at g number) (start_vocabulary g (Edge number)) (end_vocabulary g (Edge number)))
        (λ f h. record { starts = start; ends = end; start_within = ends.0; end_within = ends.1; formula = h })
        (settled_and_fitted-between (start_vocabulary g (Edge number)) (end_vocabulary g (Edge number)) start end (leaf_at g number) (is.leaves number ready).between)
    own-known (Seq a b) ready =
        let first = known a ready.0 in
        let second = known b ready.1 in
        let fa = formula_at made a in
        let fb = formula_at made b in
        always_weaker (IsBetweenEnds (start_vocabulary g a) (end_vocabulary g b)) (IsKnown g (Seq a b)) (settled_and_fitted (sequence_of fa fb) (start_vocabulary g a) (end_vocabulary g b))
        (λ f h. record { starts = first.starts; ends = second.ends; start_within = first.start_within; end_within = second.end_within; formula = h })
        (settled_and_fitted-between (start_vocabulary g a) (end_vocabulary g b) first.starts second.ends (sequence_of fa fb)
        (sequence-from (start_vocabulary g a) (end_vocabulary g a) (end_vocabulary g b) second.ends fa fb first.formula (moved_start b (end_of g a) (start_of g b) fb ready.2 second.formula)))
    own-known (Join a b) ready =
        let first = known a ready.0 in
        let second = known b ready.1 in
        let fa = formula_at made a in
        let fb = formula_at made b in
        always_weaker (IsBetweenEnds (start_vocabulary g a) (end_vocabulary g a)) (IsKnown g (Join a b)) (fitted_formula (union_of fa fb) (start_vocabulary g a) (end_vocabulary g a))
        (λ f h. record { starts = first.starts; ends = first.ends; start_within = first.start_within; end_within = first.end_within; formula = h })
        (fitted-between (start_vocabulary g a) (end_vocabulary g a) first.starts first.ends (union_of fa fb)
        (joined-from (start_vocabulary g a) (end_vocabulary g a) fa fb first.formula
        (moved_both (start_of g a) (end_of g a) (start_of g b) (end_of g b) fb ready.2 ready.3 second.formula)))
    own-known (Star a) ready =
        let turn = known a ready.0 in
        let fa = formula_at made a in
        always_weaker (IsBetweenEnds (start_vocabulary g a) (start_vocabulary g a)) (IsKnown g (Star a)) (repetition fa (start_vocabulary g a))
        (λ f h. record { starts = turn.starts; ends = turn.starts; start_within = turn.start_within; end_within = turn.start_within; formula = h })
        (repetition-between (start_vocabulary g a) turn.starts fa (moved_both (start_of g a) (start_of g a) (start_of g a) (end_of g a) fa refl ready.1 turn.formula))

    -- ---- and it holds of each run along a word of the path

    module _ (canonical : HaveCanonicalLeaves g) (made_canonical : AreCanonicalMade made) (along : AllAlong made) where
      of_path : (p : PathExpr) → HaveCanonicalRows (formula_at made p).cases
      of_path p =
          latest-has (λ f. HaveCanonicalRows f.cases) made p nothing
          (All-from_recursion (λ (case : Case). AreCanonical case.rows) [] tt) made_canonical

      pub own-along : (path : PathExpr) → IsReady g (paths_of made) path → Always (HoldsAlong g path) (own g made path)
      unfolding leaf_formula sequence_formula join_formula
      own-along Zero ready = absurd ready
      own-along One ready = absurd ready
      own-along (Edge number) ready =
          let ends = link-within number ready in
          let leaf = leaf_at g number in
          always_weaker (λ f. Covers f leaf) (HoldsAlong g (Edge number)) (settled_and_fitted leaf (start_vocabulary g (Edge number)) (end_vocabulary g (Edge number)))
          (λ f covers. edge-along g number f covers)
          (settled_and_fitted-covers (start_vocabulary g (Edge number)) (end_vocabulary g (Edge number)) (is.ends (link_at g number).from ends.0) (is.ends (link_at g number).to ends.1) leaf
          (is.leaves number ready).between (leaf-canonical canonical number ready) (is.leaves number ready).solvable)
      own-along (Seq a b) ready =
          let first = known a ready.0 in
          let second = known b ready.1 in
          let fa = formula_at made a in
          let fb = formula_at made b in
          let later = moved_start b (end_of g a) (start_of g b) fb ready.2 second.formula in
          always_weaker (λ f. Covers f (sequence_of fa fb)) (HoldsAlong g (Seq a b)) (settled_and_fitted (sequence_of fa fb) (start_vocabulary g a) (end_vocabulary g b))
          (λ f covers. sequence-along g a b fa fb ready.2 first.formula later (along a ready.0) (along b ready.1) f covers)
          (settled_and_fitted-covers (start_vocabulary g a) (end_vocabulary g b) first.starts second.ends (sequence_of fa fb)
          (sequence-from (start_vocabulary g a) (end_vocabulary g a) (end_vocabulary g b) second.ends fa fb first.formula later)
          (sequence-canonical fa fb (of_path a)) (sequence-solvable (start_vocabulary g a) (end_vocabulary g a) (end_vocabulary g b) second.ends fa fb first.formula later))
      own-along (Join a b) ready =
          let first = known a ready.0 in
          let second = known b ready.1 in
          let fa = formula_at made a in
          let fb = formula_at made b in
          let other = moved_both (start_of g a) (end_of g a) (start_of g b) (end_of g b) fb ready.2 ready.3 second.formula in
          always_weaker (λ f. Covers f (union_of fa fb)) (HoldsAlong g (Join a b)) (fitted_formula (union_of fa fb) (start_vocabulary g a) (end_vocabulary g a))
          (λ f covers. join-along g a b fa fb ready.2 first.formula other (along a ready.0) (along b ready.1) f covers)
          (fitted-covered (start_vocabulary g a) (end_vocabulary g a) first.starts first.ends (union_of fa fb) (joined-from (start_vocabulary g a) (end_vocabulary g a) fa fb first.formula other))
      own-along (Star a) ready =
          let turn = known a ready.0 in
          let fa = formula_at made a in
          let body = moved_both (start_of g a) (start_of g a) (start_of g a) (end_of g a) fa refl ready.1 turn.formula in
          always_weaker (HoldsOfChains fa) (HoldsAlong g (Star a)) (repetition fa (start_vocabulary g a))
          (λ f holds. star-along g a fa ready.1 turn.formula (along a ready.0) f holds)
          (repetitions-hold fa (start_vocabulary g a) (phasable (start_vocabulary g a) turn.starts fa body) (of_path a))

  -- ---- all operations

  -- what is left is ready, and what is made is known and holds
  pub record Keeps (rest : List PathExpr) (made : Made) : Type 0 where
    pub ready : AreReady g (paths_of made) rest
    pub parts : paths_of made ++ rest ≡ operations (length g.nodes) g.links source
    pub known : AllKnown made
    pub along : HaveCanonicalLeaves g → AreCanonicalMade made → AllAlong made

  with_made-keeps : (path : PathExpr) (rest : List PathExpr) (made : Made) → Keeps (path ∷ rest) made → Always (Keeps rest) (with_made g made path)
  unfolding with_made
  with_made-keeps path rest made kept =
      always_bind (λ f. IsKnown g path f × (Premise → HoldsAlong g path f)) (Keeps rest) (own g made path) (λ f. Done (with_entry made path f))
      (always_both (IsKnown g path) (λ f. Premise → HoldsAlong g path f) (own g made path) (own-known made kept.known path kept.ready.0)
      (always_if (HoldsAlong g path) (own g made path) (λ (both : Premise). own-along made kept.known both.0 both.1 (kept.along both.0 both.1) path kept.ready.0)))
      (λ f now. record {
        ready = subst (λ ps. AreReady g ps rest) (sym (paths-entry made path f)) kept.ready.1;
        parts = ap (λ ps. ps ++ rest) (paths-entry made path f) ∙ append_one (paths_of made) path rest ∙ kept.parts;
        known = known-more (IsKnown g) made path f (λ p h other. kept.known p h) now.0;
        along = λ canonical all. let before = each-front (λ entry. HaveCanonicalRows entry.1.cases) made ((path, f) ∷ []) all in
            known-more (HoldsAlong g) made path f (λ p h other. kept.along canonical before p h) (now.1 (canonical, before));
      })
    where
      Premise : Type 0
      Premise = HaveCanonicalLeaves g × AreCanonicalMade made

      append_one : (ps : List PathExpr) (p : PathExpr) (qs : List PathExpr) → (ps ++ p ∷ []) ++ qs ≡ ps ++ p ∷ qs
      append_one [] p qs = refl
      append_one (x ∷ ps) p qs = ap (λ r. x ∷ r) (append_one ps p qs)

  evaluation-keeps : Always (Keeps []) (evaluation g source)
  unfolding evaluation
  evaluation-keeps =
      always_each Keeps (with_made g) [] (operations (length g.nodes) g.links source) with_made-keeps
      (record { ready = operations-ready g source is.graph is.source_is; parts = refl; known = λ p h. absurd h; along = λ canonical all p h. absurd h })

  -- ---- the cells

  module _ (made : Made) (kept : Keeps [] made) (node : ℕ) (below : node < length g.nodes) where
    abbrev node_path : PathExpr
    node_path = path_at (length g.nodes) g.links source node

    stands : Stands g (paths_of made) node_path source node
    stands =
        subst (λ ps. Stands g ps node_path source node) (sym (sym (append-nil (paths_of made)) ∙ kept.parts))
        (path_at-stands g source is.graph is.source_is node below)

    path-holds : AllAlong made → (p : PathExpr) → Stands g (paths_of made) p source node → (word : List ℕ) → InLanguage p word → (before after : List ℤ) →
        length before ≡ (vocabulary_at g source).columns → IsRun g word before after → HoldsCell (cell_of made p) before after
    path-holds along Zero stand word h before after long run = absurd h
    path-holds along One stand word h before after long run = subst (λ w. IsRun g w before after) h run
    path-holds along p stand word h before after long run =
        along p stand.0 word before after h (long ∙ sym (ap (λ n. (vocabulary_at g n).columns) stand.1)) run

    pub cell-holds : AllAlong made → (word : List ℕ) → IsWalk g.links source node word → (before after : List ℤ) → length before ≡ (vocabulary_at g source).columns →
        IsRun g word before after → HoldsCell (cell_at g source made node) before after
    cell-holds along word walk before after long run =
        path-holds along node_path stands word ((language_is_walks (length g.nodes) g.links source node is.graph is.source_is below word).1 walk) before after long run

    path-fits : (p : PathExpr) → Stands g (paths_of made) p source node → FitsCell (vocabulary_at g source) (vocabulary_at g node) (cell_of made p)
    path-fits Zero stand = tt
    path-fits One stand = tt
    path-fits p stand = moved_both source node (start_of g p) (end_of g p) (formula_at made p) (sym stand.1) (sym stand.2) (kept.known p stand.0).formula

    cell-fits : FitsCell (vocabulary_at g source) (vocabulary_at g node) (cell_at g source made node)
    cell-fits = path-fits node_path stands

pub evaluation-holds : EvaluationHolds
evaluation-holds g source is canonical =
    always_weaker (Keeps g source is []) (λ made. AreCanonicalMade made → HoldsOfWalks g source made) (evaluation g source)
    (λ made kept all node below word walk before after long run. cell-holds g source is made kept node below (kept.along canonical all) word walk before after long run)
    (evaluation-keeps g source is)

pub evaluation-fits : EvaluationFits
evaluation-fits g source is =
    always_weaker (Keeps g source is []) (λ made. (node : ℕ) → node < length g.nodes → FitsCell (vocabulary_at g source) (vocabulary_at g node) (cell_at g source made node)) (evaluation g source)
    (λ made kept node below. cell-fits g source is made kept node below)
    (evaluation-keeps g source is)
