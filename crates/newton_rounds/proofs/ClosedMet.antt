-- The closure of one member holds of each pair from which chains of calls lead to a base.
use Rattle.std.proofs.Common.{◌≡◌, ◌⊎◌, inl, inr, ℕ, zero, suc, ◌+◌, ◌<◌, ◌≤◌, ℤ, Bool, true, false, List, [], ◌∷◌, ◌++◌, length, take, drop, Option, None, Some, refl, sym, ap, subst, ◌∙◌, length-append, arith}
use Rattle.std.specs.Prelude.{◌==◌, not, slice_get, unwrap_or, if◌then◌else◌}
use Rattle.std.specs.List.{AllByRecursion, flat_map, range_with_len}
use Rattle.std.proofs.Math.Seq.{drop-append_seam, take-append_seam}
use Rattle.std.proofs.lemmas.List.{take_all}
use Rattle.std.proofs.lemmas.List.{length-map}
use Rattle.items.proofs.Each.{each-any, each-flat_map, each-get, each-map}
use Rattle.linear_terms.specs.declared.row.Case.{Case}
use Rattle.path_expr.specs.declared.cell.Cell.{Cell}
use Rattle.path_expr.specs.declared.cell.Cell.TheVariants as known
use Rattle.path_expr.specs.Walks.{IsWalk}
use Rattle.posing.specs.Logs.{loss_notes}
use Rattle.posing.specs.Posing.{Noted, Always}
use Rattle.posing.proofs.Paths.{always_bind, always_weaker}
use Rattle.recurrence.proofs.StarLaws.{always_both}
use Rattle.polyhedra.specs.Vocabulary.{Vocabulary}
use Rattle.polyhedra.proofs.Lists.{same_number}
use Rattle.transition_formula.specs.Meaning.{Covers, Holds, HoldsSome}
use Rattle.transition_formula.specs.Posts.{case_with_entries, numbers_at, with_entries}
use Rattle.transition_formula.specs.Transition.{Transition}
use Rattle.transition_formula.proofs.HiddenColumns.{hidden-holds}
use Rattle.transition_formula.proofs.Meanings.{identity-holds, sequence-holds, some-left, some-right}
use Rattle.transition_formula.proofs.SomePosts.{with_entries-fits, with_entries-least}
use Rattle.checked_tree.specs.Graph.{Graph, vocabulary_at}
use Rattle.checked_tree.specs.Evaluation.{evaluated_cells, settled_and_fitted}
use Rattle.checked_tree.specs.Law.{HaveCanonicalLeaves, HoldsCell, IsEvaluated, IsRun}
use Rattle.checked_tree.proofs.Between.{sequence-canonical, settled_and_fitted-covers}
use Rattle.proc_summary.proofs.ExitSummaries.{numbers-range}
use Rattle.newton_rounds.specs.Between.{AreBases, AreChained, GoesBetween, IsGroup, IsMember, base_at, chain_to, width_at}
use Rattle.newton_rounds.specs.Closure.{chain_end, chains_of, closure_at, closed_member, ends_at, exits_told, group_graph, losses_in_group_leaf, order_from, others_in, pair_cell}
use Rattle.newton_rounds.specs.Pairs.{PairEnds, Stretch}
use Rattle.newton_rounds.specs.Shapes.{AreEnds}
use Rattle.checked_tree.proofs.CanonicalEvaluations.{AreTrueCells, IsCanonicalCell, evaluated-true, formula-canonical, rows-canonical}
use Rattle.recurrence.proofs.CanonicalOrder.{IsCanonicalCase, IsCanonicalFormula}
use Rattle.newton_rounds.proofs.CratesBelow.{some_at}
use Rattle.newton_rounds.proofs.ChainFormulas.{base-goes, chains-go, exits-from, exits-solvable, meets, member-at, places-there, told-fewer}
use Rattle.newton_rounds.proofs.GroupGraphs.{group-evaluated, vocabulary-is}
use Rattle.newton_rounds.proofs.PairCells.{StaysAt, cells-stay, chains-from}
use Rattle.newton_rounds.proofs.Unfoldings.{hidden-canonical}

-- ---- the exit's columns as posts

module _ (m : PairEnds) (ends : AreEnds m) (f : Transition) (over : GoesBetween 2000 m.pair.columns 0 f) where
  abbrev entry : ℕ
  entry = m.ends.entry.columns

  abbrev exit : ℕ
  exit = m.ends.exit.columns

  exits-holds : (before after : List ℤ) → length before ≡ entry → length after ≡ exit → Holds f (before ++ after) [] → Holds (exits_told m f) before after
  exits-holds before after starts stops h =
      let told = with_entries (range_with_len entry exit) f in
      let all = length-append before after in
      let posts : numbers_at (range_with_len entry exit) (before ++ after) ≡ after =
      numbers-range entry exit (before ++ after) (omega (arith, all, starts, stops))
      ∙ (λ i. take exit (drop (sym starts i) (before ++ after))) ∙ ap (take exit) (drop-append_seam before after) ∙ take_all exit after (omega (arith, stops)) in
      let first : take entry (before ++ after) ≡ before = (λ i. take (sym starts i) (before ++ after)) ∙ take-append_seam before after in
      subst (λ b. Holds (exits_told m f) b after) first
      (hidden-holds entry told (told-fewer m ends f over) (with_entries-fits (range_with_len entry exit) f (places-there m ends f over) over.fits) (before ++ after) after
      (subst (Holds told (before ++ after)) posts (with_entries-least (range_with_len entry exit) f told refl (before ++ after) [] h)))

  exits-canonical : IsCanonicalFormula f → IsCanonicalFormula (exits_told m f)
  exits-canonical h =
      hidden-canonical entry (with_entries (range_with_len entry exit) f) (each-map IsCanonicalCase IsCanonicalCase (case_with_entries (range_with_len entry exit)) (λ case k. k) f.cases h)

-- ---- all members, one of them first

Among : ℕ → List ℕ → Type 0
Among n [] = ⊥
Among n (m ∷ ms) = (m ≡ n) ⊎ Among n ms

among-range : (n a count : ℕ) → a ≤ n → n < a + count → Among n (range_with_len a count)
unfolding Among
among-range n a zero low high = absurd (omega (arith, low, high))
among-range n a (suc count) low high = go (a == n) refl (λ more. among-range n (a + 1) count more (omega (arith, high)))
  where
    later : (a == n) ≡ false → a + 1 ≤ n
    later ne = grind (arith, low)

    go : (b : Bool) → (a == n) ≡ b → (a + 1 ≤ n → Among n (range_with_len (a + 1) count)) → (a ≡ n) ⊎ Among n (range_with_len (a + 1) count)
    go true e more = inl (same_number a n e)
    go false e more = inr (more (later e))

among-others : (place n : ℕ) (ns : List ℕ) → (n == place) ≡ false → Among n ns → Among n (others_in place ns)
unfolding Among
among-others place n [] differs h = absurd h
among-others place n (m ∷ ms) differs (inl same) = ap_first (subst (λ k. (k == place) ≡ false) (sym same) differs)
  where
    ap_first : (m == place) ≡ false → Among n (if not (m == place) then m ∷ others_in place ms else others_in place ms)
    ap_first e = subst (λ b. Among n (if not b then m ∷ others_in place ms else others_in place ms)) (sym e) (inl same)
among-others place n (m ∷ ms) differs (inr more) = go (not (m == place)) (among-others place n ms differs more)
  where
    go : (b : Bool) → Among n (others_in place ms) → Among n (if b then m ∷ others_in place ms else others_in place ms)
    go true k = inr k
    go false k = k

among-order : (place n count : ℕ) → n < count → Among n (order_from place count)
unfolding Among
among-order place n count lt = go (n == place) refl
  where
    go : (b : Bool) → (n == place) ≡ b → (place ≡ n) ⊎ Among n (others_in place (range_with_len 0 count))
    go true e = inl (sym (same_number n place e))
    go false e = inr (among-others place n (range_with_len 0 count) e (among-range n 0 count (omega arith) (omega (arith, lt))))

some-among : (F : ℕ → List Case) (n : ℕ) (ns : List ℕ) (before after : List ℤ) → Among n ns → HoldsSome (F n) before after → HoldsSome (flat_map F ns) before after
unfolding Among
some-among F n [] before after h k = absurd h
some-among F n (m ∷ ms) before after (inl same) k = some-left (F m) (flat_map F ms) before after (subst (λ j. HoldsSome (F j) before after) (sym same) k)
some-among F n (m ∷ ms) before after (inr more) k = some-right (F m) (flat_map F ms) before after (some-among F n ms before after more k)

-- ---- chains

module _ (members : List PairEnds) (stretches : List Stretch) (bases : List Transition) (group : IsGroup members stretches) (each_base : AreBases members bases)
    (canonical_bases : AllByRecursion IsCanonicalFormula bases) (leaves : HaveCanonicalLeaves (group_graph members stretches)) where
  abbrev graph : Graph
  graph = group_graph members stretches

  -- a chain of calls leads from the pair to one of which the base of its member holds
  pub record LeadsToBase (place : ℕ) (pair : List ℤ) : Type 0 where
    pub last : ℕ
    pub within : last < length members
    pub word : List ℕ
    pub end : List ℤ
    pub walk : IsWalk graph.links place last word
    pub run : IsRun graph word pair end
    pub base : Holds (base_at members bases last) end []

  base-canonical-at : (n : ℕ) → IsCanonicalFormula (base_at members bases n)
  base-canonical-at n = go (slice_get bases n) refl
    where
      go : (o : Option Transition) → slice_get bases n ≡ o → IsCanonicalFormula (unwrap_or o record { from = width_at members n; to = 0; cases = [] })
      go None e = tt
      go (Some f) e = each-get IsCanonicalFormula bases n f canonical_bases e

  module _ (place : ℕ) (lt : place < length members) where
    is-graph : IsEvaluated graph place
    is-graph = group-evaluated members stretches group place lt

    module _ (cells : List (Cell Transition)) (true_cells : AreTrueCells graph place is-graph leaves cells) (stays : StaysAt graph place cells) where
      chained : AreChained members bases place cells
      chained = record {
        few = group.few;
        within = lt;
        each_member = group.each_member;
        each_base = each_base;
        each_cell = chains-from members stretches group place cells true_cells.fit stays;
      }

      chain-canonical : (n : ℕ) → IsCanonicalFormula (chain_to members cells place n)
      chain-canonical n = go (slice_get cells n) refl
        where
          of-cell : (cell : Cell Transition) → IsCanonicalCell cell → IsCanonicalFormula (pair_cell (width_at members place) (width_at members n) cell)
          of-cell known.Zero h = tt
          of-cell known.One h = (tt, tt)
          of-cell (known.Item f) h = h

          go : (o : Option (Cell Transition)) → slice_get cells n ≡ o → IsCanonicalFormula (pair_cell (width_at members place) (width_at members n) (unwrap_or o known.Zero))
          go None e = tt
          go (Some cell) e = of-cell cell (true_cells.canonical n cell e)

      chains-canonical : IsCanonicalFormula (chains_of members bases cells place)
      chains-canonical =
          each-flat_map (λ (n : ℕ). Unit {0}) IsCanonicalCase (λ n. (chain_end members bases cells place n).cases)
          (λ n any. formula-canonical (chain_end members bases cells place n) (sequence-canonical (chain_to members cells place n) (base_at members bases n) (rows-canonical (chain_to members cells place n) (chain-canonical n))))
          (order_from place (length members)) (each-any (λ n. Unit {0}) (λ n. tt) (order_from place (length members)))

      -- the chains hold of each pair that leads to a base
      chains-hold : (pair : List ℤ) → length pair ≡ width_at members place → LeadsToBase place pair → Holds (chains_of members bases cells place) pair []
      chains-hold pair long way =
          let n = way.last in
          let within = way.within in
          let many = true_cells.fit.one_each in
          let there = some_at cells n (subst (λ k. n < k) (sym (many ∙ length-map members (λ (m : PairEnds). m.pair))) within) in
          let wide : length pair ≡ (vocabulary_at graph place).columns = long ∙ sym (ap (λ (v : Vocabulary). v.columns) (vocabulary-is members stretches group place)) in
          let cell : HoldsCell there.0 pair way.end = true_cells.hold n there.0 there.1 way.word way.walk pair way.end wide way.run in
          let lead : Holds (chain_to members cells place n) pair way.end =
          subst (λ o. Holds (pair_cell (width_at members place) (width_at members n) (unwrap_or o known.Zero)) pair way.end) (sym there.1) (of-cell n there.0 pair way.end long cell) in
          let whole : Holds (chain_end members bases cells place n) pair [] =
          sequence-holds (chain_to members cells place n) (base_at members bases n) (meets members bases place cells chained n within) (chained.each_cell.lead n within).fits (base-goes members bases n within each_base).fits pair way.end [] lead way.base in
          record { enters = long; some = some-among (λ k. (chain_end members bases cells place k).cases) n (order_from place (length members)) pair [] (among-order place n (length members) within) whole.some }
        where
          of-cell : (n : ℕ) (cell : Cell Transition) (before after : List ℤ) → length before ≡ width_at members place → HoldsCell cell before after → Holds (pair_cell (width_at members place) (width_at members n) cell) before after
          of-cell n known.Zero before after starts h = absurd h
          of-cell n known.One before after starts h = identity-holds (width_at members place) before after h starts
          of-cell n (known.Item f) before after starts h = h

      abbrev m : PairEnds
      m = ends_at members place

      is-member : IsMember m
      is-member = member-at members place lt group.each_member

      -- what is made of a member
      abbrev HoldsOfChains : Transition → Type 0
      HoldsOfChains f = (before after : List ℤ) → length before ≡ m.ends.entry.columns → length after ≡ m.ends.exit.columns → LeadsToBase place (before ++ after) → Holds f before after

      closed_by-holds : Always HoldsOfChains (closure_at members bases place cells)
      unfolding closure_at
      closed_by-holds =
          let chains = chains_of members bases cells place in
          let over = chains-go members bases place cells chained in
          let told = exits_told m chains in
          let ends = is-member.ends in
          always_weaker (λ f. Covers f told) HoldsOfChains (settled_and_fitted told m.ends.entry m.ends.exit)
          (λ f covers before after starts stops way. covers before after (exits-holds m ends chains over before after starts stops
          (chains-hold (before ++ after) (let all = length-append before after in let pair = ends.pair in omega (arith, all, pair, starts, stops)) way)))
          (settled_and_fitted-covers m.ends.entry m.ends.exit is-member.entry is-member.exit told (exits-from m ends chains over)
          (rows-canonical told (exits-canonical m ends chains over chains-canonical)) (exits-solvable m ends chains over))

    -- the closure of the member at the place
    abbrev pub IsClosed : Transition → Type 0
    IsClosed f =
        (before after : List ℤ) → length before ≡ (ends_at members place).ends.entry.columns → length after ≡ (ends_at members place).ends.exit.columns → LeadsToBase place (before ++ after) → Holds f before after

    pub closed-holds : Always IsClosed (closed_member members stretches bases place)
    unfolding closed_member
    closed-holds =
        always_bind (λ cells. AreTrueCells graph place is-graph leaves cells × StaysAt graph place cells) IsClosed (Noted (loss_notes (flat_map (losses_in_group_leaf members) stretches)) (evaluated_cells graph place))
        (λ cells. closure_at members bases place cells)
        (always_both (AreTrueCells graph place is-graph leaves) (StaysAt graph place) (evaluated_cells graph place) (evaluated-true graph place is-graph leaves) (cells-stay graph place is-graph))
        (λ cells both. closed_by-holds cells both.0 both.1)
