-- What a closure makes are summaries of the members.
use Rattle.std.proofs.Common.{◌≡◌, ℕ, zero, suc, ◌+◌, ◌<◌, length, List, [], ◌∷◌, ◌++◌, refl, sym, ap, subst, ◌∙◌, arith}
use Rattle.std.specs.Prelude.{◌&&◌, nat_le, Some}
use Rattle.std.specs.List.{AllZip, flat_map, list_all, range_with_len, slice_get}
use Rattle.std.proofs.lemmas.Bool.{leb-true}
use Rattle.transition_formula.specs.Transition.{Transition}
use Rattle.transition_formula.proofs.ColumnTests.{both}
use Rattle.path_expr.specs.declared.cell.Cell.{Cell}
use Rattle.posing.specs.Logs.{loss_notes}
use Rattle.posing.specs.Posing.{Done, Noted, each, Always}
use Rattle.posing.proofs.Paths.{always_bind, always_weaker}
use Rattle.checked_tree.specs.Evaluation.{evaluated_cells, settled_and_fitted}
use Rattle.checked_tree.specs.Law.{AreFittedCells, IsBetweenEnds}
use Rattle.checked_tree.proofs.Between.{settled_and_fitted-between}
use Rattle.checked_tree.proofs.Cells.{cells-fit}
use Rattle.newton_rounds.specs.Between.{AreBases, AreChained, AreChainsFrom, AreSummaries, IsGroup, IsSummary}
use Rattle.newton_rounds.specs.Closure.{chains_of, closure_at, closed_member, ends_at, exits_told, group_graph, losses_in_group_leaf, with_closed}
use Rattle.newton_rounds.specs.Pairs.{PairEnds, Stretch}
use Rattle.newton_rounds.proofs.CratesBelow.{fitted-few}
use Rattle.newton_rounds.proofs.ChainFormulas.{chains-go, exits-from, member-at}
use Rattle.newton_rounds.proofs.GroupGraphs.{group-evaluated}
use Rattle.newton_rounds.proofs.PairCells.{StaysAt, cells-stay, chains-from}
use Rattle.newton_rounds.proofs.MatchLoops.{IsBehind, always_both, each-match}
use Rattle.newton_rounds.proofs.ExitColumns.{range-below}

between-summary : (m : PairEnds) (f : Transition) → IsBetweenEnds m.ends.entry m.ends.exit f → IsSummary m f
between-summary m f is = record {
  goes = record { from_is = is.between.from_is; to_is = is.between.to_is; fits = is.between.fits; few = fitted-few f.cases is.fitted };
  cases = leb-true (length f.cases) 16 (both (nat_le (length f.cases) 16) (list_all (λ case. nat_le (length case.rows) 64 && nat_le case.aux 64) f.cases) is.fitted).0;
}

closed_by-summary : (members : List PairEnds) (bases : List Transition) (place : ℕ) (cells : List (Cell Transition)) → AreChained members bases place cells → Always (IsSummary (ends_at members place)) (closure_at members bases place cells)
unfolding closure_at
closed_by-summary members bases place cells chained =
    let m = ends_at members place in
    let is = member-at members place chained.within chained.each_member in
    let told = exits_told m (chains_of members bases cells place) in
    always_weaker (IsBetweenEnds m.ends.entry m.ends.exit) (IsSummary m) (settled_and_fitted told m.ends.entry m.ends.exit) (between-summary m)
    (settled_and_fitted-between m.ends.entry m.ends.exit is.entry is.exit told (exits-from m is.ends (chains_of members bases cells place) (chains-go members bases place cells chained)))

module _ (members : List PairEnds) (stretches : List Stretch) (group : IsGroup members stretches) (bases : List Transition) (based : AreBases members bases) where
  pub chained-by : (place : ℕ) (cells : List (Cell Transition)) → place < length members → AreChainsFrom members place cells → AreChained members bases place cells
  chained-by place cells lt from = record { few = group.few; within = lt; each_member = group.each_member; each_base = based; each_cell = from }

  member-summary : (place : ℕ) → place < length members → Always (IsSummary (ends_at members place)) (closed_member members stretches bases place)
  unfolding closed_member
  member-summary place lt =
      let g = group_graph members stretches in
      let is = group-evaluated members stretches group place lt in
      always_bind (λ cells. AreFittedCells g place cells × StaysAt g place cells) (IsSummary (ends_at members place)) (Noted (loss_notes (flat_map (losses_in_group_leaf members) stretches)) (evaluated_cells g place))
      (λ cells. closure_at members bases place cells)
      (always_both (AreFittedCells g place) (StaysAt g place) (evaluated_cells g place) (cells-fit g place is) (cells-stay g place is))
      (λ cells h. closed_by-summary members bases place cells (chained-by place cells lt (chains-from members stretches group place cells h.0 h.1)))

  closed-behind : (made : List Transition) (place : ℕ) → place < length members → Always (IsBehind (λ n f. IsSummary (ends_at members n) f) made place) (with_closed members stretches bases made place)
  unfolding with_closed
  closed-behind made place lt =
      always_bind (IsSummary (ends_at members place)) (IsBehind (λ n f. IsSummary (ends_at members n) f) made place) (closed_member members stretches bases place) (λ f. Done (made ++ f ∷ []))
      (member-summary place lt) (λ f h. record { value = f; is = refl; holds = h })

  pub closed-summaries : Always (AreSummaries members) (each (with_closed members stretches bases) [] (range_with_len 0 (length members)))
  closed-summaries =
      always_weaker (AllZip (λ n f. IsSummary (ends_at members n) f) (range_with_len 0 (length members))) (AreSummaries members) (each (with_closed members stretches bases) [] (range_with_len 0 (length members)))
      (λ table h. to-summaries (ends_at members) 0 members table (λ n. ap (ends_at members) (omega arith)) h)
      (each-match (λ n. n < length members) (λ n f. IsSummary (ends_at members n) f) (with_closed members stretches bases) closed-behind (range_with_len 0 (length members))
      (range-below 0 (length members) (length members) (omega arith)))
    where
      to-summaries : (at : ℕ → PairEnds) (k : ℕ) (ms : List PairEnds) (table : List Transition) → ((n : ℕ) → at (k + n) ≡ ends_at ms n)
          → AllZip (λ n f. IsSummary (at n) f) (range_with_len k (length ms)) table → AreSummaries ms table
      to-summaries at k [] [] same h = tt
      to-summaries at k [] (f ∷ table) same h = absurd h
      to-summaries at k (m ∷ ms) [] same h = absurd h
      to-summaries at k (m ∷ ms) (f ∷ table) same h =
          let here : k + 0 ≡ k = omega arith in (
            subst (λ (m : PairEnds). IsSummary m f) (sym (ap at here) ∙ same 0) h.0,
            to-summaries at (k + 1) ms table (λ n. let next : (k + 1) + n ≡ k + suc n = omega arith in ap at next ∙ same (suc n)) h.1,
          )

-- ---- summaries as known formulas

pub summaries-length : (members : List PairEnds) (table : List Transition) → AreSummaries members table → length table ≡ length members
summaries-length [] [] h = refl
summaries-length [] (f ∷ table) h = absurd h
summaries-length (m ∷ members) [] h = absurd h
summaries-length (m ∷ members) (f ∷ table) h = ap suc (summaries-length members table h.1)

pub summary-at : (members : List PairEnds) (table : List Transition) (n : ℕ) (f : Transition) → AreSummaries members table → slice_get table n ≡ Some f → IsSummary (ends_at members n) f
summary-at [] [] n f h e = absurd (cc e)
summary-at [] (g ∷ table) n f h e = absurd h
summary-at (m ∷ members) [] n f h e = absurd h
summary-at (m ∷ members) (g ∷ table) zero f h e = let same : g ≡ f = cc in subst (IsSummary m) same h.0
summary-at (m ∷ members) (g ∷ table) (suc n) f h e = summary-at members table n f h.1 e
