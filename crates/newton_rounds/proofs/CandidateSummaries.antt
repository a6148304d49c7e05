-- Candidates are rows over the pairs of members, and as formulas they are summaries.
use Rattle.std.proofs.Common.{◌≡◌, ℕ, zero, suc, ◌+◌, ◌<◌, length, drop, map, List, [], ◌∷◌, true, refl, sym, ap, subst, ◌∙◌, arith}
use Rattle.std.specs.Prelude.{All, get_or}
use Rattle.std.specs.List.{AllByRecursion}
use Rattle.std.proofs.lemmas.List.{drop_more}
use Rattle.items.proofs.Each.{each-more, test_from_each}
use Rattle.linear_terms.specs.declared.row.Case.{Case}
use Rattle.linear_terms.specs.declared.row.Row.{Row}
use Rattle.transition_formula.specs.Transition.{Transition, every_column, fits, is_below}
use Rattle.transition_formula.proofs.ColumnTests.{both_true}
use Rattle.transition_formula.proofs.Fitting.{from_fitting}
use Rattle.posing.specs.Posing.{Done, each, Always}
use Rattle.posing.proofs.Paths.{always_weaker}
use Rattle.polyhedra.specs.Bounds.{IsCovered, IsCoveredByPosts, rows_with_exit_bound}
use Rattle.polyhedra.specs.Directions.{directions}
use Rattle.polyhedra.proofs.Coverage.{directions-covered, directions-covered_by_posts}
use Rattle.leaf_cases.specs.Guard.{columns_of}
use Rattle.newton_rounds.specs.Between.{AreCandidates, AreSummaries, GoesBetween, IsMember, IsRowOver, IsSummary}
use Rattle.newton_rounds.specs.Candidates.{candidate_by, candidate_formula, candidate_of, paired_case, table_of}
use Rattle.newton_rounds.specs.Closure.{ends_at}
use Rattle.newton_rounds.specs.Pairs.{PairEnds}
use Rattle.newton_rounds.proofs.CandidateRows.{ArePairRows, IsPairRow, candidate-rows}
use Rattle.newton_rounds.proofs.ChainFormulas.{exits-few, exits-go}
use Rattle.newton_rounds.proofs.PairNumbers.{few-more}
use Rattle.newton_rounds.proofs.PostFormulas.{columns-length, fronted-fits}

-- ---- what is asked for a candidate

pub candidate-none : (m : PairEnds) (from : ℕ) (cases : List Case) → cases ≡ [] → candidate_by m from cases ≡ Done []
candidate-none m from cases e = ap (candidate_by m from) e

pub candidate-some : (m : PairEnds) (from : ℕ) (cases : List Case) → (cases ≡ [] → ⊥)
    → candidate_by m from cases ≡ each (rows_with_exit_bound (map (paired_case from) cases) (columns_of m.pair.columns)) [] (directions m.pair)
candidate-some m from [] some = absurd (some refl)
candidate-some m from (case ∷ more) some = refl

module _ (m : PairEnds) (is : IsMember m) where
  pub after-covered : All (IsCovered (length (columns_of m.pair.columns))) (directions m.pair)
  after-covered = directions-covered m.pair is.pair.is m.pair.columns refl (length (columns_of m.pair.columns)) (columns-length 0 m.pair.columns)

  pub posts-covered : (f : Transition) → IsSummary m f → All (IsCoveredByPosts (map (paired_case f.from) f.cases)) (directions m.pair)
  posts-covered f summary =
      let wide : m.pair.columns ≡ f.from + f.to = let pair = is.ends.pair in let from = summary.goes.from_is in let to = summary.goes.to_is in omega (arith, pair, from, to) in
      directions-covered_by_posts m.pair is.pair.is (f.from + f.to) wide f.from (map (paired_case f.from) f.cases) (fronted-fits f.from f.from f.to f.cases (omega arith) summary.goes.fits)

-- ---- the rows

pub candidate-over : (m : PairEnds) (f : Transition) → Always (AllByRecursion (IsRowOver m.pair.columns)) (candidate_of m f)
candidate-over m f =
    always_weaker (ArePairRows m.pair.columns) (AllByRecursion (IsRowOver m.pair.columns)) (candidate_of m f)
    (λ rows h. each-more (IsPairRow m.pair.columns) (IsRowOver m.pair.columns) (λ row k. k.below) rows h) (candidate-rows m f)

-- ---- candidates as formulas

abbrev pub pairs_with : PairEnds → List Row → Transition
pairs_with m rows = record { from = m.pair.columns; to = 0; cases = record { aux = 0; rows = rows; post = [] } ∷ [] }

pub pairs-go : (m : PairEnds) (rows : List Row) → AllByRecursion (IsRowOver m.pair.columns) rows → GoesBetween 2000 m.pair.columns 0 (pairs_with m rows)
pairs-go m rows h =
    let case : Case = record { aux = 0; rows = rows; post = [] } in
    record {
      from_is = refl;
      to_is = refl;
      fits =
          both_true (fits m.pair.columns 0 case) true
          (from_fitting m.pair.columns 0 case record {
            length_is = refl;
            rows_are = test_from_each (λ (row : Row). every_column (is_below m.pair.columns 0) row.poly) (IsRowOver m.pair.columns) (λ row k. k) rows h;
            posts_are = refl;
          }) refl;
      few = (omega arith, tt);
    }

pub candidate-summary : (m : PairEnds) (rows : List Row) → IsMember m → AllByRecursion (IsRowOver m.pair.columns) rows → IsSummary m (candidate_formula m rows)
candidate-summary m rows is h =
    let over = pairs-go m rows h in
    let goes = exits-go m is.ends (pairs_with m rows) over in
    record {
      goes = record {
        from_is = goes.from_is;
        to_is = goes.to_is;
        fits = goes.fits;
        few = few-more 34 64 (candidate_formula m rows).cases (omega arith) (exits-few m is.ends (pairs_with m rows) over 0 (omega arith, tt));
      };
      cases = omega arith;
    }

pub table-summaries : (members : List PairEnds) (candidates : List (List Row)) → AllByRecursion IsMember members → AreCandidates members candidates → AreSummaries members (table_of members candidates)
table-summaries [] [] h k = tt
table-summaries [] (rows ∷ candidates) h k = absurd k
table-summaries (m ∷ members) [] h k = absurd k
table-summaries (m ∷ members) (rows ∷ candidates) h k = (candidate-summary m rows h.0 k.0, table-summaries members candidates h.1 k.1)

-- ---- loops over candidates

pub candidates-length : (members : List PairEnds) (candidates : List (List Row)) → AreCandidates members candidates → length candidates ≡ length members
candidates-length [] [] h = refl
candidates-length [] (rows ∷ candidates) h = absurd h
candidates-length (m ∷ members) [] h = absurd h
candidates-length (m ∷ members) (rows ∷ candidates) h = ap suc (candidates-length members candidates h.1)

pub candidate-at : (members : List PairEnds) (candidates : List (List Row)) (i : ℕ) (m : PairEnds) (rows : List Row) → i < length members → m ≡ get_or members i m → rows ≡ get_or candidates i rows
    → AreCandidates members candidates → AllByRecursion (IsRowOver m.pair.columns) rows
candidate-at [] candidates i m rows lt e f h = absurd (omega (arith, lt))
candidate-at (n ∷ members) [] i m rows lt e f h = absurd h
candidate-at (n ∷ members) (some ∷ candidates) zero m rows lt e f h = subst (λ (t : PairEnds × List Row). AllByRecursion (IsRowOver t.0.pair.columns) t.1) (λ i. (sym e i, sym f i)) h.0
candidate-at (n ∷ members) (some ∷ candidates) (suc i) m rows lt e f h = candidate-at members candidates i m rows (omega (arith, lt)) e f h.1

pub next-candidate : (members : List PairEnds) (candidates : List (List Row)) (i : ℕ) (m : PairEnds) (rows : List Row) → i < length members → length candidates ≡ length members → m ≡ get_or members i m → rows ≡ get_or candidates i rows
    → table_of (drop i members) (drop i candidates) ≡ candidate_formula m rows ∷ table_of (drop (i + 1) members) (drop (i + 1) candidates)
next-candidate members candidates i m rows lt long e f =
    λ j. table_of ((drop_more members i m lt ∙ ap (λ x. x ∷ drop (i + 1) members) (sym e)) j)
    ((drop_more candidates i rows (omega (arith, lt, long)) ∙ ap (λ x. x ∷ drop (i + 1) candidates) (sym f)) j)

pub candidate-over-at : (members : List PairEnds) (candidates : List (List Row)) (i : ℕ) (rows : List Row) → i < length candidates → rows ≡ get_or candidates i rows → AreCandidates members candidates
    → AllByRecursion (IsRowOver (ends_at members i).pair.columns) rows
candidate-over-at [] [] i rows lt e h = absurd (omega (arith, lt))
candidate-over-at [] (some ∷ candidates) i rows lt e h = absurd h
candidate-over-at (m ∷ members) [] i rows lt e h = absurd h
candidate-over-at (m ∷ members) (some ∷ candidates) zero rows lt e h = subst (AllByRecursion (IsRowOver m.pair.columns)) (sym e) h.0
candidate-over-at (m ∷ members) (some ∷ candidates) (suc i) rows lt e h = candidate-over-at members candidates i rows (omega (arith, lt)) e h.1
