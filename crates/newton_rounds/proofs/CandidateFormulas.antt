-- A candidate as a formula: what it holds of, and that it is one that may be known.
use Rattle.std.proofs.Common.{◌≡◌, ℕ, zero, suc, ◌+◌, ◌-◌, ◌<◌, ◌≤◌, ℤ, pos, Bool, true, false, List, [], ◌∷◌, ◌++◌, length, take, drop, Some, refl, sym, ap, subst, ◌∙◌, inl, arith, length-append}
use Rattle.std.specs.Prelude.{All, if◌then◌else◌}
use Rattle.std.specs.List.{range_with_len, slice_get}
use Rattle.std.proofs.Math.Seq.{drop-append_seam, take-append_seam}
use Rattle.std.proofs.lemmas.List.{take_all}
use Rattle.std.proofs.lemmas.List.FromFn.{length-range_with_len}
use Rattle.std.proofs.lemmas.List.Elements.{All-from_recursion}
use Rattle.items.proofs.Each.{test_from_each}
use Rattle.linear_terms.specs.declared.row.Row.{Row}
use Rattle.linear_terms.specs.declared.row.Case.{Case}
use Rattle.linear_terms.specs.Row.{RowsHold}
use Rattle.syntax_tree.specs.declared.program.Proc.{Proc}
use Rattle.syntax_tree.specs.declared.program.Program.{Program}
use Rattle.syntax_tree.specs.WellFormed.{IsWellFormed}
use Rattle.transition_formula.specs.Meaning.{Holds}
use Rattle.transition_formula.specs.Posts.{numbers_at, with_entries}
use Rattle.transition_formula.specs.Transition.{Transition, IsTransition, every_column, fits, is_below}
use Rattle.transition_formula.proofs.ColumnTests.{both_true}
use Rattle.transition_formula.proofs.Fitting.{from_fitting}
use Rattle.transition_formula.proofs.HiddenColumns.{hidden-fits, hidden-holds}
use Rattle.transition_formula.proofs.SomePosts.{with_entries-fits, with_entries-least}
use Rattle.leaf_cases.specs.Conditions.{IsKnown}
use Rattle.vocabularies.specs.Ends.{value_width}
use Rattle.vocabularies.specs.Procs.{IsProcOf}
use Rattle.proc_summary.proofs.ExitSummaries.{entry-columns, exit-columns, numbers-range}
use Rattle.newton_rounds.specs.Candidates.{candidate_formula, table_of}
use Rattle.newton_rounds.specs.Closure.{pair_ends}
use Rattle.newton_rounds.specs.Pairs.{PairEnds}
use Rattle.newton_rounds.specs.Shapes.{AreEnds}
use Rattle.newton_rounds.proofs.CandidateRows.{ArePairRows, IsPairRow}
use Rattle.newton_rounds.proofs.PairNumbers.{HasFew, few-more, hidden-few}
use Rattle.newton_rounds.proofs.ExitColumns.{exit-few, range-below}
use Rattle.newton_rounds.proofs.TrueRows.{pair_numbers}
use Rattle.newton_rounds.proofs.Widths.{ends-are}

module _ (m : PairEnds) (ends : AreEnds m) (rows : List Row) (are : ArePairRows m.pair.columns rows) where
  abbrev entry : ℕ
  entry = m.ends.entry.columns

  abbrev exit : ℕ
  exit = m.ends.exit.columns

  -- the rows as a case of the pairs
  abbrev of_pairs : Transition
  of_pairs = record { from = m.pair.columns; to = 0; cases = record { aux = 0; rows = rows; post = [] } ∷ [] }

  abbrev told : Transition
  told = with_entries (range_with_len entry exit) of_pairs

  pairs-fit : IsTransition m.pair.columns 0 of_pairs.cases
  pairs-fit =
      both_true (fits m.pair.columns 0 (record { aux = 0; rows = rows; post = [] })) true
      (from_fitting m.pair.columns 0 (record { aux = 0; rows = rows; post = [] }) record {
        length_is = refl;
        rows_are = test_from_each (λ (row : Row). every_column (is_below m.pair.columns 0) row.poly) (IsPairRow m.pair.columns) (λ row h. h.below) rows are;
        posts_are = refl;
      }) refl

  entries-below : All (λ place. place < m.pair.columns) (range_with_len entry exit)
  entries-below = All-from_recursion (λ place. place < m.pair.columns) (range_with_len entry exit) (range-below entry exit m.pair.columns (let pair = ends.pair in omega (arith, pair)))

  told-fits : IsTransition told.from told.to told.cases
  told-fits = with_entries-fits (range_with_len entry exit) of_pairs entries-below pairs-fit

  entry-fewer : entry ≤ m.pair.columns
  entry-fewer = let pair = ends.pair in omega (arith, pair)

  pub candidate-fits : IsTransition (candidate_formula m rows).from (candidate_formula m rows).to (candidate_formula m rows).cases
  candidate-fits = hidden-fits entry told.from told.to told.cases entry-fewer told-fits

  pub candidate-few : HasFew 64 (candidate_formula m rows).cases
  candidate-few =
      let pair = ends.pair in
      let few = exit-few m ends in
      let long = length-range_with_len entry exit in
      few-more (0 + (told.from - entry) + told.to) 64 (candidate_formula m rows).cases (omega (arith, pair, few, long)) (hidden-few entry told.from told.to 0 told.cases told-fits (omega arith, tt))

  -- it holds of each entry and exit of which the rows are true
  pub candidate-holds : (before after : List ℤ) → length before ≡ entry → length after ≡ exit → RowsHold (pair_numbers (before ++ after)) rows → Holds (candidate_formula m rows) before after
  candidate-holds before after starts stops h =
      let all = length-append before after in
      let pair = ends.pair in
      let whole : Holds of_pairs (before ++ after) [] = record { enters = omega (arith, all, pair, starts, stops); some = inl (λ n. pos 0, record { rows = h; posts = refl }) } in
      let posts : numbers_at (range_with_len entry exit) (before ++ after) ≡ after =
      numbers-range entry exit (before ++ after) (omega (arith, all, starts, stops))
      ∙ (λ i. take exit (drop (sym starts i) (before ++ after))) ∙ ap (take exit) (drop-append_seam before after) ∙ take_all exit after (omega (arith, stops)) in
      let first : take entry (before ++ after) ≡ before = (λ i. take (sym starts i) (before ++ after)) ∙ take-append_seam before after in
      subst (λ b. Holds (candidate_formula m rows) b after) first
      (hidden-holds entry told entry-fewer told-fits (before ++ after) after
      (subst (Holds told (before ++ after)) posts (with_entries-least (range_with_len entry exit) of_pairs told refl (before ++ after) [] whole)))

-- ---- it may be known

module _ (program : Program) (proc : ℕ) (p : Proc) (formed : IsWellFormed program) (is : IsProcOf program proc p) where
  exits-same : (returns : Bool) (globals : ℕ) → globals + value_width returns ≡ (if returns then globals + 1 else globals)
  exits-same true globals = refl
  exits-same false globals = omega arith

  pub candidate-known : (rows : List Row) → ArePairRows (pair_ends program p).pair.columns rows → IsKnown program p (candidate_formula (pair_ends program p) rows)
  candidate-known rows are =
      let m = pair_ends program p in
      let ends = ends-are program proc p formed is in
      record {
        enters = entry-columns program proc p formed is;
        leaves = length-range_with_len m.ends.entry.columns m.ends.exit.columns ∙ exit-columns program proc p formed is ∙ exits-same p.returns (length program.globals);
        fits = candidate-fits m ends rows are;
        cases = omega arith;
        auxiliaries = All-from_recursion (λ (case : Case). case.aux ≤ 64) (candidate_formula m rows).cases (candidate-few m ends rows are);
      }

-- ---- the table

pub table-long : (members : List PairEnds) (candidates : List (List Row)) → length members ≡ length candidates → length (table_of members candidates) ≡ length members
table-long [] candidates same = refl
table-long (m ∷ members) [] same = absurd (omega (arith, same))
table-long (m ∷ members) (rows ∷ candidates) same = ap suc (table-long members candidates (omega (arith, same)))

-- the formula at a place is that of the member and the candidate there
pub table-at : (members : List PairEnds) (candidates : List (List Row)) (place : ℕ) (m : PairEnds) (f : Transition) → slice_get members place ≡ Some m → slice_get (table_of members candidates) place ≡ Some f
    → (rows : List Row) × (slice_get candidates place ≡ Some rows) × (f ≡ candidate_formula m rows)
table-at [] candidates place m f e g = absurd (none place e)
  where
    none : (n : ℕ) → slice_get [] n ≡ Some m → ⊥
    none n e = cc
table-at (n ∷ members) [] place m f e g = absurd (none place g)
  where
    none : (n : ℕ) → slice_get [] n ≡ Some f → ⊥
    none n e = cc
table-at (n ∷ members) (rows ∷ candidates) zero m f e g =
    let same : n ≡ m = cc in
    let made : candidate_formula n rows ≡ f = some-same (candidate_formula n rows) f g in
    (rows, refl, sym made ∙ ap (λ k. candidate_formula k rows) same)
  where
    some-same : (x y : Transition) → Some x ≡ Some y → x ≡ y
    some-same x y e = cc
table-at (n ∷ members) (rows ∷ candidates) (suc place) m f e g = table-at members candidates place m f e g
