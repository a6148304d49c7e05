-- What formulas of pairs hold of: with equations, and without a call of the group.
use Rattle.std.proofs.Common.{◌≡◌, ℕ, ◌+◌, ℤ, pos, List, [], ◌∷◌, ◌++◌, length, take, Option, Some, None, Result, Ok, Err, refl, sym, subst, ◌∙◌, arith}
use Rattle.std.specs.Prelude.{IsTrue}
use Rattle.std.specs.List.{AllByRecursion, cons_option, filter_map}
use Rattle.std.proofs.lemmas.List.{get_or_append_left}
use Rattle.std.proofs.lemmas.Option.{unwrap_or-slice_get}
use Rattle.items.proofs.Each.{each-append, each-map}
use Rattle.linear_terms.specs.declared.col.Col.{Col}
use Rattle.linear_terms.specs.declared.col.Col.TheVariants.{At, Aux}
use Rattle.linear_terms.specs.declared.error.TermError.{TermError}
use Rattle.linear_terms.specs.declared.row.Kind.TheVariants.{Equal}
use Rattle.linear_terms.specs.Expressions.{◌⊟◌, column}
use Rattle.linear_terms.specs.Polynomial.{Polynomial}
use Rattle.transition_formula.specs.Composition.{row_of}
use Rattle.transition_formula.specs.Equating.{differences, equated_formula, equated_case}
use Rattle.transition_formula.specs.Hiding.{hidden}
use Rattle.transition_formula.specs.Meaning.{Holds, numbers}
use Rattle.transition_formula.specs.Posts.{case_with_posts, numbers_at, posts_at, with_posts}
use Rattle.transition_formula.specs.Transition.{Transition, is_below}
use Rattle.transition_formula.proofs.Fitting.{true-below}
use Rattle.transition_formula.proofs.HiddenColumns.{hidden-fits, hidden-holds}
use Rattle.transition_formula.proofs.PostsAsEntries.{StandFrom, equated-holds, raised-holds, stand-behind}
use Rattle.transition_formula.proofs.SomePosts.{with_posts-holds}
use Rattle.recurrence.proofs.ColumnShapes.{canonical-column, canonical-difference}
use Rattle.proc_summary.specs.Claims.{FitsIf, HoldsIf}
use Rattle.proc_summary.specs.Summary.{exit_formula, exit_places}
use Rattle.newton_rounds.specs.Pairs.{PairEnds, base_from, entry_told}
use Rattle.newton_rounds.specs.Shapes.{AreEnds}
use Rattle.recurrence.proofs.CanonicalOrder.{IsCanonicalCase, IsCanonicalFormula, IsCanonicalRow}
use Rattle.newton_rounds.proofs.PairNumbers.{states-of}
use Rattle.newton_rounds.proofs.PairStates.{told-fewer}
use Rattle.newton_rounds.proofs.Unfoldings.{IsCanonicalExit, hidden-canonical}

-- ---- more entry columns

module _ (before more : List ℤ) where
  pub longer-agree : (aux : ℕ → ℤ) (columns most : ℕ) → length before ≡ columns → (c : Col) → IsTrue (is_below columns most c) → numbers before aux c ≡ numbers (before ++ more) aux c
  longer-agree aux columns most long (At n) h =
      let lt = true-below n columns h in
      unwrap_or-slice_get before n (pos 0) ∙ sym (get_or_append_left before more (pos 0) n (omega (arith, lt, long))) ∙ sym (unwrap_or-slice_get (before ++ more) n (pos 0))
  longer-agree aux columns most long (Aux n) h = refl

-- ---- rows are canonical

differences-canonical : (first : ℕ) (posts : List Polynomial) → AllByRecursion IsCanonicalRow (filter_map (row_of Equal) (differences first posts))
differences-canonical first [] = tt
differences-canonical first (post ∷ posts) = go (column (At first) ⊟ Ok post) refl (differences-canonical (first + 1) posts)
  where
    go : (r : Result Polynomial TermError) → column (At first) ⊟ Ok post ≡ r → AllByRecursion IsCanonicalRow (filter_map (row_of Equal) (differences (first + 1) posts))
        → AllByRecursion IsCanonicalRow (cons_option (row_of Equal r) (filter_map (row_of Equal) (differences (first + 1) posts)))
    go (Ok p) e later = ((canonical-difference (column (At first)) (Ok post) (canonical-column (At first))).as_made p e, later)
    go (Err x) e later = later

pub equated-canonical : (first : ℕ) (places : List ℕ) (f : Transition) → IsCanonicalFormula f → IsCanonicalFormula (equated_formula first places f)
equated-canonical first places f h =
    each-map IsCanonicalCase IsCanonicalCase (equated_case first places)
    (λ case k. each-append IsCanonicalRow case.rows (filter_map (row_of Equal) (differences first (posts_at places case.post))) k (differences-canonical first (posts_at places case.post))) f.cases h

pub posts-canonical : (places : List ℕ) (f : Transition) → IsCanonicalFormula f → IsCanonicalFormula (with_posts places f)
posts-canonical places f h = each-map IsCanonicalCase IsCanonicalCase (case_with_posts places) (λ case k. k) f.cases h

-- ---- a procedure's pairs

module _ (m : PairEnds) (ends : AreEnds m) (f : Option Transition) (fit : FitsIf m.ends.full.columns f) where
  abbrev whole : Transition
  whole = exit_formula m.ends.full.columns f

  pub whole-holds : (before after : List ℤ) → HoldsIf f before after → Holds whole before after
  whole-holds before after h = go f h
    where
      go : (g : Option Transition) → HoldsIf g before after → Holds (exit_formula m.ends.full.columns g) before after
      go None k = absurd k
      go (Some g) k = k

  pub told-canonical : IsCanonicalExit f → IsCanonicalFormula (entry_told m f)
  told-canonical h = hidden-canonical m.ends.entry.columns whole (go f h)
    where
      go : (g : Option Transition) → IsCanonicalExit g → IsCanonicalFormula (exit_formula m.ends.full.columns g)
      go None k = tt
      go (Some g) k = k

  -- from the entry and any exit to the state that is come to
  pub entry_told-holds : (before exits after : List ℤ) → length exits ≡ m.ends.exit.columns → HoldsIf f before after → Holds (entry_told m f) (take m.ends.entry.columns before ++ exits) after
  entry_told-holds before exits after long h =
      let states = states-of m.ends.full.columns f fit in
      let fewer = told-fewer m ends f fit in
      let hidden_holds = hidden-holds m.ends.entry.columns whole fewer states.fits before after (whole-holds before after h) in
      let pair = ends.pair in
      let starts = hidden_holds.enters in
      raised-holds m.pair.columns (hidden m.ends.entry.columns whole) (hidden-fits m.ends.entry.columns whole.from whole.to whole.cases fewer states.fits)
      (take m.ends.entry.columns before) exits after (omega (arith, pair, starts, long)) hidden_holds

  pub told-stand : (before exits after : List ℤ) → HoldsIf f before after → StandFrom (take m.ends.entry.columns before ++ exits) m.ends.entry.columns exits
  told-stand before exits after h =
      let states = states-of m.ends.full.columns f fit in
      let hidden_holds = hidden-holds m.ends.entry.columns whole (told-fewer m ends f fit) states.fits before after (whole-holds before after h) in
      subst (λ n. StandFrom (take m.ends.entry.columns before ++ exits) n exits) hidden_holds.enters (stand-behind (take m.ends.entry.columns before) exits)

  -- the base holds of an activation without a call of the group
  pub base-holds : (before exits after : List ℤ) → length exits ≡ m.ends.exit.columns → numbers_at (exit_places m.ends) after ≡ exits → HoldsIf f before after → Holds (base_from m f) (take m.ends.entry.columns before ++ exits) []
  base-holds before exits after long are h =
      with_posts-holds [] (equated_formula m.ends.entry.columns (exit_places m.ends) (entry_told m f)) (take m.ends.entry.columns before ++ exits) after
      (equated-holds m.ends.entry.columns (exit_places m.ends) (entry_told m f) (take m.ends.entry.columns before ++ exits) after
      (subst (StandFrom (take m.ends.entry.columns before ++ exits) m.ends.entry.columns) (sym are) (told-stand before exits after h))
      (entry_told-holds before exits after long h))

  pub base-canonical : IsCanonicalExit f → IsCanonicalFormula (base_from m f)
  base-canonical h = posts-canonical [] (equated_formula m.ends.entry.columns (exit_places m.ends) (entry_told m f)) (equated-canonical m.ends.entry.columns (exit_places m.ends) (entry_told m f) (told-canonical h))
