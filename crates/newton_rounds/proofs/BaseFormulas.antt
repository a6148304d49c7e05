-- Bases go from the pairs of their procedures.
use Rattle.std.proofs.Common.{◌≤◌, [], refl, sym, subst, arith}
use Rattle.std.specs.Prelude.{Option}
use Rattle.items.proofs.Each.{each-map}
use Rattle.linear_terms.specs.declared.row.Case.{Case}
use Rattle.transition_formula.specs.Equating.{equated_formula, equated_case}
use Rattle.transition_formula.specs.Posts.{case_with_posts}
use Rattle.transition_formula.specs.Transition.{Transition, IsTransition}
use Rattle.transition_formula.proofs.PostsAsEntries.{equated-fits}
use Rattle.transition_formula.proofs.SomePosts.{with_posts-fits}
use Rattle.proc_summary.specs.Claims.{FitsIf}
use Rattle.proc_summary.specs.Summary.{exit_places}
use Rattle.newton_rounds.specs.Between.{GoesBetween}
use Rattle.newton_rounds.specs.Pairs.{PairEnds, base_from, entry_told}
use Rattle.newton_rounds.specs.Shapes.{AreEnds}
use Rattle.newton_rounds.proofs.ExitColumns.{pair-holds}
use Rattle.newton_rounds.proofs.PairStates.{told-fits, told-has, told-there, told-to}

module _ (m : PairEnds) (ends : AreEnds m) (exit : Option Transition) (fits : FitsIf m.ends.full.columns exit) where
  abbrev told : Transition
  told = entry_told m exit

  abbrev equal : Transition
  equal = equated_formula m.ends.entry.columns (exit_places m.ends) told

  equal-fits : IsTransition equal.from equal.to equal.cases
  equal-fits =
      equated-fits m.ends.entry.columns (exit_places m.ends) told (told-there m ends exit fits) (pair-holds m ends)
      (subst (λ to. IsTransition m.pair.columns to told.cases) (sym (told-to m ends exit fits)) (told-fits m ends exit fits))

  pub base-goes : GoesBetween 1000 m.pair.columns 0 (base_from m exit)
  base-goes = record {
    from_is = refl;
    to_is = refl;
    fits = with_posts-fits [] equal (λ i d within. absurd (omega (arith, within))) equal-fits;
    few =
        each-map (λ (case : Case). case.aux ≤ 190) (λ (case : Case). case.aux ≤ 1000) (case_with_posts []) (λ case le. omega (arith, le)) equal.cases
        (each-map (λ (case : Case). case.aux ≤ 190) (λ (case : Case). case.aux ≤ 190) (equated_case m.ends.entry.columns (exit_places m.ends)) (λ case le. le) told.cases (told-has m ends exit fits));
  }
