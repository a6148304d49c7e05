-- What the formulas of a procedure's states say of its pairs.
use Rattle.std.proofs.Common.{◌≡◌, ◌+◌, ◌-◌, ◌<◌, ◌≤◌, ◌^◌, sym, subst, arith}
use Rattle.std.specs.Prelude.{All, Option}
use Rattle.linear_terms.specs.declared.row.Case.{Case}
use Rattle.transition_formula.specs.Hiding.{hidden}
use Rattle.transition_formula.specs.Transition.{Transition, IsTransition}
use Rattle.transition_formula.proofs.HiddenColumns.{hidden-fits}
use Rattle.transition_formula.proofs.PostsAsEntries.{raised-fits}
use Rattle.proc_summary.specs.Claims.{FitsIf, IsBetweenStates}
use Rattle.proc_summary.specs.Summary.{exit_formula, exit_places}
use Rattle.newton_rounds.specs.Pairs.{PairEnds, entry_told}
use Rattle.newton_rounds.specs.Shapes.{AreEnds}
use Rattle.newton_rounds.proofs.PairNumbers.{HasFew, few-more, hidden-few, hiding-few, states-few, states-of}
use Rattle.newton_rounds.proofs.ExitColumns.{places-below}

module _ (m : PairEnds) (ends : AreEnds m) (f : Option Transition) (fits : FitsIf m.ends.full.columns f) where
  abbrev whole : Transition
  whole = exit_formula m.ends.full.columns f

  states : IsBetweenStates m.ends.full.columns whole
  states = states-of m.ends.full.columns f fits

  pub told-fewer : m.ends.entry.columns ≤ whole.from
  told-fewer = let from = states.from in let entry = ends.entry in omega (arith, from, entry)

  pub told-few : All (λ (case : Case). case.aux + (whole.from - m.ends.entry.columns) + whole.to < 2 ^ 32) whole.cases
  told-few =
      hiding-few m.ends.entry.columns 64 whole (states-few m.ends.full.columns whole states)
      (let from = states.from in let to = states.to in let full = ends.full in omega (arith, from, to, full))

  pub told-in-pair : m.ends.entry.columns ≤ m.pair.columns
  told-in-pair = let pair = ends.pair in omega (arith, pair)

  -- it goes from the pair to the states
  pub told-to : (entry_told m f).to ≡ m.ends.full.columns
  told-to = states.to

  pub told-there : All (λ place. place < (entry_told m f).to) (exit_places m.ends)
  told-there = subst (λ n. All (λ place. place < n) (exit_places m.ends)) (sym told-to) (places-below m ends)

  pub told-fits : IsTransition m.pair.columns m.ends.full.columns (entry_told m f).cases
  told-fits =
      subst (λ to. IsTransition m.pair.columns to (entry_told m f).cases) states.to
      (raised-fits m.ends.entry.columns m.pair.columns whole.to (hidden m.ends.entry.columns whole).cases told-in-pair
      (hidden-fits m.ends.entry.columns whole.from whole.to whole.cases told-fewer states.fits))

  pub told-has : HasFew 190 (entry_told m f).cases
  told-has =
      few-more (64 + (whole.from - m.ends.entry.columns) + whole.to) 190 (entry_told m f).cases
      (let from = states.from in let to = states.to in let full = ends.full in omega (arith, from, to, full))
      (hidden-few m.ends.entry.columns whole.from whole.to 64 whole.cases states.fits (states-few m.ends.full.columns whole states))
