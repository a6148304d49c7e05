-- A step that leaves 128 bits shows that the tableau at hand has a great number, and so its frame
-- is not small.
use Rattle.std.proofs.Common.{◌≡◌, ◌<◌, ℕ, Bool, true, false, ◌&&◌, List, [], length, get_or, sym, subst, arith, Result, Ok, Err, ℤ, pos, ◌*ℤ◌, ◌<ℤ◌}
use Rattle.std.specs.Prelude.{IfErr, IfOk, int_le}
use Rattle.std.proofs.lemmas.Int.{ints}
use Rattle.farkas_check.specs.Relations.{entry}
use Rattle.simplex.specs.History.{CameTo, MovedTo, IsUnmet}
use Rattle.simplex.specs.declared.raise.Turn.{Turn}
use Rattle.simplex.specs.declared.raise.Turn.TheVariants as turn
use Rattle.whole_numbers.specs.declared.wide.Wide as Step
use Rattle.simplex.specs.Calm.{HasSquares, HasSmallLines, IsMemory}
use Rattle.items.specs.Gives.{Gives}
use Rattle.simplex.specs.Exchange.{cause, exchange}
use Rattle.simplex.specs.Raise.{Framed, enters_at, Improves, IsOpen}
use Rattle.simplex.specs.Refusal.{LeavesBits, IsRefusal, IsOverrun, IsRefusalIn}
use Rattle.simplex.specs.SearchSteps.{StopsBy, IsComparisonStep, IsTableauIn, IsFrameStep, comparison_step}
use Rattle.simplex.proofs.Stops.{exchange_stops}
use Rattle.simplex.specs.declared.stop.SearchStop.{SearchStop}
use Rattle.simplex.specs.declared.stop.SearchStop.TheVariants.{Wide, Memory}
use Rattle.simplex.specs.declared.tableau.Tableau.{Tableau}

overrun : (over : Framed) (count : ℕ) (t : Tableau) (step : Step.Wide) → IsTableauIn over count t → LeavesBits step → ((n : ℕ) → HasSquares n → HasSmallLines n t → ⊥) → IsFrameStep over count step → IsOverrun over count step
overrun over count t step of leaves never is =
    record { leaves = leaves; great = λ n room small. never n room (small t of.many of.tableau of.primitive); is = is }

module _ (over : Framed) (count : ℕ) (t : Tableau) (of : IsTableauIn over count t) where
  pub refused : {X : Type 0} (r : Result X SearchStop) → IfErr r IsRefusal → ((n : ℕ) → HasSquares n → HasSmallLines n t → IfErr r IsMemory) → IfErr r (StopsBy (IsFrameStep over count)) → IfErr r (IsRefusalIn over count)
  refused (Ok x) leaves never is = tt
  refused (Err (Wide step)) leaves never is = overrun over count t step of leaves never is
  refused (Err Memory) leaves never is = tt

  refused_step : {X : Type 0} (r : Result X Step.Wide) → IfErr r LeavesBits → ((n : ℕ) → HasSquares n → HasSmallLines n t → IfErr r (λ _. ⊥)) → IfErr r (IsFrameStep over count) → IfErr r (IsOverrun over count)
  refused_step (Ok x) leaves never is = tt
  refused_step (Err step) leaves never is = overrun over count t step of leaves never is

  pub refused_exchange : (line column : ℕ) (r : Result Tableau SearchStop) → Gives cause (λ u. u) r (exchange t line column) → IfErr r IsRefusal → ((n : ℕ) → HasSquares n → HasSmallLines n t → IfErr r IsMemory) → IfErr r (IsRefusalIn over count)
  refused_exchange line column r g leaves never = refused r leaves never (exchange_stops over count t of line column r g)

  pub refused_comparison : {X : Type 0} (constants column : ℕ) (keys : List ℕ) (r : Result X Step.Wide) → IfErr r LeavesBits → ((n : ℕ) → HasSquares n → HasSmallLines n t → IfErr r (λ _. ⊥)) → IfErr r (IsComparisonStep t constants column keys) → IfErr r (IsOverrun over count)
  refused_comparison constants column keys r leaves never is = refused_step r leaves never (compared r is)
    where
      compared : {X : Type 0} (r : Result X Step.Wide) → IfErr r (IsComparisonStep t constants column keys) → IfErr r (IsFrameStep over count)
      compared (Ok x) h = tt
      compared (Err step) h = comparison_step t constants column keys of h

-- ---- a turn of a raise

unmet_of : (until : Bool) (z : ℤ) → until && int_le z (pos 0) ≡ false → until ≡ true → pos 0 <ℤ z
unmet_of true z e f = omega (arith, ints, e)
unmet_of false z e f = cc

came_moved_at : (enters : List Bool) (constants : ℕ) (keys : List ℕ) (sign : ℤ) (until : Bool) (goal column : ℕ) (before after : Tableau) (came : Turn) → IsUnmet until constants goal before → Improves enters sign goal column before → MovedTo enters constants keys column before after came → CameTo enters constants keys sign until goal before after came
came_moved_at enters constants keys sign until goal column before after turn.Met u i m = absurd m
came_moved_at enters constants keys sign until goal column before after turn.Best u i m = absurd m
came_moved_at enters constants keys sign until goal column before after (turn.Open entered) u i m =
    (m.0, u, subst (λ (j : ℕ). IsOpen enters sign goal j before) (sym m.1) (i, m.2))
came_moved_at enters constants keys sign until goal column before after turn.Moved u i m = (column, (m.0, (i, m.1.0, m.1.1)))

pub came_moved : (enters : List Bool) (constants : ℕ) (keys : List ℕ) (sign : ℤ) (until : Bool) (goal column : ℕ) (before : Tableau) (line other : List ℤ) (r : Result (Tableau × Turn) SearchStop)
    → line ≡ get_or before.lines goal [] → other ≡ get_or before.lines goal [] → until && int_le (entry line constants) (pos 0) ≡ false
    → (column < length other) × (enters_at enters column ≡ true) × ((sign *ℤ entry other column) <ℤ pos 0) → length enters ≡ length other
    → IfOk r (λ x. MovedTo enters constants keys column before x.0 x.1) → IfOk r (λ x. CameTo enters constants keys sign until goal before x.0 x.1)
came_moved enters constants keys sign until goal column before line other (Err s) e f u i w m = tt
came_moved enters constants keys sign until goal column before line other (Ok x) e f u i w m =
    came_moved_at enters constants keys sign until goal column before x.0 x.1
    (λ g. subst (λ (zs : List ℤ). pos 0 <ℤ entry zs constants) e (unmet_of until (entry line constants) u g))
    (record { within = subst (λ (n : ℕ). column < n) (sym w) i.0; may = i.1; better = subst (λ (zs : List ℤ). (sign *ℤ entry zs column) <ℤ pos 0) f i.2 }) m
