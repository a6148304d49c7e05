-- Progressions along a run.
use Rattle.std.proofs.Common.{◌≡◌, ℕ, ◌+◌, List, [], Bool, true, false, Ok, map, refl, sym, ap, ◌∙◌, arith, ℤ, ◌+ℤ◌, ◌-ℤ◌, ◌*ℤ◌, ◌≤ℤ◌}
use Rattle.std.specs.Prelude.{nat_lt, if◌then◌else◌}
use Rattle.std.specs.List.{AllByRecursion, flat_map}
use Rattle.std.proofs.lemmas.Int.{ints}
use Rattle.whole_numbers.proofs.Ring.{ring}
use Rattle.items.specs.Gives as gives
use Rattle.items.proofs.Gives.{on_ok}
use Rattle.items.proofs.Each.{each-any, each-map, each-flat_map}
use Rattle.linear_terms.specs.declared.col.Col.{Col}
use Rattle.linear_terms.specs.declared.col.Col.TheVariants.{At}
use Rattle.linear_terms.specs.declared.row.Row.{Row}
use Rattle.linear_terms.specs.Expressions.{◌⊠◌, whole}
use Rattle.linear_terms.specs.Row.{RowsHold}
use Rattle.linear_terms.specs.TermError.{times}
use Rattle.linear_terms.specs.Value.{Valuation}
use Rattle.linear_terms.proofs.Values.{times-value}
use Rattle.linear_terms.proofs.Worth.{IsWorth, IsTrueIfMade, IsWorth-Ok, IsWorth-same, IsWorth-whole, IsWorth-column, IsWorth-product, IsWorth-difference}
use Rattle.transition_formula.specs.Meaning.{numbers}
use Rattle.transition_formula.specs.Transition.{Transition}
use Rattle.posing.specs.Posing.{Always}
use Rattle.closed_form.specs.ClosedRow.{sum_row}
use Rattle.closed_form.specs.Progressions.{Climb, IsClimb}
use Rattle.closed_form.proofs.Progressions.{sum_row-climb}
use Rattle.polyhedra.specs.Vocabulary.{Vocabulary}
use Rattle.polyhedra.proofs.Turns.{number_in, reads-numbers, change-worth, IsRunOf}
use Rattle.polyhedra.proofs.RunBounds.{IsWorthAlong, IsBelow, bounded-true}
use Rattle.recurrence.specs.declared.terms.StratumTerm.{StratumTerm}
use Rattle.recurrence.specs.declared.terms.Strata.{Strata}
use Rattle.recurrence.specs.Progressions.{Progression, signs, open_variables, progressions_of, progressions, excess, progression_row, bounded_progression}
use Rattle.recurrence.specs.Star.{after, count, change_over_turns}
use Rattle.recurrence.proofs.StratumTerms.{IsFirstTerm, IsAfter}

apart : (u x y : ℤ) → u *ℤ (x -ℤ y) ≡ u *ℤ x -ℤ u *ℤ y
apart u x y = simp ring (omega (arith, ints))

module _ (ms : List (List Col)) (body : Transition) (steps : ℕ) (states : ℕ → List ℤ) (run : IsRunOf body steps states) where
  -- by how much the variable changes, up to a sign, over the term
  over_term : (p : Progression) → IsFirstTerm ms body steps states run p.term → ℕ → ℤ
  over_term p h i = p.up *ℤ (number_in (states (i + 1)) p.variable -ℤ number_in (states i) p.variable) -ℤ p.by *ℤ h.term.ladder 0 i

  excess-worth : (p : Progression) (h : IsFirstTerm ms body steps states run p.term) → IsWorthAlong body steps states run (excess p) (over_term p h)
  unfolding over_term
  excess-worth p h = record {
    each = λ case i aux within holds.
        IsWorth-difference (IsWorth-product (IsWorth-whole (numbers (states i) aux) p.up) (change-worth case (states i) (states (i + 1)) aux holds true p.variable))
        (IsWorth-product (IsWorth-whole (numbers (states i) aux) p.by)
        (IsWorth-same (h.term.along.start i (omega arith) (numbers (states i) aux) (reads-numbers (states i) aux)) (IsWorth-Ok (numbers (states i) aux) p.term.recurrence.start)));
  }

  climb_of : (p : Progression) → IsFirstTerm ms body steps states run p.term → ℤ → Climb
  climb_of p h most = record {
    turns = steps;
    numbers = λ i. p.up *ℤ number_in (states i) p.variable;
    slopes = λ i. p.by *ℤ h.term.ladder 0 i;
    growth = p.by *ℤ p.term.relation.c;
    constant = most;
  }

  is_climb : (p : Progression) (h : IsFirstTerm ms body steps states run p.term) (most : ℤ) → IsBelow body steps states run (over_term p h) most → IsClimb (climb_of p h most)
  unfolding over_term climb_of
  is_climb p h most bound = record {
    numbers_grow = λ i within. below p.up (number_in (states (i + 1)) p.variable) (number_in (states i) p.variable) (p.by *ℤ h.term.ladder 0 i) most (bound i within);
    slopes_grow = λ i within. sym (apart p.by (h.term.ladder 0 (i + 1)) (h.term.ladder 0 i)) ∙ ap (λ x. p.by *ℤ x) (h.term.along.grows 0 i within ∙ h.growth i);
  }
    where
      below : (u x y s most : ℤ) → (u *ℤ (x -ℤ y) -ℤ s) ≤ℤ most → (u *ℤ x -ℤ u *ℤ y) ≤ℤ (s +ℤ most)
      below u x y s most e = let split = apart u x y in omega (arith, ints)

  module _ (at : Valuation) (over : IsAfter ms body steps states run at) where
    row-true : (p : Progression) (h : IsFirstTerm ms body steps states run p.term) (most : ℤ) → IsBelow body steps states run (over_term p h) most → IsTrueIfMade at (progression_row (change_over_turns body) (count body) p most)
    unfolding climb_of
    row-true p h most bound = record {
      holds = λ r e.
          on_ok (whole p.up ⊠ change_over_turns body p.variable) (λ d. gives.◌>>=◌ (times p.by p.term.relation.c) (λ g. gives.◌>>=◌ (whole p.by ⊠ Ok p.term.recurrence.start) (λ s. sum_row d s g most (count body)))) r e (λ d e1 f.
          on_ok (times p.by p.term.relation.c) (λ g. gives.◌>>=◌ (whole p.by ⊠ Ok p.term.recurrence.start) (λ s. sum_row d s g most (count body))) r f (λ g e2 k.
          on_ok (whole p.by ⊠ Ok p.term.recurrence.start) (λ s. sum_row d s g most (count body)) r k (λ s e3 l.
          sum_row-climb at (climb_of p h most) d s g most (count body) r l (is_climb p h most bound)
          (record {
            change_made = change_is.as_made d e1 ∙ apart p.up (number_in (states steps) p.variable) (number_in (states 0) p.variable);
            first_slope = start_is.as_made s e3;
            growth_given = times-value p.by p.term.relation.c g e2;
            constant_given = refl;
            turns_made = over.turns;
          }))));
    }
      where
        change_is : IsWorth at (whole p.up ⊠ change_over_turns body p.variable) (p.up *ℤ (number_in (states steps) p.variable -ℤ number_in (states 0) p.variable))
        change_is = IsWorth-product (IsWorth-whole at p.up)
            (IsWorth-difference (IsWorth-same (over.ends p.variable) (IsWorth-column at (after body p.variable))) (IsWorth-same (over.starts.each p.variable) (IsWorth-column at (At p.variable))))

        start_is : IsWorth at (whole p.by ⊠ Ok p.term.recurrence.start) (p.by *ℤ h.term.ladder 0 0)
        start_is = IsWorth-product (IsWorth-whole at p.by) (IsWorth-same (h.term.along.start 0 (omega arith) at over.starts) (IsWorth-Ok at p.term.recurrence.start))

    pub progression-true : (rows : List Row) (p : Progression) → IsFirstTerm ms body steps states run p.term → RowsHold at rows
        → Always (RowsHold at) (bounded_progression body.cases (change_over_turns body) (count body) rows p)
    progression-true rows p h hold = bounded-true body steps states run at (excess p) (progression_row (change_over_turns body) (count body) p) (over_term p h) rows (excess-worth p h) (row-true p h) hold

pub each-progression : (body : Transition) (voc : Vocabulary) (s : Strata) (P : StratumTerm → Type 0) (Q : ℕ → Type 0) → AllByRecursion P s.first → AllByRecursion Q (open_variables body voc s)
    → AllByRecursion (λ (p : Progression). Q p.variable × P p.term) (progressions body voc s)
each-progression body voc s P Q h variables = go (nat_lt 1 voc.rule)
  where
    of_each : (v : ℕ) → Q v → AllByRecursion (λ (p : Progression). Q p.variable × P p.term) (progressions_of s.first v)
    of_each v q =
        each-flat_map (λ up. Unit {0}) (λ (p : Progression). Q p.variable × P p.term) (λ up. flat_map (λ (t : StratumTerm). map (λ by. record { variable = v; up = up; term = t; by = by }) signs) s.first)
        (λ up any. each-flat_map P (λ (p : Progression). Q p.variable × P p.term) (λ (t : StratumTerm). map (λ by. record { variable = v; up = up; term = t; by = by }) signs)
        (λ t k. each-map (λ by. Unit {0}) (λ (p : Progression). Q p.variable × P p.term) (λ by. record { variable = v; up = up; term = t; by = by }) (λ by any. (q, k)) signs (each-any (λ by. Unit {0}) (λ by. tt) signs)) s.first h)
        signs (each-any (λ up. Unit {0}) (λ up. tt) signs)

    go : (b : Bool) → AllByRecursion (λ (p : Progression). Q p.variable × P p.term) (if b then flat_map (progressions_of s.first) (open_variables body voc s) else [])
    go true = each-flat_map Q (λ (p : Progression). Q p.variable × P p.term) (progressions_of s.first) of_each (open_variables body voc s) variables
    go false = tt
