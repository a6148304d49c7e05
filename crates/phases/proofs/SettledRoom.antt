-- How many auxiliaries are left of cases that are settled: no more than there were and one by post.
use Rattle.std.proofs.Common.{◌≡◌, ℕ, zero, suc, ◌+◌, ◌≤◌, Bool, true, false, List, [], ◌∷◌, ◌++◌, length, Option, Some, None, refl, sym, ◌∙◌, arith}
use Rattle.std.specs.Prelude.{slice_get, option_to_list}
use Rattle.std.specs.List.{AllByRecursion, remove}
use Rattle.items.proofs.Each.{each-append}
use Rattle.linear_terms.specs.declared.row.Row.{Row}
use Rattle.linear_terms.specs.declared.row.Case.{Case}
use Rattle.transition_formula.specs.Order.{first_equation, solution}
use Rattle.transition_formula.specs.Renumbering.{occurs_in, renumbered_case}
use Rattle.transition_formula.specs.Rounds.{in_order, round, rounds, round_at, solved_first, with_rows, with_solved}
use Rattle.transition_formula.specs.Rows.{tidied_rows}
use Rattle.transition_formula.proofs.FewAuxiliaries.{HasRoom, first-room, solved-room, tidied-room}
use Rattle.transition_formula.proofs.Numbers.{count_below-most}
use Rattle.transition_formula.proofs.Rounding.{AllNumbered, first_equation-row}
use Rattle.posing.specs.Posing.{Done, Always}
use Rattle.posing.proofs.Paths.{always_any, always_bind, always_each, always_weaker}
use Rattle.polyhedra.specs.Infeasibility.{infeasible}
use Rattle.polyhedra.specs.Settle.{feasible, feasible_by, feasible_left, settled_case, settled_cases, unless, with_settled}

-- so many auxiliaries at most, if anything is left
abbrev pub IsWithinRoom : ℕ → Option Case → Type 0
IsWithinRoom most None = Unit {0}
IsWithinRoom most (Some case) = case.aux ≤ most

module _ (start room : ℕ) where
  renumbered-room : (case : Case) → HasRoom start room case → (renumbered_case case).aux ≤ start + room
  renumbered-room case h = let fewer = count_below-most (occurs_in case) case.aux in let enough = h.enough in omega (arith, fewer, enough)

  rounds-room : (n : ℕ) (case : Case) → HasRoom start room case → IsWithinRoom (start + room) (rounds n case).left
  rounds-room zero case h = renumbered-room case h
  rounds-room (suc n) case h = go (tidied_rows case.rows).rows refl (λ next k. rounds-room n next k)
    where
      at : (left : Case) (place m : ℕ) (o : Option Row) → o ≡ slice_get left.rows place → Some (place, m) ≡ first_equation left.rows → HasRoom start room left
          → ((next : Case) → HasRoom start room next → IsWithinRoom (start + room) (rounds n next).left) → IsWithinRoom (start + room) (round_at (rounds n) (with_rows left (remove left.rows place)) m o).left
      at left place m None e f k ih = let there = first_equation-row left.rows place m f in let is = there.1.1 ∙ sym e in cc
      at left place m (Some row) e f k ih = ih (with_solved (solution row.poly m) m (with_rows left (remove left.rows place))) (solved-room start room left place m row f e k)

      first : (left : Case) (o : Option (ℕ × ℕ)) → o ≡ first_equation left.rows → HasRoom start room left → ((next : Case) → HasRoom start room next → IsWithinRoom (start + room) (rounds n next).left)
          → IsWithinRoom (start + room) (solved_first (rounds n) left o).left
      first left None e k ih = renumbered-room left k
      first left (Some found) e k ih = at left found.0 found.1 (slice_get left.rows found.0) refl e k ih

      go : (o : Option (List Row)) → (tidied_rows case.rows).rows ≡ o → ((next : Case) → HasRoom start room next → IsWithinRoom (start + room) (rounds n next).left) → IsWithinRoom (start + room) (round (rounds n) case o).left
      go None e ih = tt
      go (Some rows) e ih = first (with_rows case rows) (first_equation rows) refl (tidied-room start room case (with_rows case rows) (record { rows = sym e; same = refl }) h) ih

pub in_order-room : (case : Case) → AllNumbered case → IsWithinRoom (case.aux + length case.post) (in_order case).left
in_order-room case all = rounds-room case.aux (length case.post) (length case.rows) case (first-room case all)

-- ---- settled

-- a case whose auxiliaries are numbered, with so many posts; with one more auxiliary by post and so
-- many others it has at most so many
pub record IsRoomyCase (others most posts : ℕ) (case : Case) : Type 0 where
  pub numbered : AllNumbered case
  pub few : case.aux + (posts + others) ≤ most
  pub long : length case.post ≡ posts

module _ (others most posts : ℕ) where
  abbrev IsSpare : Case → Type 0
  IsSpare case = case.aux + others ≤ most

  abbrev IsSpareIf : Option Case → Type 0
  IsSpareIf None = Unit {0}
  IsSpareIf (Some case) = IsSpare case

  unless-spare : (case : Case) (drops : Bool) → IsSpare case → IsSpareIf (unless drops case)
  unless-spare case true h = tt
  unless-spare case false h = h

  feasible-spare : (case : Case) → IsSpare case → Always IsSpareIf (feasible case)
  unfolding feasible
  feasible-spare case h = go case.rows
    where
      go : (rows : List Row) → Always IsSpareIf (feasible_by case rows)
      go [] = h
      go (row ∷ rows) =
          always_bind (λ drops. Unit {0}) IsSpareIf (infeasible case.rows) (λ drops. Done (unless drops case)) (always_any (λ drops. Unit {0}) (infeasible case.rows) (λ drops. tt))
          (λ drops any. unless-spare case drops h)

  settled_case-spare : (case : Case) → IsRoomyCase others most posts case → Always IsSpareIf (settled_case case)
  unfolding settled_case
  settled_case-spare case is = go (in_order case).left (in_order-room case is.numbered)
    where
      go : (o : Option Case) → IsWithinRoom (case.aux + length case.post) o → Always IsSpareIf (feasible_left o)
      go None h = tt
      go (Some left) h = feasible-spare left (let few = is.few in let long = is.long in omega (arith, h, few, long))

  abbrev AreLeft : List Case → List Case → Type 0
  AreLeft rest made = AllByRecursion (IsRoomyCase others most posts) rest × AllByRecursion IsSpare made

  listed-spare : (o : Option Case) → IsSpareIf o → AllByRecursion IsSpare (option_to_list o)
  listed-spare None h = tt
  listed-spare (Some case) h = (h, tt)

  with_settled-spare : (case : Case) (rest made : List Case) → AreLeft (case ∷ rest) made → Always (AreLeft rest) (with_settled made case)
  unfolding with_settled
  with_settled-spare case rest made h =
      always_bind IsSpareIf (AreLeft rest) (settled_case case) (λ o. Done (made ++ option_to_list o)) (settled_case-spare case h.0.0)
      (λ o k. (h.0.1, each-append IsSpare made (option_to_list o) h.1 (listed-spare o k)))

  pub settled_cases-spare : (cases : List Case) → AllByRecursion (IsRoomyCase others most posts) cases → Always (AllByRecursion (λ (case : Case). case.aux + others ≤ most)) (settled_cases cases)
  settled_cases-spare cases h =
      always_weaker (AreLeft []) (AllByRecursion (λ (case : Case). case.aux + others ≤ most)) (settled_cases cases) (λ made k. k.1)
      (always_each AreLeft with_settled [] cases with_settled-spare (h, tt))
