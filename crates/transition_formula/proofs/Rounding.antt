-- The rounds of putting a case in order: what is left to do, behind the losses that are noted.
use Rattle.std.proofs.Common.{◌≡◌, ℕ, zero, suc, ◌+◌, ◌<◌, length, Bool, List, [], ◌∷◌, ◌++◌, Option, Some, None, refl, sym, ap, subst, ◌∙◌, append_assoc, append-nil, arith}
use Rattle.std.specs.Prelude.{IsTrue, slice_get, unwrap_or}
use Rattle.std.specs.List.{list_all, remove}
use Rattle.std.specs.Option.{option_map}
use Rattle.linear_terms.specs.declared.row.Row.{Row}
use Rattle.linear_terms.specs.declared.row.Case.{Case}
use Rattle.linear_terms.specs.Auxiliaries.{is_numbered}
use Rattle.transition_formula.specs.declared.loss.Loss.{Loss}
use Rattle.transition_formula.specs.declared.solving.Solved.{Solved}
use Rattle.transition_formula.specs.declared.solving.Solved.TheVariants.{Kept, False}
use Rattle.transition_formula.specs.Transition.{every_column, every_column_of}
use Rattle.transition_formula.specs.Renumbering.{renumbered_case}
use Rattle.transition_formula.specs.Rows.{tidied_rows}
use Rattle.transition_formula.specs.Order.{solvable_auxiliary, place_from, first_equation, solution}
use Rattle.transition_formula.specs.Rounds.{Ordered, after_losses, with_rows, end_of_order, with_solved, losses_with_solved, round_at, solved_first, round, rounds, solved_answer}
use Rattle.transition_formula.proofs.ColumnTests.{both, both_true}
use Rattle.transition_formula.proofs.CarriedColumns.{tidied-passes, with_solved-numbered}

abbrev origin : ℕ × ℕ
origin = (0, 0)

abbrev pub found_at : ℕ → ℕ → Option (ℕ × ℕ)
found_at place n = Some (place, n)

-- what the code has answered and noted is what was to come
pub record Comes (whole : Ordered) (start : List Loss) (answer : Solved) (noted : List Loss) : Type 0 where
  pub is : answer ≡ solved_answer whole.left
  pub losses : noted ≡ start ++ whole.losses

-- what is left to do, behind the losses noted so far, is the whole
abbrev pub Leaves : List Loss → Ordered → List Loss → Ordered → Type 0
Leaves noted rest start whole = after_losses noted rest ≡ after_losses start whole

comes : (whole rest : Ordered) (start noted noted2 : List Loss) (answer : Solved) → Leaves noted rest start whole → answer ≡ solved_answer rest.left → noted2 ≡ noted ++ rest.losses → Comes whole start answer noted2
comes whole rest start noted noted2 answer e f g = record { is = f ∙ ap (λ o. solved_answer o.left) e; losses = g ∙ ap (λ o. o.losses) e }

pub round_false : (more : ℕ) (case : Case) (whole : Ordered) (start noted noted2 : List Loss) → Leaves noted (rounds (suc more) case) start whole → None ≡ (tidied_rows case.rows).rows → noted2 ≡ noted ++ (tidied_rows case.rows).losses → Comes whole start False noted2
round_false more case whole start noted noted2 e f g =
    comes whole (rounds (suc more) case) start noted noted2 False e (ap (λ o. solved_answer (round (rounds more) case o).left) f)
    (g ∙ ap (λ l. noted ++ l) (sym (append-nil (tidied_rows case.rows).losses)) ∙ ap (λ o. noted ++ ((tidied_rows case.rows).losses ++ (round (rounds more) case o).losses)) f)

pub round_last : (more : ℕ) (case : Case) (rows : List Row) (whole : Ordered) (start noted noted2 : List Loss) (made : Case) → Leaves noted (rounds (suc more) case) start whole → Some rows ≡ (tidied_rows case.rows).rows → noted2 ≡ noted ++ (tidied_rows case.rows).losses
    → None ≡ first_equation rows → made ≡ renumbered_case (with_rows case rows) → Comes whole start (Kept made) noted2
round_last more case rows whole start noted noted2 made e f g h k =
    comes whole (rounds (suc more) case) start noted noted2 (Kept made) e
    (ap (λ c. Kept c) k ∙ ap (λ o. solved_answer (solved_first (rounds more) (with_rows case rows) o).left) h ∙ ap (λ o. solved_answer (round (rounds more) case o).left) f)
    (g
    ∙ ap (λ l. noted ++ l) (sym (append-nil (tidied_rows case.rows).losses))
    ∙ ap (λ o. noted ++ ((tidied_rows case.rows).losses ++ (solved_first (rounds more) (with_rows case rows) o).losses)) h
    ∙ ap (λ o. noted ++ ((tidied_rows case.rows).losses ++ (round (rounds more) case o).losses)) f)

pub round_next : (more : ℕ) (case : Case) (rows : List Row) (place n : ℕ) (row : Row) (whole : Ordered) (start noted noted2 noted3 : List Loss) (next : Case) → Leaves noted (rounds (suc more) case) start whole → Some rows ≡ (tidied_rows case.rows).rows
    → noted2 ≡ noted ++ (tidied_rows case.rows).losses → found_at place n ≡ first_equation rows → Some row ≡ slice_get rows place → next ≡ with_solved (solution row.poly n) n (with_rows case (remove rows place))
    → noted3 ≡ noted2 ++ losses_with_solved (solution row.poly n) n (with_rows case (remove rows place)) → Leaves noted3 (rounds more next) start whole
round_next more case rows place n row whole start noted noted2 noted3 next e f g h k l m =
    (λ i. after_losses (m i) (rounds more (l i)))
    ∙ (λ i. after_losses (g i ++ lost) (rounds more step))
    ∙ (λ i. record { left = (rounds more step).left; losses = grouped i })
    ∙ ap (λ o. after_losses noted (after_losses (tidied_rows case.rows).losses (round_at (rounds more) (with_rows case (remove rows place)) n o))) k
    ∙ ap (λ o. after_losses noted (after_losses (tidied_rows case.rows).losses (solved_first (rounds more) (with_rows case rows) o))) h
    ∙ ap (λ o. after_losses noted (after_losses (tidied_rows case.rows).losses (round (rounds more) case o))) f
    ∙ e
  where
    step : Case
    step = with_solved (solution row.poly n) n (with_rows case (remove rows place))

    lost : List Loss
    lost = losses_with_solved (solution row.poly n) n (with_rows case (remove rows place))

    grouped : noted ++ (tidied_rows case.rows).losses ++ lost ++ (rounds more step).losses ≡ noted ++ ((tidied_rows case.rows).losses ++ (lost ++ (rounds more step).losses))
    grouped = append_assoc (noted ++ (tidied_rows case.rows).losses) lost (rounds more step).losses ∙ append_assoc noted (tidied_rows case.rows).losses (lost ++ (rounds more step).losses)

pub rounds_done : (case : Case) (whole : Ordered) (start noted : List Loss) (made : Case) → Leaves noted (rounds zero case) start whole → made ≡ renumbered_case case → Comes whole start (Kept made) noted
rounds_done case whole start noted made e k = comes whole (end_of_order case) start noted noted (Kept made) e (ap (λ c. Kept c) k) (sym (append-nil noted))

-- ---- the place that is found

pub first_equation-row : (rows : List Row) (place n : ℕ) → found_at place n ≡ first_equation rows → (place < length rows) × ((row : Row) × (Some row ≡ slice_get rows place))
first_equation-row [] place n e = cc
first_equation-row (r ∷ rows) place n e = go (solvable_auxiliary r.kind r.poly) (first_equation rows) e (λ p f. first_equation-row rows p n f)
  where
    later : (o : Option (ℕ × ℕ)) → found_at place n ≡ option_map (λ found. (found.0 + 1, found.1)) o → ((p : ℕ) → found_at p n ≡ o → (p < length rows) × ((row : Row) × (Some row ≡ slice_get rows p))) → (place < length (r ∷ rows)) × ((row : Row) × (Some row ≡ slice_get (r ∷ rows) place))
    later None f ih = cc
    later (Some found) f ih =
        let here : found.0 + 1 ≡ place = sym (ap (λ o. (unwrap_or o origin).0) f) in
        let same : found.1 ≡ n = sym (ap (λ o. (unwrap_or o origin).1) f) in
        let next : suc found.0 ≡ place = omega arith in
        let below = ih found.0 (λ i. found_at found.0 (sym same i)) in
        subst (λ p. (p < length (r ∷ rows)) × ((row : Row) × (Some row ≡ slice_get (r ∷ rows) p))) next (let lt = below.0 in omega arith, below.1)

    go : (o : Option ℕ) (p : Option (ℕ × ℕ)) → found_at place n ≡ place_from o p → ((q : ℕ) → found_at q n ≡ p → (q < length rows) × ((row : Row) × (Some row ≡ slice_get rows q))) → (place < length (r ∷ rows)) × ((row : Row) × (Some row ≡ slice_get (r ∷ rows) place))
    go (Some m) p f ih = let here : 0 ≡ place = sym (ap (λ o. (unwrap_or o origin).0) f) in subst (λ q. (q < length (r ∷ rows)) × ((row : Row) × (Some row ≡ slice_get (r ∷ rows) q))) here (omega arith, (r, refl))
    go None p f ih = later p f ih

-- ---- what the code has after a round's rows are tidied

pub mapped_none : (case : Case) (o : Option (List Row)) → None ≡ option_map (with_rows case) o → None ≡ o
mapped_none case None e = refl
mapped_none case (Some rows) e = cc

pub record IsTidied (case made : Case) : Type 0 where
  pub rows : Some made.rows ≡ (tidied_rows case.rows).rows
  pub same : made ≡ with_rows case made.rows

pub mapped_some : (case made : Case) → Some made ≡ option_map (with_rows case) (tidied_rows case.rows).rows → IsTidied case made
mapped_some case made e = go (tidied_rows case.rows).rows refl e
  where
    go : (o : Option (List Row)) → (tidied_rows case.rows).rows ≡ o → Some made ≡ option_map (with_rows case) o → IsTidied case made
    go None f g = cc
    go (Some rows) f g =
        let same : made ≡ with_rows case rows = cc in
        let of_rows : made.rows ≡ rows = ap (λ (c : Case). c.rows) same in
        record { rows = ap (λ l. Some l) of_rows ∙ sym f; same = same ∙ ap (with_rows case) (sym of_rows) }

abbrev pub AllNumbered : Case → Type 0
AllNumbered case = IsTrue (every_column_of (is_numbered case.aux) case)

pub tidied-numbered : (case made : Case) → IsTidied case made → AllNumbered case → AllNumbered made
tidied-numbered case made t h =
    let parts = both (list_all (λ row. every_column (is_numbered case.aux) row.poly) case.rows) (list_all (every_column (is_numbered case.aux)) case.post) h in
    let rows = tidied-passes (is_numbered case.aux) case.rows made.rows (sym t.rows) parts.0 in
    subst AllNumbered (sym t.same) (both_true (list_all (λ row. every_column (is_numbered case.aux) row.poly) made.rows) (list_all (every_column (is_numbered case.aux)) case.post) rows parts.1)

pub test_removed : (test : Row → Bool) (rows : List Row) (i : ℕ) → IsTrue (list_all test rows) → IsTrue (list_all test (remove rows i))
test_removed test [] zero h = refl
test_removed test [] (suc i) h = refl
test_removed test (r ∷ rows) zero h = (both (test r) (list_all test rows) h).1
test_removed test (r ∷ rows) (suc i) h =
    let parts = both (test r) (list_all test rows) h in both_true (test r) (list_all test (remove rows i)) parts.0 (test_removed test rows i parts.1)

pub test_got : (test : Row → Bool) (rows : List Row) (i : ℕ) (row : Row) → IsTrue (list_all test rows) → Some row ≡ slice_get rows i → IsTrue (test row)
test_got test [] i row h e = cc
test_got test (r ∷ rows) zero row h e = let same : row ≡ r = cc in subst (λ x. IsTrue (test x)) (sym same) (both (test r) (list_all test rows) h).0
test_got test (r ∷ rows) (suc i) row h e = test_got test rows i row (both (test r) (list_all test rows) h).1 e

pub solved-numbered : (case next : Case) (place n : ℕ) (row : Row) → AllNumbered case → Some row ≡ slice_get case.rows place → next ≡ with_solved (solution row.poly n) n (with_rows case (remove case.rows place)) → AllNumbered next
solved-numbered case next place n row h e f =
    let parts = both (list_all (λ r. every_column (is_numbered case.aux) r.poly) case.rows) (list_all (every_column (is_numbered case.aux)) case.post) h in
    let one = test_got (λ r. every_column (is_numbered case.aux) r.poly) case.rows place row parts.0 e in
    let others = test_removed (λ r. every_column (is_numbered case.aux) r.poly) case.rows place parts.0 in
    let left = both_true (list_all (λ r. every_column (is_numbered case.aux) r.poly) (remove case.rows place)) (list_all (every_column (is_numbered case.aux)) case.post) others parts.1 in
    subst AllNumbered (sym f) (with_solved-numbered row.poly n (with_rows case (remove case.rows place)) one left)
