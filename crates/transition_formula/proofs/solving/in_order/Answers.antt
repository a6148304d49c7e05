use Rattle.std.proofs.Common.{◌≡◌, ℕ, zero, suc, ◌+◌, ◌-◌, ◌<◌, ◌≤◌, length, Option, Some, None, List, ◌++◌, refl, sym, ap, subst, ◌∙◌, arith}
use Rattle.std.specs.Prelude.{slice_get}
use Rattle.std.specs.List.{remove}
use Rattle.std.specs.Option.{option_map}
use Rattle.linear_terms.specs.declared.row.Row.{Row}
use Rattle.linear_terms.specs.declared.row.Case.{Case}
use Rattle.transition_formula.specs.declared.loss.Loss.{Loss}
use Rattle.transition_formula.specs.declared.solving.Solved.TheVariants.{Kept, False}
use Rattle.transition_formula.specs.Renumbering.{renumbered_case}
use Rattle.transition_formula.specs.Rows.{tidied_rows}
use Rattle.transition_formula.specs.Order.{first_equation, solution}
use Rattle.transition_formula.specs.Rounds.{Ordered, rounds, after_losses, in_order, with_rows, with_solved, losses_with_solved}
use Rattle.transition_formula.proofs.FewAuxiliaries.{HasRoom, first-room, room-few, solved-room, tidied-room}
use Rattle.transition_formula.proofs.Rounding.{Leaves, Comes, IsTidied, AllNumbered, found_at, mapped_none, mapped_some, tidied-numbered, solved-numbered, first_equation-row, round_false, round_last, round_next, rounds_done}
use Rattle.transition_formula.proofs.solving.in_order.Goals as goal

stepped : (end at : ℕ) (left : Case) (whole : Ordered) (start noted : List Loss) → at < end → Leaves noted (rounds (end - at) left) start whole → Leaves noted (rounds (suc (end - (at + 1))) left) start whole
stepped end at left whole start noted lt e = let step : end - at ≡ suc (end - (at + 1)) = omega arith in subst (λ k. Leaves noted (rounds k left) start whole) step e

ended : (end at : ℕ) (left : Case) (whole : Ordered) (start noted : List Loss) → end ≤ at → Leaves noted (rounds (end - at) left) start whole → Leaves noted (rounds zero left) start whole
ended end at left whole start noted le e = let none : end - at ≡ zero = omega arith in subst (λ k. Leaves noted (rounds k left) start whole) none e

pub loop-round-init : goal.loop-round-init
loop-round-init c =
    let case = c.args.case.now in
    let all : length case.rows - 0 ≡ length case.rows = omega arith in
    let same : c.in_ok-left.left ≡ case = c.in_ok-left.ensures.cases in
    record {
      same = λ i. after_losses c.args.losses.now (rounds (all i) (same i));
      numbered = subst AllNumbered (sym same) c.requires.numbered;
      room = subst (HasRoom case.aux (length case.post)) (sym same) (first-room case c.requires.numbered);
    }

came_false : (end at : ℕ) (left : Case) (whole : Ordered) (start noted noted2 : List Loss) (o : Option Case) → at < end → Leaves noted (rounds (end - at) left) start whole → o ≡ None → o ≡ option_map (with_rows left) (tidied_rows left.rows).rows → noted2 ≡ noted ++ (tidied_rows left.rows).losses → Comes whole start False noted2
came_false end at left whole start noted noted2 o lt e f g h = round_false (end - (at + 1)) left whole start noted noted2 (stepped end at left whole start noted lt e) (mapped_none left (tidied_rows left.rows).rows (sym f ∙ g)) h

pub returns-in_default-clause-exact : goal.returns-in_default-clause-exact
returns-in_default-clause-exact c =
    (came_false (length c.args.case.now.rows) c.loop-round._round c.loop-round.left (in_order c.args.case.now) c.args.losses.now c.loop-round.losses c.tidied_case.new.losses c.in_ok-tidied.field-0 (omega arith) c.loop-round.invariant.same c.in_default.is c.in_ok-tidied.ensures.exact c.in_ok-tidied.ensures.noted).is

pub returns-in_default-clause-noted : goal.returns-in_default-clause-noted
returns-in_default-clause-noted c =
    (came_false (length c.args.case.now.rows) c.loop-round._round c.loop-round.left (in_order c.args.case.now) c.args.losses.now c.loop-round.losses c.tidied_case.new.losses c.in_ok-tidied.field-0 (omega arith) c.loop-round.invariant.same c.in_default.is c.in_ok-tidied.ensures.exact c.in_ok-tidied.ensures.noted).losses

pub kept_case-requires : goal.kept_case-requires
kept_case-requires c = tidied-numbered c.loop-round.left c.in-Some.tidied (mapped_some c.loop-round.left c.in-Some.tidied (sym c.in-Some.is ∙ c.in_ok-tidied.ensures.exact)) c.loop-round.invariant.numbered

came_last : (end at : ℕ) (left made final : Case) (whole : Ordered) (start noted noted2 : List Loss) → at < end → Leaves noted (rounds (end - at) left) start whole → IsTidied left made → noted2 ≡ noted ++ (tidied_rows left.rows).losses
    → None ≡ first_equation made.rows → final ≡ renumbered_case made → Comes whole start (Kept final) noted2
came_last end at left made final whole start noted noted2 lt e t g h k = round_last (end - (at + 1)) left made.rows whole start noted noted2 final (stepped end at left whole start noted lt e) t.rows g h (k ∙ ap renumbered_case t.same)

pub returns-in_default-first_equation-clause-exact : goal.returns-in_default-first_equation-clause-exact
returns-in_default-first_equation-clause-exact c =
    c.in_ok-made.ensures
    ∙ (came_last (length c.args.case.now.rows) c.loop-round._round c.loop-round.left c.in-Some.tidied (renumbered_case c.in-Some.tidied) (in_order c.args.case.now) c.args.losses.now c.loop-round.losses c.tidied_case.new.losses (omega arith) c.loop-round.invariant.same
    (mapped_some c.loop-round.left c.in-Some.tidied (sym c.in-Some.is ∙ c.in_ok-tidied.ensures.exact)) c.in_ok-tidied.ensures.noted
    (sym c.in_default-first_equation.is ∙ c.first_equation.ensures ∙ ap first_equation c.as_slice.ensures) refl).is

pub returns-in_default-first_equation-clause-noted : goal.returns-in_default-first_equation-clause-noted
returns-in_default-first_equation-clause-noted c =
    (came_last (length c.args.case.now.rows) c.loop-round._round c.loop-round.left c.in-Some.tidied (renumbered_case c.in-Some.tidied) (in_order c.args.case.now) c.args.losses.now c.loop-round.losses c.tidied_case.new.losses (omega arith) c.loop-round.invariant.same
    (mapped_some c.loop-round.left c.in-Some.tidied (sym c.in-Some.is ∙ c.in_ok-tidied.ensures.exact)) c.in_ok-tidied.ensures.noted
    (sym c.in_default-first_equation.is ∙ c.first_equation.ensures ∙ ap first_equation c.as_slice.ensures) refl).losses

pub without_equation-requires-clause-there : goal.without_equation-requires-clause-there
without_equation-requires-clause-there c =
    (first_equation-row c.in-Some.tidied.rows c.in-Some-first_equation.place c.in-Some-first_equation.aux (sym c.in-Some-first_equation.is ∙ c.first_equation.ensures ∙ ap first_equation c.as_slice.ensures)).0

-- the case after a round has room
came_room : (case left made : Case) (place n : ℕ) (row : Row) → IsTidied left made → HasRoom case.aux (length case.post) left → found_at place n ≡ first_equation made.rows → Some row ≡ slice_get made.rows place
    → HasRoom case.aux (length case.post) (with_solved (solution row.poly n) n (with_rows made (remove made.rows place)))
came_room case left made place n row t room found is = solved-room case.aux (length case.post) made place n row found is (tidied-room case.aux (length case.post) left made t room)

pub without_equation-requires-clause-few : goal.without_equation-requires-clause-few
without_equation-requires-clause-few c row is =
    let case = c.args.case.now in
    let made = c.in-Some.tidied in
    let place = c.in-Some-first_equation.place in
    let n = c.in-Some-first_equation.aux in
    let found : found_at place n ≡ first_equation made.rows = sym c.in-Some-first_equation.is ∙ c.first_equation.ensures ∙ ap first_equation c.as_slice.ensures in
    room-few case.aux (length case.post) (with_solved (solution row.poly n) n (with_rows made (remove made.rows place)))
    (came_room case c.loop-round.left made place n row (mapped_some c.loop-round.left made (sym c.in-Some.is ∙ c.in_ok-tidied.ensures.exact)) c.loop-round.invariant.room found (sym is)) c.requires.few

came_next : (end at : ℕ) (left made next : Case) (place n : ℕ) (row : Row) (whole : Ordered) (start noted noted2 noted3 : List Loss) → at < end → Leaves noted (rounds (end - at) left) start whole → AllNumbered left → IsTidied left made → noted2 ≡ noted ++ (tidied_rows left.rows).losses
    → found_at place n ≡ first_equation made.rows → Some row ≡ slice_get made.rows place → next ≡ with_solved (solution row.poly n) n (with_rows made (remove made.rows place))
    → noted3 ≡ noted2 ++ losses_with_solved (solution row.poly n) n (with_rows made (remove made.rows place)) → Leaves noted3 (rounds (end - (at + 1)) next) start whole × AllNumbered next
came_next end at left made next place n row whole start noted noted2 noted3 lt e numbered t g h k l m = (
  round_next (end - (at + 1)) left made.rows place n row whole start noted noted2 noted3 next (stepped end at left whole start noted lt e) t.rows g h k (l ∙ ap (λ (c : Case). with_solved (solution row.poly n) n (with_rows c (remove made.rows place))) t.same)
      (m ∙ ap (λ (c : Case). noted2 ++ losses_with_solved (solution row.poly n) n (with_rows c (remove made.rows place))) t.same),
  solved-numbered made next place n row (tidied-numbered left made t numbered) k l,
)

pub loop-round-preserved : goal.loop-round-preserved
loop-round-preserved c =
    let made = c.in-Some.tidied in
    let place = c.in-Some-first_equation.place in
    let n = c.in-Some-first_equation.aux in
    let found : found_at place n ≡ first_equation made.rows = sym c.in-Some-first_equation.is ∙ c.first_equation.ensures ∙ ap first_equation c.as_slice.ensures in
    let there = first_equation-row made.rows place n found in
    let row = there.1.0 in
    let both =
    came_next (length c.args.case.now.rows) c.loop-round._round c.loop-round.left made c.in_ok-left-2.left place n row (in_order c.args.case.now) c.args.losses.now c.loop-round.losses c.tidied_case.new.losses c.without_equation.new.losses (omega arith) c.loop-round.invariant.same
    c.loop-round.invariant.numbered (mapped_some c.loop-round.left made (sym c.in-Some.is ∙ c.in_ok-tidied.ensures.exact)) c.in_ok-tidied.ensures.noted found there.1.1
    (c.in_ok-left-2.ensures.exact row (sym there.1.1)) (c.in_ok-left-2.ensures.noted row (sym there.1.1)) in
    record {
      same = both.0;
      numbered = both.1;
      room =
          subst (HasRoom c.args.case.now.aux (length c.args.case.now.post)) (sym (c.in_ok-left-2.ensures.exact row (sym there.1.1)))
          (came_room c.args.case.now c.loop-round.left made place n row (mapped_some c.loop-round.left made (sym c.in-Some.is ∙ c.in_ok-tidied.ensures.exact)) c.loop-round.invariant.room found there.1.1);
    }

pub kept_case-requires-2 : goal.kept_case-requires-2
kept_case-requires-2 c = c.loop-round.invariant.numbered

pub returns-clause-exact : goal.returns-clause-exact
returns-clause-exact c =
    c.in_ok-made-2.ensures
    ∙ (rounds_done c.loop-round.left (in_order c.args.case.now) c.args.losses.now c.loop-round.losses (renumbered_case c.loop-round.left) (ended (length c.args.case.now.rows) c.loop-round._round c.loop-round.left (in_order c.args.case.now) c.args.losses.now c.loop-round.losses (omega arith) c.loop-round.invariant.same)
    refl).is

pub returns-clause-noted : goal.returns-clause-noted
returns-clause-noted c =
    (rounds_done c.loop-round.left (in_order c.args.case.now) c.args.losses.now c.loop-round.losses (renumbered_case c.loop-round.left) (ended (length c.args.case.now.rows) c.loop-round._round c.loop-round.left (in_order c.args.case.now) c.args.losses.now c.loop-round.losses (omega arith) c.loop-round.invariant.same)
    refl).losses
