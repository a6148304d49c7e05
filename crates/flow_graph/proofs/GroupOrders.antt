-- The groups of a program by its calls, and how their order begins.
use Rattle.std.proofs.Common.{inl, inr, ◌⊎◌, ◌≡◌, ℕ, zero, suc, ◌+◌, ◌<◌, ◌≤◌, Bool, true, false, List, [], ◌∷◌, ◌++◌, length, get_or, refl, sym, ap, subst, arith, ◌∙◌}
use Rattle.std.specs.Prelude.{◌↔◌, nat_lt, slice_get}
use Rattle.std.proofs.lemmas.Bool.{cases_lt}
use Rattle.std.proofs.lemmas.Grind.{common_steps}
use Rattle.std.proofs.lemmas.List.{get_or_past, length-map}
use Rattle.std.specs.List.{Contains}
use Rattle.syntax_tree.specs.declared.program.Program.{Program}
use Rattle.syntax_tree.specs.declared.program.Proc.{Proc}
use Rattle.syntax_tree.specs.Code.{code_of}
use Rattle.flow_graph.specs.declared.turns.Plan.{Plan}
use Rattle.flow_graph.specs.FlowGraph.{body_of}
use Rattle.flow_graph.specs.Groups.{called, CallsOver, InOneGroup}
use Rattle.flow_graph.specs.Groups as groups
use Rattle.flow_graph.specs.Reaching.{Calls, Leads, Reaches}
use Rattle.flow_graph.specs.Search.{AreNumbers}
use Rattle.flow_graph.specs.Components.{AreComponents, group_at}
use Rattle.flow_graph.specs.Plans.{AreBelow, AreFilled, call_lists, called_below, lists_of}
use Rattle.flow_graph.specs.Turns.{IsPlan, Going, at_first, zeros, flag, group}
use Rattle.flow_graph.specs.Numbers.{no_bits, numbers_from}
use Rattle.flow_graph.proofs.Chains.{reaches_call, reaches_then}
use Rattle.flow_graph.proofs.Members.{contains_of, in_of}
use Rattle.flow_graph.proofs.Sieves.{differ, filter_in, filter_only, numbers_in, numbers_only}
use Rattle.flow_graph.proofs.Filling.{length_empty, none_in}

list_at : (n : ℕ) (procs : List Proc) (p : ℕ) → p < length procs → get_or (lists_of n procs) p [] ≡ called_below n (body_of (slice_get procs p))
list_at n [] p l = absurd (omega (arith, l))
list_at n (x ∷ procs) zero l = refl
list_at n (x ∷ procs) (suc p) l = list_at n procs p (omega (arith, l))

less_true : (q n : ℕ) → q < n → nat_lt q n ≡ true
less_true q n l = grind (arith, common_steps)

true_less : (q n : ℕ) → nat_lt q n ≡ true → q < n
true_less q n e = elim (cases_lt q n) [ inl l ↦ l | inr ge ↦ grind (arith, common_steps) ]

module _ (program : Program) where
  pub lists_length : length (call_lists program.procs) ≡ length program.procs
  lists_length = length-map program.procs (λ p. called_below (length program.procs) (code_of p.body))

  calls_from : (p q : ℕ) → groups.Calls program p q → Calls (call_lists program.procs) p q
  calls_from p q c = subst (λ (xs : List ℕ). Contains xs q) (sym (list_at (length program.procs) program.procs p c.0))
      (contains_of _ q (filter_in (λ k. nat_lt k (length program.procs)) (called (body_of (slice_get program.procs p))) q
      (in_of _ q c.2) (less_true q (length program.procs) c.1)))

  calls_to : (p q : ℕ) → p < length program.procs → Calls (call_lists program.procs) p q → groups.Calls program p q
  calls_to p q l c =
      let kept = filter_only (λ k. nat_lt k (length program.procs)) (called (body_of (slice_get program.procs p))) q
      (in_of _ q (subst (λ (xs : List ℕ). Contains xs q) (list_at (length program.procs) program.procs p l) c)) in
      (l, true_less q (length program.procs) kept.1, contains_of _ q kept.0)

  pub are_numbers : AreNumbers (call_lists program.procs) (length (call_lists program.procs))
  are_numbers p q c = elim (cases_lt p (length program.procs)) [
    | inl l ↦ let to = (calls_to p q l c).1 in omega (arith, to, lists_length)
    | inr ge ↦ let none : Contains [] q = subst (λ (xs : List ℕ). Contains xs q)
        (get_or_past (call_lists program.procs) p [] (omega (arith, ge, lists_length))) c in absurd (omega (arith, none.1))
  ]

  reach_to : (p q : ℕ) (over : List ℕ) → p < length program.procs → Leads (call_lists program.procs) p over q → (p ≡ q) ⊎ groups.Reaches program p q
  reach_to p q [] l e = inl e
  reach_to p q (next ∷ over) l h =
      let one = calls_to p next l h.0 in
      elim (reach_to next q over one.1 h.1) [
        | inl e ↦ inr ([], subst (groups.Calls program p) e one)
        | inr r ↦ inr (next ∷ r.0, (one, r.1))
      ]

  reach_from : (p q : ℕ) (path : List ℕ) → CallsOver program p path q → Reaches (call_lists program.procs) p q
  reach_from p q [] c = reaches_call (call_lists program.procs) p q (calls_from p q c)
  reach_from p q (next ∷ path) c =
      reaches_then (call_lists program.procs) p next q (reaches_call (call_lists program.procs) p next (calls_from p next c.0)) (reach_from next q path c.1)

  module _ (of : List ℕ) (count : ℕ) (is : AreComponents (call_lists program.procs) of count) where
    pub below : AreBelow of (length (call_lists program.procs)) count
    below p l = is.within p l

    in_one : (p q : ℕ) → p < length program.procs → q < length program.procs → (group_at of p ≡ group_at of q) ↔ InOneGroup program p q
    in_one p q l h = (
      (λ e. let both = (is.one p q (omega (arith, l, lists_length)) (omega (arith, h, lists_length))).0 e in
          elim (reach_to p q both.0.over l both.0.leads) [
            | inl same ↦ inl same
            | inr there ↦ elim (reach_to q p both.1.over h both.1.leads) [
              | inl same ↦ inl (sym same)
              | inr back ↦ inr (there, back)
            ]
          ]),
      (λ one. elim one [
        | inl same ↦ ap (group_at of) same
        | inr both ↦ (is.one p q (omega (arith, l, lists_length)) (omega (arith, h, lists_length))).1
            (reach_from p q both.0.0 both.0.1, reach_from q p both.1.0 both.1.1)
      ]),
    )

    pub is_plan : (plan : Plan) → plan.groups ≡ of → AreFilled (call_lists program.procs) plan.groups count (length (call_lists program.procs)) plan.members plan.rows
        → IsPlan program plan count
    is_plan plan same filled = record {
      within = λ p l. subst (λ (xs : List ℕ). group_at xs p < count) (sym same) (is.within p (omega (arith, l, lists_length)));
      one = λ p q l h. subst (λ (xs : List ℕ). (group_at xs p ≡ group_at xs q) ↔ InOneGroup program p q) (sym same) (in_one p q l h);
      falls = λ p q c. subst (λ (xs : List ℕ). group_at xs q ≤ group_at xs p) (sym same)
          (is.falls p q (let l = c.0 in omega (arith, l, lists_length)) (calls_from p q c));
      members = λ g q. (
        (λ c. let m = (filled.listed g q).0 c in (let l = m.0 in omega (arith, l, lists_length), m.1)),
        (λ both. (filled.listed g q).1 (let l = both.0 in omega (arith, l, lists_length), both.1)),
      );
      in_order = filled.in_order;
      called = λ p q c. filled.called p q (let l = c.0 in omega (arith, l, lists_length)) (calls_from p q c);
      callers = λ g q c. let o = filled.callers g q c in
          (o.0, o.2, calls_to o.0 q (let l = o.1 in omega (arith, l, lists_length)) o.3);
    }

-- ---- the beginning

no_bit : (n g : ℕ) → get_or (no_bits n) g false ≡ false
no_bit zero g = refl
no_bit (suc n) zero = refl
no_bit (suc n) (suc g) = no_bit n g

length_bits : (n : ℕ) → length (no_bits n) ≡ n
length_bits zero = refl
length_bits (suc n) = ap suc (length_bits n)

no_number : (n g : ℕ) → get_or (zeros n) g 0 ≡ 0
no_number zero g = refl
no_number (suc n) zero = refl
no_number (suc n) (suc g) = no_number n g

length_zeros : (n : ℕ) → length (zeros n) ≡ n
length_zeros zero = refl
length_zeros (suc n) = ap suc (length_zeros n)

zeros_then : (n : ℕ) → zeros n ++ 0 ∷ [] ≡ zeros (suc n)
zeros_then zero = refl
zeros_then (suc n) = ap (λ (r : List ℕ). 0 ∷ r) (zeros_then n)

pub zeros_more : (n : ℕ) → zeros n ++ 0 ∷ [] ≡ zeros (n + 1)
zeros_more n = let e : suc n ≡ n + 1 = omega arith in zeros_then n ∙ ap zeros e

pub going_first : (program : Program) (plan : Plan) (of : List ℕ) (count : ℕ) → AreComponents (call_lists program.procs) of count → plan.groups ≡ of
    → IsPlan program plan count → Going program plan (at_first count) (numbers_from 0 count)
going_first program plan of count is same plans = record {
  count = count;
  plans = plans;
  stands = record {
    all = length_bits count;
    ready = λ f e. absurd (cc e);
    waits = λ p within late. inr (inr (contains_of _ (group plan p) (numbers_in 0 count (group plan p) (omega arith) (let w = plans.within p within in omega (arith, w)))));
    closed = λ p q e c. differ (flag (no_bits count) (group plan p)) (no_bit count (group plan p)) e;
  };
  past = λ g i l. absurd (omega (arith, l, no_number count g));
  waiting = length_empty count;
  next = length_zeros count;
  some = λ g c. let p = is.some g (let w = (numbers_only 0 count g (in_of _ g c)).1 in omega (arith, w)) in
      (p.0, (let l = p.1 in omega (arith, l, lists_length program)), ap (λ (xs : List ℕ). group_at xs p.0) same ∙ p.2);
  waiters = λ d g c. none_in count d g c;
}

pub none_came : (come : List Bool) (count : ℕ) → come ≡ no_bits count → (g : ℕ) → flag come g ≡ false
none_came come count e g = ap (λ (xs : List Bool). get_or xs g false) e ∙ no_bit count g
