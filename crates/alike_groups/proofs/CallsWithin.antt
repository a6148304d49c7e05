-- A group is recursive exactly where its members call members, and alike groups are recursive
-- together.
use Rattle.std.proofs.Common.{◌≡◌, ◌<◌, ◌↔◌, inl, inr, ℕ, List, [], ◌∷◌, ◌++◌, length, Option, None, Some, refl, sym, ap, subst, ◌∙◌}
use Rattle.std.specs.Prelude.{IsTrue, slice_get}
use Rattle.std.specs.List.{AllZip, Contains}
use Rattle.std.proofs.lemmas.Option.{slice_get-get_or, slice_get_within}
use Rattle.syntax_tree.specs.declared.program.Program.{Program}
use Rattle.syntax_tree.specs.Code.{code_of}
use Rattle.transition_formula.specs.Transition.{Transition}
use Rattle.flow_graph.specs.declared.grouping.Group.{Group}
use Rattle.flow_graph.specs.FlowGraph.{body_of}
use Rattle.flow_graph.specs.Groups.{Calls, CallsOver, InOneGroup, IsNext, Reaches, called}
use Rattle.flow_graph.proofs.Reaching.{reaches_join}
use Rattle.newton_rounds.specs.Alike.{AreAlikeCallees, AreAlikeGroups, AreAlikeMembers}
use Rattle.newton_rounds.specs.Members.{place_of}
use Rattle.newton_rounds.proofs.ApartWalks.{no-place}
use Rattle.newton_rounds.proofs.GroupCalls.{placed-at}
use Rattle.newton_rounds.proofs.PairLists.{some-one, zipped-at}
use Rattle.alike_groups.proofs.CalledAlike.{code-called, contains-at}

-- a member calls a member
pub record CallsWithin (program : Program) (procs : List ℕ) : Type 0 where
  pub caller : ℕ
  pub callee : ℕ
  pub from : ℕ
  pub to : ℕ
  pub caller_at : slice_get procs from ≡ Some caller
  pub callee_at : slice_get procs to ≡ Some callee
  pub calls : Calls program caller callee

at-contained : (xs : List ℕ) (x : ℕ) (c : Contains xs x) → slice_get xs c.0 ≡ Some x
at-contained xs x c = slice_get-get_or xs c.0 x c.1 ∙ ap (λ n. Some n) c.2

-- ---- what recursive means

module _ (program : Program) (come : List ℕ) (group : Group) (next : IsNext program come group) where
  reaches-then : (p q r : ℕ) → Reaches program p q → Reaches program q r → Reaches program p r
  reaches-then p q r one more = (one.0 ++ q ∷ more.0, reaches_join program p q one.0 r more.0 one.1 more.1)

  within-from : (callee : ℕ) → Contains group.procs callee → Calls program next.first callee → CallsWithin program group.procs
  within-from callee c calls =
      let first = (next.members next.first).1 (next.there, inl refl) in record {
        caller = next.first;
        callee = callee;
        from = first.0;
        to = c.0;
        caller_at = at-contained group.procs next.first first;
        callee_at = at-contained group.procs callee c;
        calls = calls;
      }

  pub within-recursive : IsTrue group.recursive → CallsWithin program group.procs
  within-recursive h = let round = next.recursive.0 h in go round.0 round.1
    where
      go : (path : List ℕ) → CallsOver program next.first path next.first → CallsWithin program group.procs
      go [] calls = within-from next.first ((next.members next.first).1 (next.there, inl refl)) calls
      go (callee ∷ path) calls = within-from callee ((next.members callee).1 (calls.0.1, inr (([], calls.0), (path, calls.1)))) calls.0

  pub recursive-within : CallsWithin program group.procs → IsTrue group.recursive
  recursive-within w =
      let caller = (next.members w.caller).0 (contains-at group.procs w.from w.caller w.caller_at) in
      let callee = (next.members w.callee).0 (contains-at group.procs w.to w.callee w.callee_at) in
      next.recursive.1 (back callee.1 (there caller.1))
    where
      there : InOneGroup program next.first w.caller → Reaches program next.first w.callee
      there (inl e) = ([], subst (λ p. Calls program p w.callee) (sym e) w.calls)
      there (inr r) = reaches-then next.first w.caller w.callee r.0 ([], w.calls)

      back : InOneGroup program next.first w.callee → Reaches program next.first w.callee → Reaches program next.first next.first
      back (inl e) r = subst (λ q. Reaches program next.first q) (sym e) r
      back (inr s) r = reaches-then next.first w.callee next.first r s.1

-- ---- members of two groups, and what they call

-- both are there, and call at the same places what is alike
pub record CallAlike (same : ℕ → ℕ → Type 0) (program other : Program) (proc number : ℕ) : Type 0 where
  pub within : proc < length program.procs
  pub other_within : number < length other.procs
  pub calls : AllZip same (called (body_of (slice_get program.procs proc))) (called (body_of (slice_get other.procs number)))

zipped-turned : (R Q : ℕ → ℕ → Type 0) → ((x y : ℕ) → R x y → Q y x) → (xs ys : List ℕ) → AllZip R xs ys → AllZip Q ys xs
zipped-turned R Q turn [] [] h = tt
zipped-turned R Q turn [] (y ∷ ys) h = absurd h
zipped-turned R Q turn (x ∷ xs) [] h = absurd h
zipped-turned R Q turn (x ∷ xs) (y ∷ ys) h = (turn x y h.0, zipped-turned R Q turn xs ys h.1)

module _ (same : ℕ → ℕ → Type 0) (program other : Program) (procs others : List ℕ) (places : (proc number : ℕ) → same proc number → place_of proc procs ≡ place_of number others)
    (members : AllZip (CallAlike same program other) procs others) where
  pub within-alike : CallsWithin program procs → CallsWithin other others
  within-alike w =
      let caller = zipped-at (CallAlike same program other) procs others members w.from w.caller w.caller_at in
      let calls = called (body_of (slice_get program.procs w.caller)) in
      let at = at-contained calls w.callee w.calls.2 in
      let found = zipped-at same calls (called (body_of (slice_get other.procs caller.0))) caller.2.calls w.calls.2.0 w.callee at in
      go caller.0 caller.1 caller.2.other_within found.0 (contains-at (called (body_of (slice_get other.procs caller.0))) w.calls.2.0 found.0 found.1) (places w.callee found.0 found.2)
      (place_of w.callee procs) refl
    where
      go : (number : ℕ) → slice_get others w.from ≡ Some number → number < length other.procs → (d : ℕ) → Contains (called (body_of (slice_get other.procs number))) d
          → place_of w.callee procs ≡ place_of d others → (o : Option ℕ) → place_of w.callee procs ≡ o → CallsWithin other others
      go number there within d calls same_place None e = absurd (no-place w.callee procs e w.to w.callee_at)
      go number there within d calls same_place (Some place) e =
          let d_at = placed-at d others place (sym same_place ∙ e) in
          let callee = zipped-at (CallAlike same program other) procs others members place w.callee (placed-at w.callee procs place e) in
          let is : callee.0 ≡ d = some-one callee.1 d_at in record {
            caller = number;
            callee = d;
            from = w.from;
            to = place;
            caller_at = there;
            callee_at = d_at;
            calls = (within, subst (λ n. n < length other.procs) is callee.2.other_within, calls);
          }

module _ (program other : Program) (procs others : List ℕ) (known other_known : List (Option Transition)) (alike : AreAlikeGroups program other procs others known other_known) where
  abbrev Same : ℕ → ℕ → Type 0
  Same = AreAlikeCallees procs others known other_known

  abbrev Turned : ℕ → ℕ → Type 0
  Turned number proc = Same proc number

  member-calls : (proc number : ℕ) → AreAlikeMembers Same program other proc number → CallAlike Same program other proc number
  member-calls proc number m = record {
    within = slice_get_within program.procs proc m.p m.is;
    other_within = slice_get_within other.procs number m.q m.other_is;
    calls =
        subst (λ o. AllZip Same (called (body_of o)) (called (body_of (slice_get other.procs number)))) (sym m.is)
        (subst (λ o. AllZip Same (called (code_of m.p.body)) (called (body_of o))) (sym m.other_is)
        (code-called Same (code_of m.p.body) (code_of m.q.body) m.alike.body));
  }

  turned : (proc number : ℕ) → CallAlike Same program other proc number → CallAlike Turned other program number proc
  turned proc number c = record {
    within = c.other_within;
    other_within = c.within;
    calls = zipped-turned Same Turned (λ x y h. h) (called (body_of (slice_get program.procs proc))) (called (body_of (slice_get other.procs number))) c.calls;
  }

  turned-members : AllZip (CallAlike Turned other program) others procs
  turned-members = zipped-turned (AreAlikeMembers Same program other) (CallAlike Turned other program) (λ proc number m. turned proc number (member-calls proc number m)) procs others alike.members

  members : AllZip (CallAlike Same program other) procs others
  members =
      zipped-turned (CallAlike Turned other program) (CallAlike Same program other)
      (λ number proc c. record {
        within = c.other_within;
        other_within = c.within;
        calls = zipped-turned Turned Same (λ x y h. h) (called (body_of (slice_get other.procs number))) (called (body_of (slice_get program.procs proc))) c.calls;
      })
      others procs turned-members

  pub within-both : CallsWithin program procs ↔ CallsWithin other others
  within-both = (
    within-alike Same program other procs others (λ proc number h. h.place) members,
    within-alike Turned other program others procs (λ number proc h. sym h.place) turned-members,
  )
