-- What is so of a group that stands in its program.
use Rattle.std.proofs.Common.{◌≡◌, ◌<◌, ◌^◌, ◌∙◌, List, length, map, sym, ap, subst, arith}
use Rattle.std.specs.Prelude.{All}
use Rattle.std.specs.List.{AllByRecursion}
use Rattle.std.proofs.lemmas.List.{length-map}
use Rattle.std.proofs.lemmas.List.Elements.{recursion_from_All}
use Rattle.items.proofs.Each.{each-map}
use Rattle.transition_formula.specs.Transition.{Transition}
use Rattle.newton_rounds.specs.declared.calls.GroupCall as own
use Rattle.newton_rounds.specs.declared.calls.Sides.{Sides}
use Rattle.newton_rounds.specs.declared.group.GroupInRounds.{GroupInRounds}
use Rattle.newton_rounds.specs.Between.{AreSummaries, FitTable, IsGroup, IsMember}
use Rattle.newton_rounds.specs.Claims.{AreKnownMembers}
use Rattle.newton_rounds.specs.Closure.{ends_of_members, stretches_with}
use Rattle.newton_rounds.specs.Groups.{IsReadyGroup}
use Rattle.newton_rounds.specs.Members.{calls_from, members_of}
use Rattle.newton_rounds.specs.Pairs.{PairEnds}
use Rattle.newton_rounds.specs.Shapes.{FitCalls, IsCallIn, plain_call}
use Rattle.newton_rounds.proofs.GroupCalls.{AreThere}
use Rattle.newton_rounds.proofs.GroupMembers.{all-members, few-procs, group-is, sides-many}
use Rattle.newton_rounds.proofs.RoundRows.{summaries-fit, summaries-known}

module _ (group : GroupInRounds) (ready : IsReadyGroup group) where
  pub procs-there : AreThere group.program.now group.procs.now
  procs-there = recursion_from_All (λ proc. proc < length group.program.now.procs) group.procs.now ready.there

  pub procs-few : length group.procs.now < 2 ^ 32
  procs-few = let most = few-procs group.program.now ready.formed group.procs.now procs-there ready.few in omega (arith, most)

  -- a formula or none stands for each
  pub procs-known : All (λ proc. proc < length group.known.now) group.procs.now
  procs-known = subst (λ n. All (λ proc. proc < n) group.procs.now) (sym ready.known.each) ready.there

  pub members-are : AllByRecursion IsMember group.members.now
  members-are = subst (AllByRecursion IsMember) (sym ready.members) (all-members group.program.now ready.formed group.procs.now procs-there ready.few)

  -- ---- summaries of the members

  pub table-fits : (table : List Transition) → AreSummaries group.members.now table → FitTable group.program.now group.procs.now table
  table-fits table h = summaries-fit group.program.now group.procs.now procs-there table (subst (λ (members : List PairEnds). AreSummaries members table) ready.members h)

  pub table-known : (table : List Transition) → AreSummaries group.members.now table → AreKnownMembers group.program.now group.procs.now table
  table-known table h = summaries-known group.program.now group.procs.now procs-there table (subst (λ (members : List PairEnds). AreSummaries members table) ready.members h)

  -- ---- the calls, with both sides of each

  module _ (calls : List own.GroupCall) (sides : List Sides) (are : map plain_call calls ≡ calls_from group.procs.now 0 (members_of group.program.now group.procs.now))
      (fit : FitCalls group.members.now (calls_from group.procs.now 0 (members_of group.program.now group.procs.now)) sides) where
    pub sides-each : length calls ≡ length sides
    sides-each = sym (length-map calls plain_call) ∙ ap length are ∙ sides-many group.members.now (calls_from group.procs.now 0 (members_of group.program.now group.procs.now)) sides fit

    pub calls-group : AllByRecursion (λ (call : own.GroupCall). IsCallIn (ends_of_members group.program.now group.procs.now) (plain_call call)) calls
        → IsGroup group.members.now (stretches_with (map plain_call calls) sides)
    calls-group calls_in =
        let all = ends_of_members group.program.now group.procs.now in
        subst (λ (members : List PairEnds). IsGroup members (stretches_with (map plain_call calls) sides)) (sym ready.members)
        (group-is group.program.now ready.formed group.procs.now procs-there ready.few (map plain_call calls) sides are
        (each-map (λ (call : own.GroupCall). IsCallIn all (plain_call call)) (IsCallIn all) plain_call (λ call h. h) calls calls_in)
        (subst (λ (members : List PairEnds). FitCalls members (map plain_call calls) sides) ready.members (subst (λ plain. FitCalls group.members.now plain sides) (sym are) fit)))
