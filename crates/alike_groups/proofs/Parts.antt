-- Alike groups of two plans are of one kind, and what is found of them is one computation.
use Rattle.std.proofs.Common.{◌≡◌, ◌↔◌, ℕ, zero, suc, true, false, List, [], ◌∷◌, ◌++◌, Option, None, Some, refl, sym, ap, subst, ◌∙◌}
use Rattle.std.specs.Prelude.{IsTrue, slice_get}
use Rattle.std.specs.List.{AllZip, Contains}
use Rattle.std.proofs.lemmas.Option.{slice_get_within}
use Rattle.syntax_tree.specs.declared.program.Proc.{Proc}
use Rattle.syntax_tree.specs.declared.program.Program.{Program}
use Rattle.syntax_tree.specs.Code.{code_of}
use Rattle.transition_formula.specs.Transition.{Transition}
use Rattle.posing.specs.Posing.{Posing, Done, ◌>>=◌, each}
use Rattle.flow_graph.specs.declared.grouping.Group.{Group}
use Rattle.flow_graph.specs.FlowGraph.{body_of}
use Rattle.flow_graph.specs.Groups.{AreGroupsAfter, IsNext, called}
use Rattle.proc_summary.specs.Alike.{AreAlikeProcs, AreKnownAlike}
use Rattle.proc_summary.specs.Flow.{flow_from}
use Rattle.proc_summary.specs.Summary.{summary_from}
use Rattle.proc_summary.proofs.Alike.{alike_procs_are_one}
use Rattle.newton_rounds.specs.Alike.{AreAlikeCallees, AreAlikeGroups, AreAlikeMembers}
use Rattle.newton_rounds.specs.Close.{group_closure}
use Rattle.newton_rounds.specs.Members.{IsLinear, members_of, place_of, with_table}
use Rattle.newton_rounds.proofs.Alike.{alike_groups_are_one}
use Rattle.newton_rounds.proofs.AlikeMembers.{AreMembers, alike-members, alike-subjects}
use Rattle.newton_rounds.proofs.GroupCalls.{placed-at}
use Rattle.newton_rounds.proofs.MemberTables.{first-member}
use Rattle.newton_rounds.proofs.PairLists.{some-one, zipped-at, zipped-each}
use Rattle.analysis.specs.declared.planning.GroupKind.{GroupKind}
use Rattle.analysis.specs.declared.planning.GroupKind.TheVariants.{Plain, Linear, Rounds}
use Rattle.analysis.specs.declared.planning.Planned.{Planned}
use Rattle.analysis.specs.Parts.{plain_part, recursive_part, summaries_by, with_flow, with_plain}
use Rattle.analysis.specs.Plan.{ArePlannedOf, IsKindOf, IsPlannedOf}
use Rattle.alike_groups.specs.Parts.{AlikePartsAreOne, IsPlannedIn, PlansArePlanned}
use Rattle.alike_groups.proofs.CalledAlike.{code-by_calls}
use Rattle.alike_groups.proofs.CallsWithin.{CallsWithin, recursive-within, within-both, within-recursive}

-- ---- the groups of a plan

none-at : {A : Type 0} (n : ℕ) (x : A) → slice_get [] n ≡ Some x → ⊥
none-at zero x e = cc
none-at (suc n) x e = cc

planned-after : (program : Program) (come : List ℕ) (groups : List Group) (plan : List Planned) → AreGroupsAfter program come groups → ArePlannedOf program groups plan
    → (k : ℕ) (planned : Planned) → slice_get plan k ≡ Some planned → IsPlannedIn program planned
planned-after program come [] [] after are k planned at = absurd (none-at k planned at)
planned-after program come [] (p ∷ plan) after are k planned at = absurd are
planned-after program come (group ∷ groups) [] after are k planned at = absurd are
planned-after program come (group ∷ groups) (p ∷ plan) after are zero planned at =
    let same : p ≡ planned = some-one {o = Some p} {x = p} {y = planned} refl at in
    record { come = come; group = group; next = after.0; of = subst (λ x. IsPlannedOf program group x) same are.0 }
planned-after program come (group ∷ groups) (p ∷ plan) after are (suc k) planned at = planned-after program (come ++ group.procs) groups plan after.1 are.1 k planned at

pub plans_are_planned : PlansArePlanned
plans_are_planned program plan h k planned at = planned-after program [] h.groups plan h.are h.planned k planned at

-- ---- one kind

kind-one : (program other : Program) (group next : Group) → IsTrue group.recursive ↔ IsTrue next.recursive → IsLinear program group.procs ↔ IsLinear other next.procs
    → (kind other_kind : GroupKind) → IsKindOf program group kind → IsKindOf other next other_kind → kind ≡ other_kind
kind-one program other group next recursive linear Plain Plain h k = refl
kind-one program other group next recursive linear Plain Linear h k = absurd (h (recursive.1 k.0))
kind-one program other group next recursive linear Plain Rounds h k = absurd (h (recursive.1 k.0))
kind-one program other group next recursive linear Linear Plain h k = absurd (k (recursive.0 h.0))
kind-one program other group next recursive linear Linear Linear h k = refl
kind-one program other group next recursive linear Linear Rounds h k = absurd (k.1 (linear.0 h.1))
kind-one program other group next recursive linear Rounds Plain h k = absurd (k (recursive.0 h.0))
kind-one program other group next recursive linear Rounds Linear h k = absurd (h.1 (linear.1 k.1))
kind-one program other group next recursive linear Rounds Rounds h k = refl

-- ---- one computation

-- in a plain group no member calls a member
abbrev NoneWithin : GroupKind → Program → List ℕ → Type 0
NoneWithin Plain program procs = ¬ CallsWithin program procs
NoneWithin Linear program procs = Unit {0}
NoneWithin Rounds program procs = Unit {0}

none-within : (program : Program) (come : List ℕ) (group : Group) → IsNext program come group → (kind : GroupKind) → IsKindOf program group kind → NoneWithin kind program group.procs
none-within program come group next Plain h = λ w. h (recursive-within program come group next w)
none-within program come group next Linear h = tt
none-within program come group next Rounds h = tt

module _ (program other : Program) (procs others : List ℕ) (known other_known : List (Option Transition)) (alike : AreAlikeGroups program other procs others known other_known) where
  abbrev Same : ℕ → ℕ → Type 0
  Same = AreAlikeCallees procs others known other_known

  abbrev Are : Proc → Proc → Type 0
  Are = AreMembers program other procs others known other_known

  abbrev by : List Transition → List (Option Transition)
  by table = with_table procs table known

  abbrev other_by : List Transition → List (Option Transition)
  other_by table = with_table others table other_known

  flows-one : (table : List Transition) → each (with_flow program (by table)) [] (members_of program procs) ≡ each (with_flow other (other_by table)) [] (members_of other others)
  unfolding with_flow
  flows-one table =
      zipped-each Are (with_flow program (by table)) (with_flow other (other_by table))
      (λ made p q h. λ i. flow_from (alike-subjects program other procs others known other_known alike table p q h i) >>= λ flow. Done (made ++ flow ∷ []))
      [] (members_of program procs) (members_of other others) (alike-members program other procs others known other_known alike)

  recursive-one : (first other_first : Posing (List Transition)) → first ≡ other_first → recursive_part program procs known first ≡ recursive_part other others other_known other_first
  unfolding recursive_part
  recursive-one first other_first same = λ i. same i >>= λ table. flows-one table i >>= λ flows. Done record { formulas = table; flows = flows }

  closed-one : (linear : _) → group_closure linear program procs known ≡ group_closure linear other others other_known
  closed-one = (alike_groups_are_one program other procs others known other_known alike).1

  -- ---- where no member calls a member

  abbrev Known : ℕ → ℕ → Type 0
  Known = AreKnownAlike known other_known

  -- a procedure that a member calls is outside
  abbrev CallsOutside : List ℕ → Type 0
  CallsOutside ns = (place proc callee : ℕ) → slice_get ns place ≡ Some proc → Contains (called (body_of (slice_get program.procs proc))) callee → place_of callee procs ≡ None

  outside : ¬ CallsWithin program procs → CallsOutside procs
  outside never place proc callee at calls = go (place_of callee procs) refl
    where
      go : (o : Option ℕ) → place_of callee procs ≡ o → place_of callee procs ≡ None
      go None e = e
      go (Some to) e =
          let callee_at = placed-at callee procs to e in
          let one = zipped-at (AreAlikeMembers Same program other) procs others alike.members place proc at in
          let two = zipped-at (AreAlikeMembers Same program other) procs others alike.members to callee callee_at in
          absurd (never record {
            caller = proc;
            callee = callee;
            from = place;
            to = to;
            caller_at = at;
            callee_at = callee_at;
            calls = (slice_get_within program.procs proc one.2.p one.2.is, slice_get_within program.procs callee two.2.p two.2.is, calls);
          })

  proc-known : (proc number : ℕ) (m : AreAlikeMembers Same program other proc number) → ((callee : ℕ) → Contains (called (body_of (slice_get program.procs proc))) callee → place_of callee procs ≡ None)
      → AreAlikeProcs Known program other m.p m.q
  proc-known proc number m out = record {
    globals = m.alike.globals;
    rule = m.alike.rule;
    params = m.alike.params;
    returns = m.alike.returns;
    named = m.alike.named;
    body = code-by_calls Same Known (code_of m.p.body) (code_of m.q.body) m.alike.body (λ callee next c h. h.outside (out callee (subst (λ o. Contains (called (body_of o)) callee) (sym m.is) c)));
  }

  procs-known : (ns ms : List ℕ) → AllZip (AreAlikeMembers Same program other) ns ms → CallsOutside ns → AllZip (AreAlikeProcs Known program other) (members_of program ns) (members_of other ms)
  procs-known [] [] h out = tt
  procs-known [] (m ∷ ms) h out = absurd h
  procs-known (n ∷ ns) [] h out = absurd h
  procs-known (n ∷ ns) (m ∷ ms) h out =
      subst (λ all. AllZip (AreAlikeProcs Known program other) all (members_of other (m ∷ ms))) (sym (first-member program n ns h.0.p h.0.is))
      (subst (λ all. AllZip (AreAlikeProcs Known program other) (h.0.p ∷ members_of program ns) all) (sym (first-member other m ms h.0.q h.0.other_is))
      (proc-known n m h.0 (λ callee c. out 0 n callee refl c), procs-known ns ms h.1 (λ place proc callee at c. out (suc place) proc callee at c)))

  plain-one : ¬ CallsWithin program procs → plain_part program procs known ≡ plain_part other others other_known
  unfolding plain_part with_plain
  plain-one never =
      zipped-each (AreAlikeProcs Known program other) (with_plain program known) (with_plain other other_known)
      (λ made p q h. λ i.
      flow_from ((alike_procs_are_one program other p q known other_known h).0 i) >>= λ flow.
      summary_from ((alike_procs_are_one program other p q known other_known h).1 i) flow.exit.formula >>= λ f.
      Done record { formulas = made.formulas ++ f ∷ []; flows = made.flows ++ flow ∷ [] })
      record { formulas = []; flows = [] } (members_of program procs) (members_of other others) (procs-known procs others alike.members (outside never))

  summed-one : (kind : GroupKind) → NoneWithin kind program procs → summaries_by kind program procs known ≡ summaries_by kind other others other_known
  unfolding summaries_by
  summed-one Plain never = plain-one never
  summed-one Linear never = recursive-one (group_closure true program procs known) (group_closure true other others other_known) (closed-one true)
  summed-one Rounds never = recursive-one (group_closure false program procs known) (group_closure false other others other_known) (closed-one false)

-- ---- groups of two plans

pub alike_parts_are_one : AlikePartsAreOne
alike_parts_are_one program other planned kept known other_known here there alike =
    let group = here.group in
    let next = there.group in
    let procs = here.of.procs in
    let other_procs = there.of.procs in
    let own = subst (λ all. AreAlikeGroups program other group.procs all known other_known) other_procs (subst (λ all. AreAlikeGroups program other all kept.procs known other_known) procs alike) in
    let within = within-both program other group.procs next.procs known other_known own in
    let recursive : IsTrue group.recursive ↔ IsTrue next.recursive = (
      λ h. recursive-within other there.come next there.next (within.0 (within-recursive program here.come group here.next h)),
      λ h. recursive-within program here.come group here.next (within.1 (within-recursive other there.come next there.next h)),
    ) in
    let linear = (alike_groups_are_one program other group.procs next.procs known other_known own).0 in
    let kinds = kind-one program other group next recursive linear planned.kind kept.kind here.of.kind there.of.kind in
    let never = none-within program here.come group here.next planned.kind here.of.kind in (
      kinds,
      ap (λ all. summaries_by planned.kind program all known) procs
          ∙ summed-one program other group.procs next.procs known other_known own planned.kind never
          ∙ ap (λ kind. summaries_by kind other next.procs other_known) kinds
          ∙ ap (λ all. summaries_by kept.kind other all other_known) (sym other_procs),
    )
