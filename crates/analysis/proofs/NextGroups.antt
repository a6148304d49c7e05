-- What the procedures of the next group call has come, or is of the group.
--     group-there    they are procedures of the program
--     group-ready    a planned group is ready where all that has come is found
use Rattle.std.proofs.Common.{◌≡◌, ℕ, suc, ◌+◌, ◌<◌, ◌≤◌, ◌⊎◌, inl, inr, List, [], ◌∷◌, ◌++◌, length, get_or, sym, ap, subst, ◌∙◌, arith, refl}
use Rattle.std.specs.Prelude.{All, IsTrue, Option, Some, slice_get}
use Rattle.std.specs.List.{AllByRecursion, Contains}
use Rattle.std.proofs.lemmas.List.Elements.{Contains-get_or}
use Rattle.std.proofs.lemmas.Option.{get_or_from_slice_get, slice_get-get_or, slice_get_within}
use Rattle.items.proofs.Each.{each-get}
use Rattle.syntax_tree.specs.declared.program.Proc.{Proc}
use Rattle.syntax_tree.specs.declared.program.Program.{Program}
use Rattle.syntax_tree.specs.Code.{Statement, Set, Any, Call, Guard, Check, If, Loop, Break, Continue, Return, code_of}
use Rattle.syntax_tree.specs.WellFormed.{IsWellFormed, width_of}
use Rattle.flow_graph.specs.declared.grouping.Group.{Group}
use Rattle.flow_graph.specs.FlowGraph.{body_of, flow_of}
use Rattle.flow_graph.specs.Groups.{IsAscending, IsNext, InOneGroup, Reaches, called}
use Rattle.flow_graph.proofs.Reaching.{reaches_join}
use Rattle.leaf_cases.specs.Summaries.{KnowsCallee}
use Rattle.leaf_cases.proofs.Graphs.{EdgeFits, act-fits}
use Rattle.transition_formula.specs.Transition.{Transition}
use Rattle.vocabularies.specs.Procs.{IsProcOf}
use Rattle.proc_summary.specs.Subject.{own_graph}
use Rattle.newton_rounds.specs.Laws.{CallsMember, KnowsOthers}
use Rattle.analysis.specs.declared.found.Found.{Found}
use Rattle.analysis.specs.declared.planning.GroupKind.{GroupKind}
use Rattle.analysis.specs.declared.planning.GroupKind.TheVariants.{Plain, Linear, Rounds}
use Rattle.analysis.specs.declared.planning.Planned.{Planned}
use Rattle.analysis.specs.Claims.{HasFound, IsLinearIf, IsReadyGroup, KnowAllCallees, KnowsFor}
use Rattle.analysis.specs.Plan.{IsKindOf, IsPlannedOf}
use Rattle.analysis.proofs.BodyCalls.{IsCallOf, graph-calls}
use Rattle.analysis.proofs.Puts.{each-here}

-- numbers in ascending order from one on and below another
ascending-few : (from to : ℕ) (procs : List ℕ) → IsAscending procs → ((k : ℕ) → k < length procs → from ≤ get_or procs k 0) → ((k : ℕ) → k < length procs → get_or procs k 0 < to) → from ≤ to → from + length procs ≤ to
ascending-few from to [] ascends above below le = omega arith
ascending-few from to (p ∷ procs) ascends above below le =
    let first = above 0 (omega arith) in
    let last = below 0 (omega arith) in
    let rest = ascending-few (p + 1) to procs ascends.1 (λ k lt. let more = ascends.0 (get_or procs k 0) (Contains-get_or procs k 0 lt) in omega (arith, more)) (λ k lt. below (suc k) (omega (arith, lt))) (omega (arith, last)) in
    omega (arith, first, rest)

module _ (program : Program) where
  joined : (p k q : ℕ) → Reaches program p k → Reaches program k q → Reaches program p q
  joined p k q first second = (first.0 ++ k ∷ second.0, reaches_join program p k first.0 q second.0 first.1 second.1)

  -- what reaches a procedure of the group reaches what that calls
  onward : (first proc q : ℕ) → InOneGroup program first proc → Reaches program proc q → Reaches program first q
  onward first proc q (inl same) more = subst (λ p. Reaches program p q) (sym same) more
  onward first proc q (inr both) more = joined first proc q both.0 more

  around : (first q : ℕ) → Reaches program first q → InOneGroup program first q → Reaches program first first
  around first q there (inl same) = subst (λ p. Reaches program first p) (sym same) there
  around first q there (inr both) = joined first q first there both.1

  module _ (come : List ℕ) (group : Group) (next : IsNext program come group) where
    pub group-there : All (λ proc. proc < length program.procs) group.procs
    group-there k d lt = ((next.members (_)).0 (Contains-get_or group.procs k d lt)).0

    module _ (found : Found) (has : HasFound come found) where
      abbrev IsKnownOr : Type 0 → ℕ → Type 0
      IsKnownOr Member q = Member ⊎ ((f : Transition) × (slice_get found.known q ≡ Some (Some f)))

      -- what a procedure of the group reaches has come, or is in its group
      reached : (proc q : ℕ) → Contains group.procs proc → Reaches program proc q → IsKnownOr (Reaches program next.first q × InOneGroup program next.first q) q
      reached proc q in_group reach = go (next.ready q way)
        where
          way : Reaches program next.first q
          way = onward next.first proc q ((next.members proc).0 in_group).1 reach

          go : Contains come q ⊎ InOneGroup program next.first q → IsKnownOr (Reaches program next.first q × InOneGroup program next.first q) q
          go (inl came) = let at = has q came in inr (at.formula, at.known)
          go (inr one) = inl (way, one)

      member : (q : ℕ) → q < length program.procs → IsKnownOr (Reaches program next.first q × InOneGroup program next.first q) q → IsKnownOr ((place : ℕ) × (slice_get group.procs place ≡ Some q)) q
      member q there (inr known) = inr known
      member q there (inl one) =
          let at = (next.members q).1 (there, one.1) in
          inl (at.0, slice_get-get_or group.procs at.0 q at.1 ∙ ap (λ n. Some n) at.2)

      alone : ¬ IsTrue group.recursive → (q : ℕ) → IsKnownOr (Reaches program next.first q × InOneGroup program next.first q) q → (f : Transition) × (slice_get found.known q ≡ Some (Some f))
      alone plain q (inr known) = known
      alone plain q (inl one) = absurd (plain (next.recursive.1 (around next.first q one.0 one.1)))

      others : (proc : ℕ) (p : Proc) → Contains group.procs proc → IsProcOf program proc p → (s : Statement) → IsCallOf (called (code_of p.body)) s → EdgeFits program (width_of program p) s
          → CallsMember group.procs s ⊎ KnowsCallee found.known s
      others proc p in_group is (Call q args into) calls fits =
          let there = slice_get_within program.procs q fits.callee fits.is in
          let body : Contains (called (body_of (slice_get program.procs proc))) q = subst (λ (o : Option Proc). Contains (called (body_of o)) q) (sym is) calls in
          member q there (reached proc q in_group ([], (slice_get_within program.procs proc p is, there, body)))
      others proc p in_group is (Set col value) calls fits = inr tt
      others proc p in_group is (Any col) calls fits = inr tt
      others proc p in_group is (Guard cond) calls fits = inr tt
      others proc p in_group is (Check number cond) calls fits = inr tt
      others proc p in_group is (If cond on_true on_false) calls fits = inr tt
      others proc p in_group is (Loop pre cond body step first) calls fits = inr tt
      others proc p in_group is Break calls fits = inr tt
      others proc p in_group is Continue calls fits = inr tt
      others proc p in_group is Return calls fits = inr tt

      lone : ¬ IsTrue group.recursive → (proc : ℕ) (p : Proc) → Contains group.procs proc → IsProcOf program proc p → (s : Statement) → IsCallOf (called (code_of p.body)) s → EdgeFits program (width_of program p) s
          → KnowsCallee found.known s
      lone plain proc p in_group is (Call q args into) calls fits =
          let there = slice_get_within program.procs q fits.callee fits.is in
          let body : Contains (called (body_of (slice_get program.procs proc))) q = subst (λ (o : Option Proc). Contains (called (body_of o)) q) (sym is) calls in
          alone plain q (reached proc q in_group ([], (slice_get_within program.procs proc p is, there, body)))
      lone plain proc p in_group is (Set col value) calls fits = tt
      lone plain proc p in_group is (Any col) calls fits = tt
      lone plain proc p in_group is (Guard cond) calls fits = tt
      lone plain proc p in_group is (Check number cond) calls fits = tt
      lone plain proc p in_group is (If cond on_true on_false) calls fits = tt
      lone plain proc p in_group is (Loop pre cond body step first) calls fits = tt
      lone plain proc p in_group is Break calls fits = tt
      lone plain proc p in_group is Continue calls fits = tt
      lone plain proc p in_group is Return calls fits = tt

      -- a property of the edges of a procedure's graph
      edges : (P : Statement → Type 0) → IsWellFormed program → (proc : ℕ) (p : Proc) → IsProcOf program proc p
          → ((s : Statement) → IsCallOf (called (code_of p.body)) s → EdgeFits program (width_of program p) s → P s) → AllByRecursion (λ way. P way.act) (own_graph p).arcs
      edges P formed proc p is tells =
          each-here (λ way. P way.act) (own_graph p).arcs
          (λ k way at. tells way.act (each-get (λ way. IsCallOf (called (code_of p.body)) way.act) (own_graph p).arcs k way (graph-calls (code_of p.body)) at)
          (act-fits program proc p way.act formed is (record { place = k; way = way; is = subst (λ (o : Option Proc). slice_get (flow_of (body_of o)).arcs k ≡ Some way) (sym is) at; does = refl })))

      know-others : IsWellFormed program → KnowsOthers program group.procs found.known
      know-others formed place proc p at is =
          let in_group : Contains group.procs proc = (place, slice_get_within group.procs place proc at, get_or_from_slice_get group.procs place proc proc at) in
          edges (λ s. CallsMember group.procs s ⊎ KnowsCallee found.known s) formed proc p is (others proc p in_group is)

      know-all : IsWellFormed program → ¬ IsTrue group.recursive → KnowAllCallees program group.procs found.known
      know-all formed plain proc p in_group is = edges (KnowsCallee found.known) formed proc p is (lone plain proc p in_group is)

      kind-ready : IsWellFormed program → (kind : GroupKind) → IsKindOf program group kind → KnowsFor kind program group.procs found.known × IsLinearIf kind program group.procs
      kind-ready formed Plain plain = (know-all formed plain, tt)
      kind-ready formed Linear linear = (know-others formed, linear.1)
      kind-ready formed Rounds rounds = (know-others formed, rounds.1)

    pub group-ready : (found : Found) → HasFound come found → IsWellFormed program → (planned : Planned) → IsPlannedOf program group planned → IsReadyGroup program planned found.known
    group-ready found has formed planned of =
        let same = sym of.procs in
        let parts = kind-ready found has formed planned.kind of.kind in
        let few = ascending-few 0 (length program.procs) group.procs next.in_order (λ k lt. omega arith) (λ k lt. group-there k 0 lt) (omega arith) in
        record {
          there = subst (λ procs. All (λ proc. proc < length program.procs) procs) same group-there;
          few = subst (λ procs. length procs ≤ length program.procs) same (omega (arith, few));
          callees = subst (λ procs. KnowsFor planned.kind program procs found.known) same parts.0;
          linear = subst (λ procs. IsLinearIf planned.kind program procs) same parts.1;
        }
