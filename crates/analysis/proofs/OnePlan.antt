-- The plan of a program.
--     planned-next       a loop over groups
--     groups-there       the procedures of each group are of the program
--     plan-one           a program has one plan
use Rattle.std.proofs.Common.{◌≡◌, ℕ, zero, suc, ◌<◌, List, [], ◌∷◌, ◌++◌, length, refl, sym, subst, ◌∙◌}
use Rattle.std.specs.Prelude.{All, Some, slice_get}
use Rattle.syntax_tree.specs.declared.program.Program.{Program}
use Rattle.flow_graph.specs.declared.grouping.Group.{Group}
use Rattle.flow_graph.specs.Groups.{AreGroups, AreGroupsAfter}
use Rattle.flow_graph.proofs.OneList.{groups_are_determined}
use Rattle.analysis.specs.declared.planning.GroupKind.{GroupKind}
use Rattle.analysis.specs.declared.planning.GroupKind.TheVariants.{Plain, Linear, Rounds}
use Rattle.analysis.specs.declared.planning.Planned.{Planned}
use Rattle.analysis.specs.Plan.{ArePlannedOf, IsKindOf, IsPlan, IsPlannedOf}
use Rattle.analysis.proofs.NextGroups.{group-there}

module _ (program : Program) where
  pub planned-next : (groups : List Group) (plan : List Planned) (group : Group) (planned : Planned) → ArePlannedOf program groups plan → IsPlannedOf program group planned
      → ArePlannedOf program (groups ++ group ∷ []) (plan ++ planned ∷ [])
  planned-next [] [] group planned are of = (of, tt)
  planned-next [] (other ∷ plan) group planned are of = absurd are
  planned-next (other ∷ groups) [] group planned are of = absurd are
  planned-next (other ∷ groups) (one ∷ plan) group planned are of = (are.0, planned-next groups plan group planned are.1 of)

  there-after : (come : List ℕ) (groups : List Group) → AreGroupsAfter program come groups → (k : ℕ) (group : Group) → slice_get groups k ≡ Some group → All (λ proc. proc < length program.procs) group.procs
  there-after come [] are k group e = absurd (cc e)
  there-after come (one ∷ groups) are zero group e = let same : one ≡ group = cc e in subst (λ (g : Group). All (λ proc. proc < length program.procs) g.procs) same (group-there program come one are.0)
  there-after come (one ∷ groups) are (suc k) group e = there-after (come ++ one.procs) groups are.1 k group e

  pub groups-there : (groups : List Group) → AreGroups program groups → (k : ℕ) (group : Group) → slice_get groups k ≡ Some group → All (λ proc. proc < length program.procs) group.procs
  groups-there groups are = there-after [] groups are

  kind-one : (group : Group) (one other : GroupKind) → IsKindOf program group one → IsKindOf program group other → one ≡ other
  kind-one group Plain Plain a b = refl
  kind-one group Plain Linear a b = absurd (a b.0)
  kind-one group Plain Rounds a b = absurd (a b.0)
  kind-one group Linear Plain a b = absurd (b a.0)
  kind-one group Linear Linear a b = refl
  kind-one group Linear Rounds a b = absurd (b.1 a.1)
  kind-one group Rounds Plain a b = absurd (b a.0)
  kind-one group Rounds Linear a b = absurd (a.1 b.1)
  kind-one group Rounds Rounds a b = refl

  planned-one : (groups : List Group) (one other : List Planned) → ArePlannedOf program groups one → ArePlannedOf program groups other → one ≡ other
  planned-one [] [] [] a b = refl
  planned-one [] [] (q ∷ other) a b = absurd b
  planned-one [] (p ∷ one) other a b = absurd a
  planned-one (group ∷ groups) [] other a b = absurd a
  planned-one (group ∷ groups) (p ∷ one) [] a b = absurd b
  planned-one (group ∷ groups) (p ∷ one) (q ∷ other) a b =
      let procs = a.0.procs ∙ sym b.0.procs in
      let kind = kind-one group p.kind q.kind a.0.kind b.0.kind in
      let rest = planned-one groups one other a.1 b.1 in
      λ i. record { procs = procs i; kind = kind i } ∷ rest i

  pub plan-one : (one other : List Planned) → IsPlan program one → IsPlan program other → one ≡ other
  plan-one one other a b =
      planned-one a.groups one other a.planned
      (subst (λ groups. ArePlannedOf program groups other) (sym (groups_are_determined program a.groups b.groups a.are b.are)) b.planned)
