-- The groups of a program in the order in which they are summed up, each with the way in which that
-- is done.
use Rattle.std.specs.Prelude.{◌≡◌, IsTrue, List, [], ◌∷◌}
use Rattle.syntax_tree.specs.declared.program.Program.{Program}
use Rattle.flow_graph.specs.declared.grouping.Group.{Group}
use Rattle.flow_graph.specs.Groups.{AreGroups}
use Rattle.newton_rounds.specs.Members.{IsLinear}
use Rattle.analysis.specs.declared.planning.GroupKind.{GroupKind}
use Rattle.analysis.specs.declared.planning.GroupKind.TheVariants.{Plain, Linear, Rounds}
use Rattle.analysis.specs.declared.planning.Planned.{Planned}

-- A group that is not recursive is plain. A recursive one is linear where no call of the group can
-- follow another in one activation; else its summaries are found by rounds.
abbrev pub IsKindOf : Program → Group → GroupKind → Type 0
IsKindOf program group Plain = ¬ IsTrue group.recursive
IsKindOf program group Linear = IsTrue group.recursive × IsLinear program group.procs
IsKindOf program group Rounds = IsTrue group.recursive × (¬ IsLinear program group.procs)

-- what is planned has the group's procedures in their order, and is of the group's kind
pub record IsPlannedOf (program : Program) (group : Group) (planned : Planned) : Type 0 where
  pub procs : planned.procs ≡ group.procs
  pub kind : IsKindOf program group planned.kind

-- what is planned is one for each group, in their order
abbrev pub ArePlannedOf : Program → List Group → List Planned → Type 0
ArePlannedOf program [] [] = Unit {0}
ArePlannedOf program (group ∷ groups) (planned ∷ plan) = IsPlannedOf program group planned
    × ArePlannedOf program groups plan
ArePlannedOf program [] (planned ∷ plan) = ⊥
ArePlannedOf program (group ∷ groups) [] = ⊥

-- the plan of a program, of which there is one
pub record IsPlan (program : Program) (plan : List Planned) : Type 0 where
  pub groups : List Group
  pub are : AreGroups program groups
  pub planned : ArePlannedOf program groups plan
