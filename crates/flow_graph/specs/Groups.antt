-- The groups of a program: the strong components of its calls (Tarjan 1972), callees first.
use Rattle.std.specs.Prelude.{◌≡◌, ◌<◌, ◌↔◌, ◌⊎◌, ℕ, IsTrue, List, [], ◌∷◌, ◌++◌, length, slice_get}
use Rattle.std.specs.List.{Contains}
use Rattle.syntax_tree.specs.declared.program.Program.{Program}
use Rattle.syntax_tree.specs.Code.{Statement, Call, If, Loop, Code, End, Then}
use Rattle.flow_graph.specs.declared.grouping.Group.{Group}
use Rattle.flow_graph.specs.FlowGraph.{body_of}

-- the procedures that a statement calls, and those that a list of statements calls, in order
abbrev mutual
  pub called_in : Statement → List ℕ
  called_in (Call proc args into) = proc ∷ []
  called_in (If cond on_true on_false) = called on_true ++ called on_false
  called_in (Loop pre cond body step first) = called pre ++ called body ++ called step
  called_in _ = []

  pub called : Code → List ℕ
  called End = []
  called (Then statement rest) = called_in statement ++ called rest

-- a procedure of the program calls another
abbrev pub Calls : Program → ℕ → ℕ → Type 0
Calls program from to =
    (from < length program.procs) × (to < length program.procs)
    × Contains (called (body_of (slice_get program.procs from))) to

-- calls lead from a procedure to another, over these in between; there is at least one call
abbrev pub CallsOver : Program → ℕ → List ℕ → ℕ → Type 0
CallsOver program from [] to = Calls program from to
CallsOver program from (next ∷ path) to = Calls program from next × CallsOver program next path to

-- calls lead from a procedure to another; there is at least one call
abbrev pub Reaches : Program → ℕ → ℕ → Type 0
Reaches program from to = (path : List ℕ) × CallsOver program from path to

-- a procedure with itself, and two that reach each other
abbrev pub InOneGroup : Program → ℕ → ℕ → Type 0
InOneGroup program p q = (p ≡ q) ⊎ (Reaches program p q × Reaches program q p)

-- all that the procedure's group reaches outside of itself has come
abbrev pub IsReady : Program → List ℕ → ℕ → Type 0
IsReady program come p = (q : ℕ) → Reaches program p q → Contains come q ⊎ InOneGroup program p q

-- the procedures are in the order of the text, each once
abbrev pub IsAscending : List ℕ → Type 0
IsAscending [] = Unit {0}
IsAscending (p ∷ rest) = ((q : ℕ) → Contains rest q → p < q) × IsAscending rest

-- The group that is next where these procedures have come: of the groups that are ready, the one
-- with the first procedure in the text. Its procedures are in the order of the text, and it is
-- recursive where they reach themselves.
pub record IsNext (program : Program) (come : List ℕ) (group : Group) : Type 0 where
  pub first : ℕ
  pub there : first < length program.procs
  pub new : Contains come first → ⊥
  pub ready : IsReady program come first
  pub least : (p : ℕ) → p < first → IsReady program come p → Contains come p
  pub members : (q : ℕ) → Contains group.procs q
      ↔ ((q < length program.procs) × InOneGroup program first q)
  pub in_order : IsAscending group.procs
  pub recursive : IsTrue group.recursive ↔ Reaches program first first

-- These are the groups behind the procedures that have come, one after the other, until all have
-- come.
abbrev pub AreGroupsAfter : Program → List ℕ → List Group → Type 0
AreGroupsAfter program come [] = (q : ℕ) → q < length program.procs → Contains come q
AreGroupsAfter program come (group ∷ rest) =
    IsNext program come group × AreGroupsAfter program (come ++ group.procs) rest

-- These are all groups of a program, callees first.
abbrev pub AreGroups : Program → List Group → Type 0
AreGroups program groups = AreGroupsAfter program [] groups

-- A program has no other list of groups.
abbrev pub GroupsAreDetermined : Type 0
GroupsAreDetermined = (program : Program) (one other : List Group) → AreGroups program one
    → AreGroups program other → one ≡ other
