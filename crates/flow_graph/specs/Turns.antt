-- The order of groups, by what each waits for (Kahn 1962): a group comes once all that it calls
-- outside of itself has come.
use Rattle.std.specs.Prelude.{◌≡◌, ◌<◌, ◌≤◌, ◌↔◌, ◌⊎◌, ◌||◌, ◌==◌, ℕ, zero, suc, Bool, true, false, List, [], ◌∷◌, length, slice_index_or}
use Rattle.std.specs.List.{Contains}
use Rattle.syntax_tree.specs.declared.program.Program.{Program}
use Rattle.flow_graph.specs.declared.turns.Plan.{Plan}
use Rattle.flow_graph.specs.declared.turns.Order.{Order}
use Rattle.flow_graph.specs.Components.{group_at}
use Rattle.flow_graph.specs.Plans.{empty_rows}
use Rattle.flow_graph.specs.Numbers.{no_bits}
use Rattle.flow_graph.specs.Groups.{Calls, InOneGroup, IsAscending}

-- the group of a procedure, by its number
abbrev pub group : Plan → ℕ → ℕ
group plan p = group_at plan.groups p

-- the procedures of a group; [] past the end
abbrev pub members_of : Plan → ℕ → List ℕ
members_of plan g = slice_index_or plan.members g []

-- the procedures that a group calls; [] past the end
abbrev pub row_of : Plan → ℕ → List ℕ
row_of plan g = slice_index_or plan.rows g []

-- the first procedure of a group in the text; 0 where it has none
abbrev pub first_of : Plan → ℕ → ℕ
first_of plan g = slice_index_or (members_of plan g) 0 0

-- the groups are those of a program, and a call leads to no later number of a group
pub record IsPlan (program : Program) (plan : Plan) (count : ℕ) : Type 0 where
  pub within : (p : ℕ) → p < length program.procs → group plan p < count
  pub one : (p q : ℕ) → p < length program.procs → q < length program.procs
      → (group plan p ≡ group plan q) ↔ InOneGroup program p q
  pub falls : (p q : ℕ) → Calls program p q → group plan q ≤ group plan p
  pub members : (g q : ℕ) → Contains (members_of plan g) q
      ↔ ((q < length program.procs) × (group plan q ≡ g))
  pub in_order : (g : ℕ) → IsAscending (members_of plan g)
  pub called : (p q : ℕ) → Calls program p q → Contains (row_of plan (group plan p)) q
  pub callers : (g q : ℕ) → Contains (row_of plan g) q → (p : ℕ) × (group plan p ≡ g)
      × Calls program p q

-- ---- the state

-- which groups have come, which wait at each group, and which procedures are the first of a group
-- that is ready
pub record Stage : Type 0 where
  pub come : List Bool
  pub waiting : List (List ℕ)
  pub next : List ℕ
  pub ready : ℕ → Bool

-- a group has come; one past the end has not
abbrev pub flag : List Bool → ℕ → Bool
flag come g = slice_index_or come g false

-- the groups that wait at a group; [] past the end
abbrev pub waiters : Stage → ℕ → List ℕ
waiters s g = slice_index_or s.waiting g []

-- a group need not wait at a procedure
abbrev pub IsPast : Plan → List Bool → ℕ → ℕ → Type 0
IsPast plan come g q = (group plan q ≡ g) ⊎ (flag come (group plan q) ≡ true)

-- a group waits at one of another group, that has not come
pub record Waits (plan : Plan) (s : Stage) (g : ℕ) : Type 0 where
  pub at : ℕ
  pub called : Contains (row_of plan g) at
  pub other : group plan at ≡ g → ⊥
  pub late : flag s.come (group plan at) ≡ false
  pub waits : Contains (waiters s (group plan at)) g

-- a procedure is the first of a group that has not come and need not wait at anything it calls
pub record IsFirst (program : Program) (plan : Plan) (come : List Bool) (f : ℕ) : Type 0 where
  pub there : f < length program.procs
  pub first : first_of plan (group plan f) ≡ f
  pub late : flag come (group plan f) ≡ false
  pub past : (q : ℕ) → Contains (row_of plan (group plan f)) q → IsPast plan come (group plan f) q

-- what holds between the turns, but for groups that are still to be looked at
pub record Stands (program : Program) (plan : Plan) (count : ℕ) (s : Stage)
    (todo : List ℕ) : Type 0 where
  pub all : length s.come ≡ count
  pub ready : (f : ℕ) → s.ready f ≡ true → IsFirst program plan s.come f
  pub waits : (p : ℕ) → p < length program.procs → flag s.come (group plan p) ≡ false
      → (s.ready (first_of plan (group plan p)) ≡ true)
      ⊎ (Waits plan s (group plan p) ⊎ Contains todo (group plan p))
  pub closed : (p q : ℕ) → flag s.come (group plan p) ≡ true → Calls program p q
      → flag s.come (group plan q) ≡ true

-- ---- one group that is looked at

-- a number is in a list
abbrev pub mem : List ℕ → ℕ → Bool
mem [] f = false
mem (k ∷ ks) f = (k == f) || mem ks f

-- the state that an order in memory has come to
abbrev pub stage_of : Order → Stage
stage_of o = record {
  come = o.come.items;
  waiting = o.waiting.items;
  next = o.next.items;
  ready = mem o.ready.keys;
}

-- a group need not wait at a procedure: it is one of its own, or of a group that has come
abbrev pub is_past : List ℕ → List Bool → ℕ → ℕ → Bool
is_past groups come g q = (group_at groups q == g) || flag come (group_at groups q)

-- from a place of a row on all are past, up to the next place
pub record IsBlocked (groups : List ℕ) (come : List Bool) (row : List ℕ)
    (g from at : ℕ) : Type 0 where
  pub past : (i : ℕ) → from ≤ i → i < at → is_past groups come g (slice_index_or row i 0) ≡ true
  pub stop : at < length row → is_past groups come g (slice_index_or row at 0) ≡ false

-- the calls of a group are past up to the place where it goes on
abbrev pub ArePast : Plan → Stage → Type 0
ArePast plan s = (g i : ℕ) → i < slice_index_or s.next g 0 → i < length (row_of plan g)
    → is_past plan.groups s.come g (slice_index_or (row_of plan g) i 0) ≡ true

-- a group was looked at: if it has not come it is ready or waits, and no other group has changed
pub record Settled (plan : Plan) (s t : Stage) (g : ℕ) : Type 0 where
  pub come : t.come ≡ s.come
  pub past : ArePast plan t
  pub as_many : length t.waiting ≡ length s.waiting
  pub places : length t.next ≡ length s.next
  pub kept : (f : ℕ) → s.ready f ≡ true → t.ready f ≡ true
  pub added : (f : ℕ) → t.ready f ≡ true → (s.ready f ≡ true)
      ⊎ ((f ≡ first_of plan g) × (flag s.come g ≡ false)
      × ((q : ℕ) → Contains (row_of plan g) q → IsPast plan s.come g q))
  pub waiting : (d x : ℕ) → Contains (waiters s d) x → Contains (waiters t d) x
  pub waits : (d x : ℕ) → Contains (waiters t d) x → Contains (waiters s d) x ⊎ (x ≡ g)
  pub now : flag s.come g ≡ false → (t.ready (first_of plan g) ≡ true) ⊎ Waits plan t g

-- the groups that a row leads to have places
abbrev pub AreWithin : Plan → Stage → ℕ → Type 0
AreWithin plan s g = (q : ℕ) → Contains (row_of plan g) q → group plan q < length s.waiting

-- ---- between the turns

-- what holds between the turns, with the sizes of the tables, but for groups that are still to be
-- looked at
pub record Going (program : Program) (plan : Plan) (s : Stage) (todo : List ℕ) : Type 0 where
  pub count : ℕ
  pub plans : IsPlan program plan count
  pub stands : Stands program plan count s todo
  pub past : ArePast plan s
  pub waiting : length s.waiting ≡ count
  pub next : length s.next ≡ count
  pub some : (g : ℕ) → Contains todo g → (p : ℕ) × (p < length program.procs) × (group plan p ≡ g)
  pub waiters : (d g : ℕ) → Contains (slice_index_or s.waiting d []) g
      → (p : ℕ) × (p < length program.procs) × (group plan p ≡ g)

-- whether a row leads back into its own group
abbrev pub leads_back : List ℕ → ℕ → List ℕ → Bool
leads_back groups g [] = false
leads_back groups g (q ∷ row) = (group_at groups q == g) || leads_back groups g row

-- no group has come
abbrev pub NoneCame : Stage → Type 0
NoneCame s = (g : ℕ) → flag s.come g ≡ false

-- ---- the beginning

-- so many places that are 0
abbrev pub zeros : ℕ → List ℕ
zeros zero = []
zeros (suc n) = 0 ∷ zeros n

-- the state before the first turn: of so many groups none has come, waits or is ready
abbrev pub at_first : ℕ → Stage
at_first count = record {
  come = no_bits count;
  waiting = empty_rows count;
  next = zeros count;
  ready = mem [];
}
