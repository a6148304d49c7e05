-- The state of a path-based depth-first search (Gabow 2000), and what it keeps.
use Rattle.std.specs.Prelude.{◌≡◌, ℕ, zero, suc, ◌+◌, ◌-◌, ◌<◌, ◌≤◌, ◌⊎◌, nat_le, nat_lt, ◌&&◌, Bool, true, false, List, [], ◌∷◌, ◌++◌, length, slice_index_or, slice_set, take, map, if◌then◌else◌}
use Rattle.std.specs.List.{Contains, count_by}
use Rattle.flow_graph.specs.declared.components.NumberMark.{NumberMark}
use Rattle.flow_graph.specs.declared.components.NumberMark.TheVariants.{New, OnPath, Done}
use Rattle.flow_graph.specs.declared.components.Search.{Search}
use Rattle.flow_graph.specs.Reaching.{Calls, Reaches}

-- how far each number is, the numbers on the path, the places of the path at which its groups
-- start, and how many groups are done
pub record State : Type 0 where
  pub marks : List NumberMark
  pub path : List ℕ
  pub starts : List ℕ
  pub groups : ℕ

-- the state that a search in memory has come to
abbrev pub state_of : Search → State
state_of s = record {
  marks = s.marks.items;
  path = s.path.items;
  starts = s.starts.items;
  groups = s.groups;
}

-- the search has not come to a number with this mark
abbrev pub is_new : NumberMark → Bool
is_new New = true
is_new (OnPath at) = false
is_new (Done group) = false

-- how far a number is; new past the end
abbrev pub mark_of : State → ℕ → NumberMark
mark_of s p = slice_index_or s.marks p New

-- the number at a place of the path, from 0; 0 past the end
abbrev pub on_path : State → ℕ → ℕ
on_path s at = slice_index_or s.path at 0

-- ---- the steps

-- a number put at the end of the path, as a group of its own
abbrev pub after_entry : State → ℕ → State
after_entry s p = record {
  marks = slice_set s.marks p (OnPath (length s.path));
  path = s.path ++ p ∷ [];
  starts = s.starts ++ length s.path ∷ [];
  groups = s.groups;
}

-- a mark behind a group that is done: the places of the path from `at` on, and below `end`
abbrev pub left_mark : ℕ → ℕ → ℕ → NumberMark → NumberMark
left_mark at end groups New = New
left_mark at end groups (OnPath place) = if nat_le at place && nat_lt place end then Done groups
    else OnPath place
left_mark at end groups (Done group) = Done group

-- the last group of the path, which starts at a place, is done
abbrev pub after_leaving : State → ℕ → State
after_leaving s at = record {
  marks = map (left_mark at (length s.path) s.groups) s.marks;
  path = take at s.path;
  starts = take (length s.starts - 1) s.starts;
  groups = s.groups + 1;
}

-- the state with other starts of groups on the path
abbrev pub with_starts : State → List ℕ → State
with_starts s starts = record s { starts = starts }

-- ---- what it keeps

-- each is less than the next
abbrev pub IsAscending : List ℕ → Type 0
IsAscending xs = (i j : ℕ) → i < j → j < length xs → slice_index_or xs i 0 < slice_index_or xs j 0

-- no group starts behind `before` and up to `at`: `at` stands in no later group than `before`
abbrev pub IsJoined : State → ℕ → ℕ → Type 0
IsJoined s at before = (start : ℕ) → Contains s.starts start → before < start → start ≤ at → ⊥

-- the marks and the path say the same, and the path begins with a group
pub record IsMarked (s : State) : Type 0 where
  pub placed : (at : ℕ) → at < length s.path → mark_of s (on_path s at) ≡ OnPath at
  pub stands : (p at : ℕ) → mark_of s p ≡ OnPath at → (at < length s.path) × (on_path s at ≡ p)
  pub begun : 0 < length s.path → Contains s.starts 0
  pub within : (start : ℕ) → Contains s.starts start → start < length s.path
  pub ascending : IsAscending s.starts

-- what the search keeps: marks and path agree, each place of the path reaches the later ones, and
-- each group that is done is strongly connected and calls no later one
pub record IsSound (calls : List (List ℕ)) (s : State) : Type 0 where
  pub marked : IsMarked s
  -- each place of the path reaches all later ones, and those of its own group
  pub reaches : (at before : ℕ) → at < length s.path → before < length s.path → IsJoined s at before
      → Reaches calls (on_path s at) (on_path s before)
  -- what is done calls what is done, of its own group or an earlier one, and each group is strongly
  -- connected
  pub closed : (p q group : ℕ) → mark_of s p ≡ Done group → Calls calls p q
      → (other : ℕ) × (mark_of s q ≡ Done other) × (other ≤ group)
  pub strong : (p q group : ℕ) → mark_of s p ≡ Done group → mark_of s q ≡ Done group
      → Reaches calls p q
  pub counted : (p group : ℕ) → mark_of s p ≡ Done group → group < s.groups
  pub some : (group : ℕ) → group < s.groups → (p : ℕ) × (mark_of s p ≡ Done group)
  pub few : s.groups + length s.path + count_by is_new s.marks ≤ length s.marks

-- a later state of the search, with the same path and more behind it
pub record Follows (s t : State) : Type 0 where
  pub longer : length s.path ≤ length t.path
  pub same : (at : ℕ) → at < length s.path → on_path t at ≡ on_path s at
  pub starts : (start : ℕ) → Contains t.starts start → Contains s.starts start
  pub done : (p group : ℕ) → mark_of s p ≡ Done group → mark_of t p ≡ Done group
  pub kept : (p at : ℕ) → mark_of s p ≡ OnPath at → mark_of t p ≡ OnPath at
  pub fewer : count_by is_new t.marks ≤ count_by is_new s.marks
  pub all : length t.marks ≡ length s.marks

-- a call from a place of the path leads to a number of the path, and to no earlier group
pub record IsOnLater (s : State) (at q : ℕ) : Type 0 where
  pub place : ℕ
  pub marked : mark_of s q ≡ OnPath place
  pub joined : IsJoined s at place

-- a call from a place of the path is taken into account: it leads to what is done, or to no earlier
-- group
abbrev pub IsSettled : State → ℕ → ℕ → Type 0
IsSettled s at q = ((group : ℕ) × (mark_of s q ≡ Done group)) ⊎ IsOnLater s at q

-- all calls from the places of the path from `from` on are taken into account
abbrev pub AreSettled : List (List ℕ) → State → ℕ → Type 0
AreSettled calls s from = (at q : ℕ) → from ≤ at → at < length s.path → Calls calls (on_path s at) q
    → IsSettled s at q

-- the starts up to a place are left
pub record IsCut (old new : List ℕ) (place : ℕ) : Type 0 where
  pub from : (start : ℕ) → Contains new start → Contains old start
  pub rest : (start : ℕ) → Contains old start → start ≤ place → Contains new start
  pub low : (start : ℕ) → Contains new start → start ≤ place
  pub ascending : IsAscending new

-- no group of the path starts behind a place
abbrev pub AreLow : State → ℕ → Type 0
AreLow s at = (start : ℕ) → Contains s.starts start → start ≤ at

-- the place of the path at which its last group starts; 0 where the path is empty
abbrev pub last_start : State → ℕ
last_start s = slice_index_or s.starts (length s.starts - 1) 0

-- ---- one search

-- how a number stands behind the search from it: done, or on the path from a place on
abbrev pub IsSeen : State → ℕ → ℕ → Type 0
IsSeen s p from = ((group : ℕ) × (mark_of s p ≡ Done group))
    ⊎ ((place : ℕ) × (mark_of s p ≡ OnPath place) × (from ≤ place))

-- the search from a number that was new: what is behind the path that was there is taken into
-- account
pub record Visited (calls : List (List ℕ)) (s t : State) (p : ℕ) : Type 0 where
  pub sound : IsSound calls t
  pub follows : Follows s t
  pub settled : AreSettled calls t (length s.path)
  pub seen : IsSeen t p (length s.path)

-- all that is called is a number
abbrev pub AreNumbers : List (List ℕ) → ℕ → Type 0
AreNumbers calls n = (p q : ℕ) → Calls calls p q → q < n

-- each place of the path reaches a number
abbrev pub AllReach : List (List ℕ) → State → ℕ → Type 0
AllReach calls s p = (at : ℕ) → at < length s.path → Reaches calls (on_path s at) p

-- ---- all searches

-- the marks of so many numbers to which no search has come
abbrev pub all_new : ℕ → List NumberMark
all_new zero = []
all_new (suc n) = New ∷ all_new n

-- the state before the first search: so many new numbers and an empty path
abbrev pub fresh : ℕ → State
fresh n = record { marks = all_new n; path = []; starts = []; groups = 0 }

-- the component of a number that is done
abbrev pub group_in : NumberMark → ℕ
group_in New = 0
group_in (OnPath at) = 0
group_in (Done group) = group

-- the first numbers are done, and the path is empty
pub record AreDone (calls : List (List ℕ)) (s : State) (k : ℕ) : Type 0 where
  pub sound : IsSound calls s
  pub empty : length s.path ≡ 0
  pub all : length s.marks ≡ length calls
  pub done : (p : ℕ) → p < k → (group : ℕ) × (mark_of s p ≡ Done group)
