-- What a source and a sink over memory are, and when a call of theirs fails.
use Rattle.std.specs.Prelude.{ℕ, Bool, List, ◌==◌, ◌&&◌, ◌||◌, nat_lt, ◌-◌, min, length, take, drop, ◌++◌}
use Rattle.std.specs.List.{list_any}
use Rattle.whole_numbers.specs.Counters.{next_count}

-- a source over memory: the bytes left, the most that one read gives, the numbers (from 0) of the
-- reads that fail, how many reads there were, and how many of them failed
pub record Reading : Type 0 where
  pub left : List ℕ
  pub most : ℕ
  pub fails : List ℕ
  pub calls : ℕ
  pub faults : ℕ

-- a sink over memory: the bytes taken, the room left, the most that one write takes, the numbers
-- (from 0) of the writes that fail, how many writes there were, and how many of them failed
pub record Writing : Type 0 where
  pub taken : List ℕ
  pub room : ℕ
  pub most : ℕ
  pub fails : List ℕ
  pub calls : ℕ
  pub faults : ℕ

-- whether the call with this number is one of those that fail
abbrev pub is_failing : List ℕ → ℕ → Bool
is_failing fails call = list_any (λ number. number == call) fails

-- how many bytes a read that does not fail gives, into a buffer of this length
abbrev pub given_count : Reading → ℕ → ℕ
given_count s len = min len (min s.most (length s.left))

-- whether the write of a piece of this length fails: it is one of those that fail, or there is no
-- room for a byte of it
abbrev pub is_refused : Writing → ℕ → Bool
is_refused s len = is_failing s.fails s.calls || (nat_lt 0 len && s.room == 0)

-- how many bytes a write that does not fail takes, of a piece of this length
abbrev pub taken_count : Writing → ℕ → ℕ
taken_count s len = min len (min s.most s.room)

-- the source after a read that gave n bytes, which are gone from its front
abbrev pub after_read : Reading → ℕ → Reading
after_read s n = record s { left = drop n s.left; calls = next_count s.calls }

-- the source after a read that failed: its bytes are as they were, and a fault is counted
abbrev pub after_failed_read : Reading → Reading
after_failed_read s = record s { calls = next_count s.calls; faults = next_count s.faults }

-- the sink after a write that took the first n bytes of a piece
abbrev pub after_write : Writing → List ℕ → ℕ → Writing
after_write s piece n =
    record s { taken = s.taken ++ take n piece; room = s.room - n; calls = next_count s.calls }

-- the sink after a write that failed: it took nothing, and a fault is counted
abbrev pub after_failed_write : Writing → Writing
after_failed_write s = record s { calls = next_count s.calls; faults = next_count s.faults }
