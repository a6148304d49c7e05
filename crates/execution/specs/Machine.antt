-- The machine on which a program of the core runs: the values of the globals, and a stack of
-- frames, one for each call that has not returned (C11 6.2.4, 6.8). It has no memory beside them,
-- and its numbers have no bound.
use Rattle.std.specs.Prelude.{ℕ, ℤ, pos, ◌-◌, Bool, Option, List, [], ◌∷◌, ◌++◌, length, take, drop, slice_index_or}
use Rattle.syntax_tree.specs.Term.{Term}
use Rattle.syntax_tree.specs.Code.{Statement, Code, End, Then}
use Rattle.syntax_tree.specs.Value.{State}

-- A loop that was begun. It does `pre`, tests `cond`, does `body` and then `step`, and so on; where
-- `first` holds, as in `do .. while`, it begins with `body` and has no `step` (C11 6.8.5).
pub record LoopParts : Type 0 where
  pub pre : Code
  pub cond : Term
  pub body : Code
  pub step : Code
  pub first : Bool

-- What a frame has still to do: a statement, or of a loop what comes before its `pre`, before its
-- test, or after its body.
pub data Item : Type 0 where
  Do : (statement : Statement) → Item
  Head : (loop : LoopParts) → Item
  Test : (loop : LoopParts) → Item
  Tail : (loop : LoopParts) → Item

-- A call that has not returned: its procedure, the values of its columns past the globals, of which
-- the last is the value that it returns, what it has still to do, and the column of its caller that
-- awaits its value.
pub record Frame : Type 0 where
  pub proc : ℕ
  pub own : State
  pub items : List Item
  pub into : Option ℕ

-- the globals, and the frames, the top one first
pub record Config : Type 0 where
  pub globals : State
  pub frames : List Frame

-- a configuration with its top frame apart
pub record Top : Type 0 where
  pub globals : State
  pub frame : Frame
  pub below : List Frame

-- the configuration that has this frame on top
abbrev pub config_of : Top → Config
config_of top = record { globals = top.globals; frames = top.frame ∷ top.below }

-- the values of all columns of the top frame: the globals come first
abbrev pub state_of : Top → State
state_of top = top.globals ++ top.frame.own

-- the statements of a code are done before what is left
abbrev pub pending : Code → List Item → List Item
pending End rest = rest
pending (Then statement code) rest = Do statement ∷ pending code rest

-- what is left after the innermost loop; a well-formed program has the loop
abbrev pub after_loop : List Item → List Item
after_loop [] = []
after_loop (Tail loop ∷ rest) = rest
after_loop (_ ∷ rest) = after_loop rest

-- what is left from the end of the body of the innermost loop on; [] where there is no loop
abbrev pub to_tail : List Item → List Item
to_tail [] = []
to_tail (Tail loop ∷ rest) = Tail loop ∷ rest
to_tail (_ ∷ rest) = to_tail rest

-- the top frame with other items
abbrev pub with_items : Top → List Item → Config
with_items top items = record {
  globals = top.globals;
  frames = record top.frame { items = items } ∷ top.below;
}

-- the top frame with other items and other values of its columns
abbrev pub with_state : Top → State → List Item → Config
with_state top state items = record {
  globals = take (length top.globals) state;
  frames = record top.frame { own = drop (length top.globals) state; items = items } ∷ top.below;
}

-- the value that a frame returns
abbrev pub returned_value : Frame → ℤ
returned_value frame = slice_index_or frame.own (length frame.own - 1) (pos 0)
