-- What one execution is followed on: a text, the values that its choices take, and the most steps.
use Rattle.std.specs.Prelude.{ℕ, ℤ, Option, None, Some, Result, Ok, List, codes, ◌&&◌, nat_le, if◌then◌else◌}
use Rattle.items.specs.Gives.{◌>>=◌}
use Rattle.serde_json.specs.Data.{Items}
use Rattle.serde_json.specs.Events.{items_len}
use Rattle.serde_json.specs.Find.{as_array}
use Rattle.wire.specs.declared.error.WireError.{WireError}
use Rattle.wire.specs.declared.input.Input.{Input}
use Rattle.wire.specs.Files.{json_of, with_shape_error, source}
use Rattle.wire.specs.Numbers.{whole}
use Rattle.wire.specs.Shapes.{Path, Reading, field, items_from, or_wrong, small}

-- the most values that an input lists
abbrev pub most_values : ℕ
most_values = 100000

-- the most steps that an input may ask for
abbrev pub most_turns : ℕ
most_turns = 100000

-- the list itself is wrong where it is too long, before any of its values is looked at
abbrev pub if_not_too_many : Items → Option Items
if_not_too_many ds = if nat_le (items_len ds) most_values then Some ds else None

-- the values of a list that is not too long, in order
abbrev pub listed_values : Items → Result (List ℤ) Path
listed_values ds = or_wrong (if_not_too_many ds) >>= λ few. items_from whole 0 few

-- the list of the values of choices, in order
abbrev pub values : Reading (List ℤ)
values d = or_wrong (as_array d) >>= listed_values

-- a number of steps from 1 to `most_turns`; None for any other
abbrev pub if_turns : ℕ → Option ℕ
if_turns n = if nat_le 1 n && nat_le n most_turns then Some n else None

-- the most steps that are to be made
abbrev pub turns : Reading ℕ
turns d = small d >>= λ n. or_wrong (if_turns n)

-- an input: its text is read first, then its values, then its steps
abbrev pub input : Reading Input
input d = field (codes "text") source d >>= λ text. field (codes "values") values d >>= λ values.
    field (codes "turns") turns d >>= λ turns. Ok record {
      text = text;
      values = values;
      turns = turns;
    }

-- the input with these bytes, or what is wrong with it
abbrev pub input_of : List ℕ → Result Input WireError
input_of bytes = json_of bytes >>= λ d. with_shape_error (input d)
