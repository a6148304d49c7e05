-- Texts of a script: the first, and the text after each edit.
use Rattle.std.specs.Prelude.{ℕ, ◌+◌, Bool, ◌&&◌, not, Result, Ok, Err, List, [], ◌∷◌, ◌++◌, length, take, drop, nat_le, nat_lt, slice_index, if◌then◌else◌}
use Rattle.items.specs.Gives.{◌>>=◌}
use Rattle.wire.specs.declared.error.WireError.{WireError}
use Rattle.wire.specs.declared.error.WireError.TheVariants.{Edit as Impossible}
use Rattle.wire.specs.declared.script.Edit.{Edit}
use Rattle.wire.specs.declared.script.Script.{Script}
use Rattle.wire.specs.Files.{most_text}

-- a byte inside a character of UTF-8
abbrev pub is_inner : ℕ → Bool
is_inner byte = nat_le 128 byte && nat_lt byte 192

-- a place of the text or its end, and not inside a character
abbrev pub is_boundary : List ℕ → ℕ → Bool
is_boundary text place = nat_le place (length text) && not (is_inner (slice_index text place))

-- the text with the edit made
abbrev pub with_edit : List ℕ → Edit → List ℕ
with_edit text edit = take edit.at text ++ (edit.insert ++ drop (edit.at + edit.remove) text)

-- the edit lies in the text, and splits no character
abbrev pub is_inside : List ℕ → Edit → Bool
is_inside text edit = is_boundary text edit.at && is_boundary text (edit.at + edit.remove)

-- and gives no text that is too long
abbrev pub can_be_made : List ℕ → Edit → Bool
can_be_made text edit = is_inside text edit && nat_le (length (with_edit text edit)) most_text

-- the text after an edit, which has this number
abbrev pub text_after : ℕ → List ℕ → Edit → Result (List ℕ) WireError
text_after number text edit = if can_be_made text edit then Ok (with_edit text edit)
    else Err (Impossible number)

-- the texts after edits, the first of which has this number
abbrev pub texts_after : ℕ → List ℕ → List Edit → Result (List (List ℕ)) WireError
texts_after number text [] = Ok []
texts_after number text (edit ∷ edits) = text_after number text edit
    >>= λ next. texts_after (number + 1) next edits >>= λ more. Ok (next ∷ more)

-- a text, and those after edits
abbrev pub texts_from : List ℕ → List Edit → Result (List (List ℕ)) WireError
texts_from first edits = texts_after 1 first edits >>= λ more. Ok (first ∷ more)

-- all texts of a script
abbrev pub texts_of : Script → Result (List (List ℕ)) WireError
texts_of script = texts_from script.text script.edits
