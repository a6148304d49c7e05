-- Certificate files and edit scripts, read from JSON.
use Rattle.std.specs.Prelude.{ℕ, Option, None, Some, Result, Ok, Err, List, codes, length, nat_le, nat_lt, ◌==◌, if◌then◌else◌}
use Rattle.std.specs.List.{range_with_len}
use Rattle.std.specs.Str.{is_utf8}
use Rattle.items.specs.Gives.{◌>>=◌, err_map}
use Rattle.serde_json.specs.Data.{Data, Items}
use Rattle.serde_json.specs.Events.{items_len}
use Rattle.serde_json.specs.Find.{get, as_array, as_object}
use Rattle.serde_json.specs.Read.{read}
use Rattle.wire.specs.declared.certificate.Certificate.{Certificate}
use Rattle.wire.specs.declared.certificate.Version.{Version}
use Rattle.wire.specs.declared.certificate.Version.TheVariants.{First, Second}
use Rattle.wire.specs.declared.error.WireError.{WireError}
use Rattle.wire.specs.declared.error.WireError.TheVariants.{Json, Shape, Version as UnknownVersion}
use Rattle.wire.specs.declared.script.Edit.{Edit}
use Rattle.wire.specs.declared.script.Script.{Script}
use Rattle.wire.specs.Answers.{answer}
use Rattle.wire.specs.Shapes.{Path, Reading, field, items_from, list, member_path, natural, or_wrong, small, text, under}

-- a part that is wrong makes the file's shape wrong
abbrev pub with_shape_error : {A : Type 0} → Result A Path → Result A WireError
with_shape_error read = err_map Shape read

-- ---- JSON (RFC 8259), in UTF-8

-- the value that was read; without one the bytes are no JSON
abbrev pub if_json : Option Data → Result Data WireError
if_json (Some d) = Ok d
if_json None = Err Json

-- the JSON value of the bytes of a file, where they are UTF-8
unfoldable pub json_of : List ℕ → Result Data WireError
json_of bytes = if is_utf8 bytes then if_json (read bytes) else Err Json

-- ---- texts of programs

-- the most bytes of a program's text
abbrev pub most_text : ℕ
most_text = 1048576

-- a text that is no longer than a program's may be; None where it is longer
abbrev pub if_short : List ℕ → Option (List ℕ)
if_short t = if nat_le (length t) most_text then Some t else None

-- the text of a program, as its bytes
abbrev pub source : Reading (List ℕ)
source d = text d >>= λ t. or_wrong (if_short t)

-- ---- certificate files

-- the version with this number
abbrev pub version_numbered : ℕ → Result Version WireError
version_numbered n = if n == 1 then Ok First
    else (if n == 2 then Ok Second else Err (UnknownVersion n))

-- a file without a version is of the first
abbrev pub version_if_any : Option Data → Result Version WireError
version_if_any None = Ok First
version_if_any (Some d) = with_shape_error (under (member_path (codes "version")) (natural d))
    >>= version_numbered

-- the version of a certificate file, which is an object; the first where it names none
abbrev pub version_of : Data → Result Version WireError
version_of d = with_shape_error (or_wrong (as_object d)) >>= λ members. version_if_any
    (get (codes "version") d)

-- a place below a number of answers
abbrev pub if_below : ℕ → ℕ → Option ℕ
if_below count n = if nat_lt n count then Some n else None

-- the place of an answer, from 0, below the number of answers
abbrev pub place : ℕ → Reading ℕ
place count d = natural d >>= λ n. or_wrong (if_below count n)

-- which answer each question has: in the first version each its own
abbrev pub order_of : Version → ℕ → Reading (List ℕ)
order_of First count d = Ok (range_with_len 0 count)
order_of Second count d = field (codes "order") (list (place count)) d

-- a certificate file of this version, read in the order of text, report, answers and order
abbrev pub certificate_from : Version → Reading Certificate
certificate_from version d = field (codes "text") source d >>= λ program. field (codes "report")
    text d
    >>= λ report. field (codes "answers") (list answer) d >>= λ answers. order_of version
    (length answers) d
    >>= λ order. Ok record {
      version = version;
      text = program;
      report = report;
      answers = answers;
      order = order;
    }

-- the version is looked at before all else
abbrev pub certificate_in : Data → Result Certificate WireError
certificate_in d = version_of d >>= λ version. with_shape_error (certificate_from version d)

-- the certificate file with these bytes, or what is wrong with it
abbrev pub certificate_of : List ℕ → Result Certificate WireError
certificate_of bytes = json_of bytes >>= certificate_in

-- ---- edit scripts: a text, and edits that are made one after the other

-- the most edits of a script
abbrev pub most_edits : ℕ
most_edits = 1000

-- an edit: its place, how many bytes it removes, and the text that it inserts there
abbrev pub edit : Reading Edit
edit d = field (codes "at") small d >>= λ at. field (codes "remove") small d
    >>= λ remove. field (codes "insert") text d
    >>= λ insert. Ok record { at = at; remove = remove; insert = insert }

-- the list itself is wrong where it is too long, before any of its edits is looked at
abbrev pub if_few : Items → Option Items
if_few ds = if nat_le (items_len ds) most_edits then Some ds else None

-- the edits of a list that is not too long, in order
abbrev pub few_edits : Items → Result (List Edit) Path
few_edits ds = or_wrong (if_few ds) >>= λ few. items_from edit 0 few

-- the list of edits of a script, in order
abbrev pub edits : Reading (List Edit)
edits d = or_wrong (as_array d) >>= few_edits

-- an edit script: its text is read before its edits
abbrev pub script : Reading Script
script d = field (codes "text") source d >>= λ program. field (codes "edits") edits d
    >>= λ edits. Ok record {
      text = program;
      edits = edits;
    }

-- the edit script with these bytes, or what is wrong with it
abbrev pub script_of : List ℕ → Result Script WireError
script_of bytes = json_of bytes >>= λ d. with_shape_error (script d)
