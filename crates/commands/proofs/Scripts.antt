-- The texts of a script are within the limit.
use Rattle.std.proofs.Common.{◌≡◌, ◌≤◌, ◌+◌, ℕ, Bool, true, false, List, [], ◌∷◌, length, Result, Ok, Err, refl, sym, ap, subst}
use Rattle.std.proofs.lemmas.Bool.{leb-true}
use Rattle.std.proofs.lemmas.List.Elements.{All-from_recursion}
use Rattle.std.specs.List.{AllByRecursion}
use Rattle.std.specs.Prelude.{◌&&◌, IfOk, codes, nat_le, if◌then◌else◌}
use Rattle.items.specs.Gives.{◌>>=◌, Gives}
use Rattle.items.proofs.Gives.{on_ok}
use Rattle.serde_json.specs.Data.{Data}
use Rattle.wire.specs.declared.error.WireError.{WireError}
use Rattle.wire.specs.declared.error.WireError.TheVariants.{Edit as Impossible, Shape}
use Rattle.wire.specs.declared.script.Edit.{Edit}
use Rattle.wire.specs.declared.script.Script.{Script}
use Rattle.wire.specs.Edits.{is_inside, text_after, texts_after, texts_of, with_edit}
use Rattle.wire.specs.Files.{edits, json_of, most_text, script, script_of, with_shape_error, source}
use Rattle.wire.specs.Errors.{fault}
use Rattle.wire.specs.Shapes.{field}
use Rattle.commands.specs.Edit.{versions_in}
use Rattle.commands.specs.Editing.{AreShort}
use Rattle.commands.proofs.Replays.{field-ok, lifted-ok, source-short}

abbrev IsShort : List ℕ → Type 0
IsShort text = length text ≤ most_text

-- ---- the first text

abbrev made_of : List ℕ → List Edit → Script
made_of text edits = record { text = text; edits = edits }

script-short : (d : Data) (s : Script) → script d ≡ Ok s → IsShort s.text
script-short d s e =
    on_ok (field (codes "text") source d) (λ t. field (codes "edits") edits d >>= λ es. Ok (made_of t es)) s e (λ t from more.
    on_ok (field (codes "edits") edits d) (λ es. Ok (made_of t es)) s more (λ es from_edits is.
    let same : made_of t es ≡ s = cc in
    let place = field-ok (codes "text") source d t from in
    subst (λ (s : Script). IsShort s.text) same (source-short place.0 t place.1)))

-- ---- and those after edits

where-short : (inside short : Bool) (number : ℕ) (made next : List ℕ) → nat_le (length made) most_text ≡ short
    → (if inside && short then Ok made else Err (Impossible number)) ≡ Ok next → IsShort next
where-short true true number made next e is = let same : made ≡ next = cc in subst IsShort same (leb-true (length made) most_text e)
where-short true false number made next e is = absurd (cc is)
where-short false short number made next e is = absurd (cc is)

after-short : (number : ℕ) (text : List ℕ) (edit : Edit) (next : List ℕ) → text_after number text edit ≡ Ok next → IsShort next
after-short number text edit next is = where-short (is_inside text edit) _ number (with_edit text edit) next refl is

edited-short : (number : ℕ) (text : List ℕ) (edits : List Edit) (made : List (List ℕ)) → texts_after number text edits ≡ Ok made → AllByRecursion IsShort made
edited-short number text [] made e = let same : [] ≡ made = cc in subst (AllByRecursion IsShort) same tt
edited-short number text (edit ∷ edits) made e =
    on_ok (text_after number text edit) (λ next. texts_after (number + 1) next edits >>= λ more. Ok (next ∷ more)) made e (λ next from rest.
    on_ok (texts_after (number + 1) next edits) (λ more. Ok (next ∷ more)) made rest (λ more from_more is.
    let same : next ∷ more ≡ made = cc in
    subst (AllByRecursion IsShort) same (after-short number text edit next from, edited-short (number + 1) next edits more from_more)))

texts-short : (s : Script) (made : List (List ℕ)) → IsShort s.text → texts_of s ≡ Ok made → AllByRecursion IsShort made
texts-short s made short e =
    on_ok (texts_after 1 s.text s.edits) (λ more. Ok (s.text ∷ more)) made e (λ more from is.
    let same : s.text ∷ more ≡ made = cc in
    subst (AllByRecursion IsShort) same (short, edited-short 1 s.text s.edits more from))

pub versions-short : (bytes : List ℕ) (made : List (List ℕ)) → versions_in bytes ≡ Ok made → AreShort made
versions-short bytes made e =
    on_ok (script_of bytes) texts_of made e (λ s from is.
    on_ok (json_of bytes) (λ d. with_shape_error (script d)) s from (λ d from_json read.
    record { each = All-from_recursion IsShort made (texts-short s made (script-short d s (lifted-ok Shape (script d) s read)) is) }))

-- what a call gives that reads the versions
given-short : (bytes : List ℕ) (result : Result (List (List ℕ)) WireError) → Gives fault (λ x. x) result (versions_in bytes) → IfOk result AreShort
given-short bytes (Ok made) gives = versions-short bytes made gives
given-short bytes (Err e) gives = tt

pub read-short : (bytes : List ℕ) (s : Script) (result : Result (List (List ℕ)) WireError) → script_of bytes ≡ Ok s → Gives fault (λ x. x) result (texts_of s) → IfOk result AreShort
read-short bytes s result read gives = given-short bytes result (subst (Gives fault (λ x. x) result) (ap (λ (r : Result Script WireError). r >>= texts_of) (sym read)) gives)
