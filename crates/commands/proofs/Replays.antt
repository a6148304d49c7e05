-- Inputs on which an execution is followed: their texts are short, and what a trace and a refusal
-- answer to them.
use Rattle.std.proofs.Common.{◌≡◌, ◌≤◌, ℕ, ℤ, Bool, true, false, List, length, Option, Some, Result, Ok, Err, codes, refl, subst, ap, ◌∙◌, inl}
use Rattle.std.proofs.lemmas.Bool.{leb-true}
use Rattle.std.specs.Prelude.{None, IfOk, nat_le, if◌then◌else◌}
use Rattle.items.specs.Gives.{◌>>=◌, err_map}
use Rattle.items.proofs.Gives.{on_ok}
use Rattle.serde_json.specs.Data.{Data}
use Rattle.syntax_tree.specs.declared.program.Program.{Program}
use Rattle.replay.specs.declared.trace.Trace.{Trace}
use Rattle.wire.specs.declared.error.WireError.TheVariants.{Shape}
use Rattle.wire.specs.declared.input.Input.{Input}
use Rattle.wire.specs.Files.{if_short, json_of, most_text, with_shape_error, source}
use Rattle.wire.specs.Inputs.{input, input_of, turns, values}
use Rattle.wire.specs.Shapes.{Reading, field, member_of, member_path, or_wrong, text, under}
use Rattle.commands.specs.declared.reply.Reply.{Reply}
use Rattle.commands.specs.Replay.{IsFollowed, IsTraceOf, trace_reply}

pub lifted-ok : {A E F : Type 0} (as_fault : E → F) (r : Result A E) (x : A) → err_map as_fault r ≡ Ok x → r ≡ Ok x
lifted-ok as_fault (Ok y) x e = let same : y ≡ x = cc in ap (λ v. Ok v) same
lifted-ok as_fault (Err d) x e = cc

or_wrong-ok : {A : Type 0} (o : Option A) (x : A) → or_wrong o ≡ Ok x → o ≡ Some x
or_wrong-ok (Some y) x e = let same : y ≡ x = cc in ap (λ v. Some v) same
or_wrong-ok None x e = cc

short-where : (b : Bool) (t u : List ℕ) → nat_le (length t) most_text ≡ b → (if b then Some t else None) ≡ Some u → length u ≤ most_text
short-where true t u e is = let same : t ≡ u = cc in subst (λ t. length t ≤ most_text) same (leb-true (length t) most_text e)
short-where false t u e is = absurd (cc is)

pub source-short : (d : Data) (t : List ℕ) → source d ≡ Ok t → length t ≤ most_text
source-short d t e = on_ok (text d) (λ u. or_wrong (if_short u)) t e (λ u from is. short-where _ u t refl (or_wrong-ok (if_short u) t is))

pub field-ok : {A : Type 0} (key : List ℕ) (reads : Reading A) (d : Data) (x : A) → field key reads d ≡ Ok x → (value : Data) × (reads value ≡ Ok x)
field-ok key reads d x e =
    on_ok (member_of key d) (λ value. under (member_path key) (reads value)) x e (λ value from is. (value, lifted-ok _ (reads value) x is))

abbrev made : List ℕ → List ℤ → ℕ → Input
made text values turns = record { text = text; values = values; turns = turns }

input-short : (d : Data) (i : Input) → input d ≡ Ok i → length i.text ≤ most_text
input-short d i e =
    on_ok (field (codes "text") source d) (λ t. field (codes "values") values d >>= λ vs. field (codes "turns") turns d >>= λ n. Ok (made t vs n)) i e (λ t from more.
    on_ok (field (codes "values") values d) (λ vs. field (codes "turns") turns d >>= λ n. Ok (made t vs n)) i more (λ vs from_values last.
    on_ok (field (codes "turns") turns d) (λ n. Ok (made t vs n)) i last (λ n from_turns is.
    let same : made t vs n ≡ i = cc in
    let place = field-ok (codes "text") source d t from in
    subst (λ i. length i.text ≤ most_text) same (source-short place.0 t place.1))))

pub short_input : (bytes : List ℕ) (i : Input) → input_of bytes ≡ Ok i → length i.text ≤ most_text
short_input bytes i e = on_ok (json_of bytes) (λ d. with_shape_error (input d)) i e (λ d from is. input-short d i (lifted-ok Shape (input d) i is))

-- ---- answers

pub trace-answers : {E : Type 0} (result : Result Reply E) (input : Input) (program : Program) (trace : Trace) (text : List ℕ) → text ≡ input.text → IsFollowed input program trace
    → IfOk result (λ reply. reply ≡ trace_reply text program trace) → IfOk result (IsTraceOf input)
trace-answers (Ok reply) input program trace text same followed e = inl (program, trace, followed, e ∙ ap (λ text. trace_reply text program trace) same)
trace-answers (Err error) input program trace text same followed e = e
