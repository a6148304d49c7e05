-- Where the notes of a group stand.
--     placed           at its first procedure, and no other notes change
--     blank-clear      at first there are none
--     blocks-noted     the blocks of a report that covers its program have them
use Rattle.std.proofs.Common.{◌≡◌, ℕ, zero, suc, ◌+◌, ◌<◌, ◌≤◌, inl, inr, List, [], ◌∷◌, ◌++◌, Bool, length, refl, sym, ap, ◌∙◌, subst, arith}
use Rattle.std.specs.Prelude.{Option, None, Some, map, replicate, slice_get, slice_set, unwrap_or}
use Rattle.std.specs.List.{AllByRecursion, Contains, flat_map}
use Rattle.std.proofs.lemmas.List.{length-set}
use Rattle.std.proofs.lemmas.List.Elements.{Contains-append_left, Contains-append_right}
use Rattle.farkas_check.specs.declared.answer.Limit.{Limit}
use Rattle.syntax_tree.specs.declared.program.Proc.{Proc}
use Rattle.syntax_tree.specs.declared.program.Program.{Program}
use Rattle.transition_formula.specs.Transition.{Transition}
use Rattle.posing.specs.declared.note.Note.{Note}
use Rattle.flow_graph.proofs.Members.{In, contains_of}
use Rattle.report.specs.declared.blocks.ProcBlock.{ProcBlock}
use Rattle.analysis.specs.Analysis.{block_onto, blocks_by}
use Rattle.analysis.specs.Found.{with_notes_at}
use Rattle.named_limits.specs.Limits.{count, limits_told}
use Rattle.named_limits.specs.Named.{StandAt}
use Rattle.named_limits.proofs.Balance.{count-append, told}
use Rattle.named_limits.proofs.NewGroups.{IsNew}

-- ---- one element

set-there : {X : Type 0} (xs : List X) (i : ℕ) (x : X) → i < length xs → slice_get (slice_set xs i x) i ≡ Some x
set-there [] i x lt = absurd (omega arith)
set-there (z ∷ xs) zero x lt = refl
set-there (z ∷ xs) (suc i) x lt = set-there xs i x (omega arith)

set-other : {X : Type 0} (xs : List X) (i j : ℕ) (x : X) → (i ≡ j → ⊥) → slice_get (slice_set xs i x) j ≡ slice_get xs j
set-other [] i j x other = refl
set-other (z ∷ xs) zero zero x other = absurd (other refl)
set-other (z ∷ xs) zero (suc j) x other = refl
set-other (z ∷ xs) (suc i) zero x other = refl
set-other (z ∷ xs) (suc i) (suc j) x other = set-other xs i j x (λ e. other (ap suc e))

-- the limits that the notes of all procedures tell
abbrev pub all_told : (Limit → Bool) → List (List Note) → ℕ
all_told test noted = count test (flat_map limits_told noted)

set-told : (test : Limit → Bool) (noted : List (List Note)) (i : ℕ) (notes : List Note) → slice_get noted i ≡ Some [] → all_told test (slice_set noted i notes) ≡ all_told test noted + told test notes
set-told test [] i notes e = absurd (cc e)
set-told test (own ∷ noted) zero notes e =
    let none : told test own ≡ 0 = ap (λ o. told test (unwrap_or o [])) e in
    let new = count-append test (limits_told notes) (flat_map limits_told noted) in
    let old = count-append test (limits_told own) (flat_map limits_told noted) in
    omega (arith, none, new, old)
set-told test (own ∷ noted) (suc i) notes e =
    let new = count-append test (limits_told own) (flat_map limits_told (slice_set noted i notes)) in
    let old = count-append test (limits_told own) (flat_map limits_told noted) in
    let rest = set-told test noted i notes e in
    omega (arith, new, old, rest)

each-of : (P : ℕ → Type 0) (xs : List ℕ) → ((x : ℕ) → In xs x → P x) → AllByRecursion P xs
each-of P [] h = tt
each-of P (x ∷ xs) h = (h x (inl refl), each-of P xs (λ y there. h y (inr there)))

-- ---- a group

-- there is a list of notes for each procedure, and those that have not come have none
pub record IsClear (program : Program) (come : List ℕ) (noted : List (List Note)) : Type 0 where
  pub long : length noted ≡ length program.procs
  pub clear : (q : ℕ) → q < length program.procs → (Contains come q → ⊥) → slice_get noted q ≡ Some []

pub record IsPlaced (program : Program) (come procs : List ℕ) (notes : List Note) (noted next : List (List Note)) : Type 0 where
  pub stand : (last : List (List Note)) → ((q : ℕ) → Contains (come ++ procs) q → slice_get last q ≡ slice_get next q) → StandAt last procs notes
  pub kept : (q : ℕ) → Contains come q → slice_get next q ≡ slice_get noted q
  pub clear : IsClear program (come ++ procs) next
  pub sum : (test : Limit → Bool) → all_told test next ≡ all_told test noted + told test notes

pub placed : (program : Program) (come procs : List ℕ) (notes : List Note) (noted : List (List Note)) → IsNew program come procs → IsClear program come noted → IsPlaced program come procs notes noted (with_notes_at procs notes noted)
placed program come [] notes noted new clear = absurd (new.some refl)
placed program come (first ∷ procs) notes noted new clear =
    let head : Contains (first ∷ procs) first = contains_of (first ∷ procs) first (inl refl) in
    let long = clear.long in
    let within = new.within first head in
    let free = clear.clear first within (new.new first head) in
    record {
      stand = λ last same. (
        same first (Contains-append_right come (first ∷ procs) first head) ∙ set-there noted first notes (omega (arith, within, long)),
        each-of (λ proc. slice_get last proc ≡ Some []) procs (λ q there.
            let own : Contains (first ∷ procs) q = contains_of (first ∷ procs) q (inr there) in
            let above = new.ascends.0 q (contains_of procs q there) in
            same q (Contains-append_right come (first ∷ procs) q own)
            ∙ set-other noted first q notes (λ e. omega (arith, above, e))
            ∙ clear.clear q (new.within q own) (new.new q own)),
      );
      kept = λ q came. set-other noted first q notes (λ e. new.new first head (subst (Contains come) (sym e) came));
      clear = record {
        long = length-set noted first notes ∙ long;
        clear = λ q lt out.
            set-other noted first q notes (λ e. out (subst (Contains (come ++ first ∷ procs)) e (Contains-append_right come (first ∷ procs) first head)))
            ∙ clear.clear q lt (λ came. out (Contains-append_left come (first ∷ procs) q came));
      };
      sum = λ test. set-told test noted first notes free;
    }

-- ---- at first

length-blank : {X : Type 0} (n : ℕ) (x : X) → length (replicate n x) ≡ n
length-blank zero x = refl
length-blank (suc n) x = ap suc (length-blank n x)

get-blank : {X : Type 0} (n q : ℕ) (x : X) → q < n → slice_get (replicate n x) q ≡ Some x
get-blank zero q x lt = absurd (omega arith)
get-blank (suc n) zero x lt = refl
get-blank (suc n) (suc q) x lt = get-blank n q x (omega arith)

pub blank-clear : (program : Program) → IsClear program [] (replicate (length program.procs) [])
blank-clear program = record { long = length-blank (length program.procs) []; clear = λ q lt out. get-blank (length program.procs) q [] lt }

abbrev no_notes : List Note
no_notes = []

pub blank-told : (test : Limit → Bool) (n : ℕ) → all_told test (replicate n no_notes) ≡ 0
blank-told test zero = refl
blank-told test (suc n) = blank-told test n

-- ---- the blocks

few-blocks : (program : Program) (procs : List Proc) (known : List (Option Transition)) (noted : List (List Note)) → length (blocks_by program procs known noted) ≤ length procs
few-blocks program [] known noted = omega arith
few-blocks program (p ∷ procs) [] noted = omega arith
few-blocks program (p ∷ procs) (o ∷ known) [] = omega arith
few-blocks program (p ∷ procs) (o ∷ known) (own ∷ noted) = go o (few-blocks program procs known noted)
  where
    go : (o : Option Transition) → length (blocks_by program procs known noted) ≤ length procs → length (block_onto program p o own (blocks_by program procs known noted)) ≤ suc (length procs)
    go None few = omega (arith, few)
    go (Some f) few = omega (arith, few)

pub blocks-noted : (program : Program) (procs : List Proc) (known : List (Option Transition)) (noted : List (List Note)) → length noted ≡ length procs → length (blocks_by program procs known noted) ≡ length procs
    → map (λ (block : ProcBlock). block.notes) (blocks_by program procs known noted) ≡ noted
blocks-noted program [] known [] wide all = refl
blocks-noted program [] known (own ∷ noted) wide all = absurd (omega (arith, wide))
blocks-noted program (p ∷ procs) [] noted wide all = absurd (omega (arith, all))
blocks-noted program (p ∷ procs) (o ∷ known) [] wide all = absurd (omega (arith, wide))
blocks-noted program (p ∷ procs) (o ∷ known) (own ∷ noted) wide all =
    go o all (few-blocks program procs known noted) (λ rest. blocks-noted program procs known noted (omega (arith, wide)) rest)
  where
    go : (o : Option Transition) → length (block_onto program p o own (blocks_by program procs known noted)) ≡ suc (length procs) → length (blocks_by program procs known noted) ≤ length procs
        → (length (blocks_by program procs known noted) ≡ length procs → map (λ (block : ProcBlock). block.notes) (blocks_by program procs known noted) ≡ noted)
        → map (λ (block : ProcBlock). block.notes) (block_onto program p o own (blocks_by program procs known noted)) ≡ own ∷ noted
    go None long few rest = absurd (omega (arith, long, few))
    go (Some f) long few rest = ap (λ l. own ∷ l) (rest (omega (arith, long)))
