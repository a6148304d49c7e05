-- The blocks of procedures, and the flows of all.
--     block-next             a loop over procedures
--     block-known            where all summaries are known, the block at a place has that of the procedure
--     flow-known, flows-long    the same of flows
use Rattle.std.proofs.Common.{◌≡◌, ℕ, zero, suc, ◌+◌, ◌<◌, List, [], ◌∷◌, ◌++◌, length, drop, get_or, refl, sym, ap, ◌∙◌, append_assoc, arith}
use Rattle.std.specs.Prelude.{Option, None, Some, slice_get}
use Rattle.std.specs.List.{filter_map}
use Rattle.std.proofs.lemmas.List.{drop_more}
use Rattle.syntax_tree.specs.declared.program.Proc.{Proc}
use Rattle.syntax_tree.specs.declared.program.Program.{Program}
use Rattle.posing.specs.declared.note.Note.{Note}
use Rattle.transition_formula.specs.Transition.{Transition}
use Rattle.report.specs.declared.blocks.ProcBlock.{ProcBlock}
use Rattle.analysis.specs.Analysis.{block_of, block_onto, blocks_by}

-- ---- a loop

onto-front : (program : Program) (p : Proc) (o : Option Transition) (notes : List Note) (blocks : List ProcBlock) → block_onto program p o notes blocks ≡ block_onto program p o notes [] ++ blocks
onto-front program p None notes blocks = refl
onto-front program p (Some f) notes blocks = refl

pub block-next : (program : Program) (procs : List Proc) (known : List (Option Transition)) (notes : List (List Note)) (i : ℕ) (p : Proc) (o : Option Transition) (own : List Note) (made next whole : List ProcBlock)
    → i < length procs → length known ≡ length procs → length notes ≡ length procs → p ≡ get_or procs i p → o ≡ get_or known i o → own ≡ get_or notes i own
    → made ++ blocks_by program (drop i procs) (drop i known) (drop i notes) ≡ whole → next ≡ made ++ block_onto program p o own []
    → next ++ blocks_by program (drop (i + 1) procs) (drop (i + 1) known) (drop (i + 1) notes) ≡ whole
block-next program procs known notes i p o own made next whole lt long wide is_p is_o is_own so_far more =
    let rest = blocks_by program (drop (i + 1) procs) (drop (i + 1) known) (drop (i + 1) notes) in
    let in_known : i < length known = omega (arith, lt, long) in
    let in_notes : i < length notes = omega (arith, lt, wide) in
    let split_p : drop i procs ≡ p ∷ drop (i + 1) procs = drop_more procs i p lt ∙ ap (λ x. x ∷ drop (i + 1) procs) (sym is_p) in
    let split_o : drop i known ≡ o ∷ drop (i + 1) known = drop_more known i o in_known ∙ ap (λ x. x ∷ drop (i + 1) known) (sym is_o) in
    let split_n : drop i notes ≡ own ∷ drop (i + 1) notes = drop_more notes i own in_notes ∙ ap (λ x. x ∷ drop (i + 1) notes) (sym is_own) in
    ap (λ l. l ++ rest) more ∙ append_assoc made (block_onto program p o own []) rest
    ∙ ap (λ l. made ++ l) (sym (onto-front program p o own rest))
    ∙ (λ j. made ++ blocks_by program (sym split_p j) (sym split_o j) (sym split_n j)) ∙ so_far

-- ---- where all are known

pub block-known : (program : Program) (procs : List Proc) (known : List (Option Transition)) (notes : List (List Note)) → length known ≡ length procs → length notes ≡ length procs
    → ((i : ℕ) → i < length procs → (f : Transition) × (slice_get known i ≡ Some (Some f)))
    → (i : ℕ) (block : ProcBlock) → slice_get (blocks_by program procs known notes) i ≡ Some block → slice_get known i ≡ Some (Some block.formula)
block-known program [] known notes long wide all i block e = absurd (cc e)
block-known program (p ∷ procs) [] notes long wide all i block e = absurd (omega (arith, long))
block-known program (p ∷ procs) (o ∷ known) [] long wide all i block e = absurd (omega (arith, wide))
block-known program (p ∷ procs) (o ∷ known) (own ∷ notes) long wide all i block e =
    go o (all 0 (omega arith)) (block-known program procs known notes (omega arith) (omega arith) (λ i lt. all (suc i) (omega arith))) i block e
  where
    go : (o : Option Transition) → (f : Transition) × (Some o ≡ Some (Some f)) → ((i : ℕ) (block : ProcBlock) → slice_get (blocks_by program procs known notes) i ≡ Some block → slice_get known i ≡ Some (Some block.formula))
        → (i : ℕ) (block : ProcBlock) → slice_get (block_onto program p o own (blocks_by program procs known notes)) i ≡ Some block → slice_get (o ∷ known) i ≡ Some (Some block.formula)
    go None has more i block e = absurd (cc (has.1))
    go (Some f) has more zero block e = let same : block_of program p f own ≡ block = cc e in ap (λ (b : ProcBlock). Some (Some b.formula)) same
    go (Some f) has more (suc i) block e = more i block e

pub flows-long : {X : Type 0} (all : List (Option X)) → ((i : ℕ) → i < length all → (x : X) × (slice_get all i ≡ Some (Some x))) → length (filter_map (λ o. o) all) ≡ length all
flows-long [] has = refl
flows-long (None ∷ all) has = let first = has 0 (omega arith) in absurd (cc (first.1))
flows-long (Some x ∷ all) has = ap suc (flows-long all (λ i lt. has (suc i) (omega arith)))

pub flow-known : {X : Type 0} (all : List (Option X)) → ((i : ℕ) → i < length all → (x : X) × (slice_get all i ≡ Some (Some x)))
    → (i : ℕ) (x : X) → slice_get (filter_map (λ o. o) all) i ≡ Some x → slice_get all i ≡ Some (Some x)
flow-known [] has i x e = absurd (cc e)
flow-known (None ∷ all) has i x e = let first = has 0 (omega arith) in absurd (cc (first.1))
flow-known (Some y ∷ all) has zero x e = ap (λ o. Some o) e
flow-known (Some y ∷ all) has (suc i) x e = flow-known all (λ i lt. has (suc i) (omega arith)) i x e
