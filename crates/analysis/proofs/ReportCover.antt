-- That a report leaves nothing out.
--     blocks-cover            where all summaries are known, there is a block for each procedure
--     always-judged_by        there is a verdict at each place
--     places-in_turn          the places of assertions that are numbered from 1
use Rattle.std.proofs.Common.{◌≡◌, ℕ, suc, ◌+◌, ◌<◌, List, [], ◌∷◌, ◌++◌, length, map, refl, sym, ap, subst, ◌∙◌, append_assoc, append-nil, length-append, arith}
use Rattle.std.specs.Prelude.{◌-◌, Option, None, Some, slice_get}
use Rattle.std.specs.List.{range_with_len, slice_index_or}
use Rattle.std.proofs.lemmas.List.{length-map, map-append}
use Rattle.std.proofs.Math.Seq.{get_or-append_seam}
use Rattle.syntax_tree.specs.declared.program.Proc.{Proc}
use Rattle.syntax_tree.specs.declared.program.Program.{Program}
use Rattle.transition_formula.specs.Transition.{Transition}
use Rattle.posing.specs.declared.note.Note.{Note}
use Rattle.posing.specs.Posing.{Always, each}
use Rattle.posing.proofs.Paths.{always_any, always_bind, always_each, always_weaker}
use Rattle.proc_summary.specs.declared.stop.Flow.{Flow}
use Rattle.context.specs.Verdicts.{place_of, verdict_of}
use Rattle.report.specs.declared.blocks.Judged.{Judged}
use Rattle.report.specs.declared.blocks.ProcBlock.{ProcBlock}
use Rattle.analysis.specs.declared.places.TextPlace.{TextPlace}
use Rattle.analysis.specs.Analysis.{block_onto, blocks_by}
use Rattle.analysis.specs.Apart.{apart}
use Rattle.analysis.specs.Judging.{Asserted, numbered_assertion, judgements_on_all, judgement_of, no_place, place_in, with_judged}

-- ---- blocks

pub blocks-cover : (program : Program) (procs : List Proc) (known : List (Option Transition)) (notes : List (List Note)) → length known ≡ length procs → length notes ≡ length procs
    → ((i : ℕ) → i < length procs → (f : Transition) × (slice_get known i ≡ Some (Some f)))
    → map (λ (b : ProcBlock). b.name) (blocks_by program procs known notes) ≡ map (λ (p : Proc). p.name) procs
blocks-cover program [] known notes long wide all = refl
blocks-cover program (p ∷ procs) [] notes long wide all = absurd (omega (arith, long))
blocks-cover program (p ∷ procs) (o ∷ known) [] long wide all = absurd (omega (arith, wide))
blocks-cover program (p ∷ procs) (o ∷ known) (own ∷ notes) long wide all =
    go o (all 0 (omega arith)) (blocks-cover program procs known notes (omega arith) (omega arith) (λ i lt. all (suc i) (omega arith)))
  where
    go : (o : Option Transition) → (f : Transition) × (Some o ≡ Some (Some f)) → map (λ (b : ProcBlock). b.name) (blocks_by program procs known notes) ≡ map (λ (p : Proc). p.name) procs
        → map (λ (b : ProcBlock). b.name) (block_onto program p o own (blocks_by program procs known notes)) ≡ p.name ∷ map (λ (p : Proc). p.name) procs
    go None has more = absurd (cc (has.1))
    go (Some f) has more = ap (λ names. p.name ∷ names) more

-- ---- verdicts

always-judged_of : (at : TextPlace) (a : Option Asserted) → Always (λ (j : Judged). j.at ≡ at.at) (judgement_of at a)
unfolding judgement_of
always-judged_of at None = refl
always-judged_of at (Some a) =
    always_bind (λ made. Unit {0}) (λ (j : Judged). j.at ≡ at.at) (apart (verdict_of (place_of a.program a.p) a.cond a.entry a.stand)) _
    (always_any (λ made. Unit {0}) (apart (verdict_of (place_of a.program a.p) a.cond a.entry a.stand)) (λ made. tt)) (λ made known. refl)

module _ (program : Program) (places : List TextPlace) (entries : List (Option Transition)) (flows : List Flow) where
  abbrev spot : ℕ → ℕ
  spot n = (place_in places n).at

  abbrev spots : List Judged → List ℕ
  spots made = map (λ (j : Judged). j.at) made

  -- those that are made, and those that are left to make
  abbrev Covers : List ℕ → List ℕ → List Judged → Type 0
  Covers whole rest made = spots made ++ map spot rest ≡ whole

  covers-next : (whole rest : List ℕ) (made : List Judged) (n : ℕ) (judged : Judged) → Covers whole (n ∷ rest) made → judged.at ≡ spot n → Covers whole rest (made ++ judged ∷ [])
  covers-next whole rest made n judged so_far is =
      ap (λ l. l ++ map spot rest) (map-append (λ (j : Judged). j.at) made (judged ∷ []))
      ∙ append_assoc (spots made) (judged.at ∷ []) (map spot rest)
      ∙ ap (λ at. spots made ++ (at ∷ map spot rest)) is ∙ so_far

  always-with_judged : (whole rest : List ℕ) (n : ℕ) (made : List Judged) → Covers whole (n ∷ rest) made → Always (Covers whole rest) (with_judged program places entries flows made n)
  unfolding with_judged
  always-with_judged whole rest n made so_far =
      always_bind (λ (j : Judged). j.at ≡ spot n) (Covers whole rest) (judgement_of (place_in places n) (numbered_assertion program entries flows n)) _
      (always-judged_of (place_in places n) (numbered_assertion program entries flows n)) (λ judged is. covers-next whole rest made n judged so_far is)

  always-spots : (numbers : List ℕ) → Always (λ made. spots made ≡ map spot numbers) (each (with_judged program places entries flows) [] numbers)
  always-spots numbers =
      always_weaker (Covers (map spot numbers) []) (λ made. spots made ≡ map spot numbers) (each (with_judged program places entries flows) [] numbers)
      (λ made covers. sym (append-nil (spots made)) ∙ covers)
      (always_each (Covers (map spot numbers)) (with_judged program places entries flows) [] numbers (λ n rest made so_far. always-with_judged (map spot numbers) rest n made so_far) refl)

-- ---- places

places-next : (front rest : List TextPlace) (x : TextPlace) → map (λ n. (place_in ((front ++ x ∷ []) ++ rest) n).at) (range_with_len (length (front ++ x ∷ []) + 1) (length rest)) ≡ map (λ (at : TextPlace). at.at) rest
    → map (λ n. (place_in (front ++ x ∷ rest) n).at) (range_with_len (length front + 1) (suc (length rest))) ≡ x.at ∷ map (λ (at : TextPlace). at.at) rest
places-next front rest x behind = λ i. first i ∷ more i
  where
    first : (place_in (front ++ x ∷ rest) (length front + 1)).at ≡ x.at
    first =
        let same : length front + 1 - 1 ≡ length front = omega arith in
        ap (λ k. TextPlace.at (slice_index_or (front ++ x ∷ rest) k no_place)) same ∙ ap (λ (at : TextPlace). at.at) (get_or-append_seam front x rest no_place)

    all : (front ++ x ∷ []) ++ rest ≡ front ++ x ∷ rest
    all = append_assoc front (x ∷ []) rest

    long : length (front ++ x ∷ []) ≡ length front + 1
    long = length-append front (x ∷ [])

    more : map (λ n. (place_in (front ++ x ∷ rest) n).at) (range_with_len (length front + 1 + 1) (length rest)) ≡ map (λ (at : TextPlace). at.at) rest
    more =
        subst (λ places. map (λ n. (place_in places n).at) (range_with_len (length front + 1 + 1) (length rest)) ≡ map (λ (at : TextPlace). at.at) rest) all
        (subst (λ k. map (λ n. (place_in ((front ++ x ∷ []) ++ rest) n).at) (range_with_len (k + 1) (length rest)) ≡ map (λ (at : TextPlace). at.at) rest) long behind)

places-behind : (front rest : List TextPlace) → map (λ n. (place_in (front ++ rest) n).at) (range_with_len (length front + 1) (length rest)) ≡ map (λ (at : TextPlace). at.at) rest
places-behind front [] = refl
places-behind front (x ∷ rest) = places-next front rest x (places-behind (front ++ x ∷ []) rest)

pub places-in_turn : (places : List TextPlace) → map (λ n. (place_in places n).at) (range_with_len 1 (length places)) ≡ map (λ (at : TextPlace). at.at) places
places-in_turn places = places-behind [] places

-- a verdict for each assertion, where these are their places
pub always-judged_by : (program : Program) (places : List TextPlace) (entries : List (Option Transition)) (flows : List Flow) → map (λ (at : TextPlace). at.at) places ≡ program.checks
    → Always (λ made. map (λ (j : Judged). j.at) made ≡ program.checks) (judgements_on_all program places entries flows)
unfolding judgements_on_all
always-judged_by program places entries flows theirs =
    always_weaker (λ made. map (λ (j : Judged). j.at) made ≡ map (λ n. (place_in places n).at) numbers) (λ made. map (λ (j : Judged). j.at) made ≡ program.checks)
    (each (with_judged program places entries flows) [] numbers) (λ made covers. covers ∙ turn ∙ theirs) (always-spots program places entries flows numbers)
  where
    numbers : List ℕ
    numbers = range_with_len 1 (length program.checks)

    long : length program.checks ≡ length places
    long = sym (ap length theirs) ∙ length-map places (λ (at : TextPlace). at.at)

    turn : map (λ n. (place_in places n).at) numbers ≡ map (λ (at : TextPlace). at.at) places
    turn = ap (λ k. map (λ n. (place_in places n).at) (range_with_len 1 k)) long ∙ places-in_turn places
