-- Texts that a loop over numbers makes.
use Rattle.std.proofs.Common.{◌≡◌, ℕ, ◌+◌, ◌-◌, arith, List, [], ◌∷◌, ◌++◌, refl, sym, ap, subst, ◌∙◌, Option, None, Some}
use Rattle.std.specs.List.{flat_map, range_with_len}
use Rattle.std.proofs.lemmas.Grind.{flat_map-append}
use Rattle.std.proofs.lemmas.List.{append-nil, append_assoc}
use Rattle.leaf_cases.proofs.AuxiliaryMoves.{range-more}
use Rattle.farkas_check.specs.declared.answer.Answer.{Answer}
use Rattle.farkas_check.specs.declared.question.Question.{Question}
use Rattle.farkas_check.specs.Asking.{Asking}
use Rattle.finder.specs.Found.{IsFound}
use Rattle.summary_cache.specs.declared.last.Analysed.{Analysed}
use Rattle.summary_cache.specs.declared.last.Last.{Last}
use Rattle.summary_cache.specs.declared.working.Counts.{Counts}
use Rattle.summary_cache.specs.First.{IsWorked, KeepsFirst}
use Rattle.summary_cache.specs.Kept.{last_analysis}
use Rattle.commands.specs.Sample.{IsCounted}

-- the part for one number more, behind those for the first k
pub parts-more : (f : ℕ → List ℕ) (k : ℕ) (old before after : List ℕ) → before ≡ old ++ flat_map f (range_with_len 1 k)
    → after ≡ before ++ f (k + 1) → after ≡ old ++ flat_map f (range_with_len 1 (k + 1))
parts-more f k old before after same more =
    let numbers = range_with_len 1 k in
    let first : k ≡ k + 1 - 1 = omega arith in
    let next : k + 1 + 1 - 1 ≡ k + 1 = omega arith in
    let longer : numbers ++ (k + 1) ∷ [] ≡ range_with_len 1 (k + 1) =
    range-more 1 (k + 1) numbers (numbers ++ (k + 1) ∷ []) (omega arith) (ap (range_with_len 1) first) refl ∙ ap (range_with_len 1) next in
    let parts : flat_map f numbers ++ f (k + 1) ≡ flat_map f (range_with_len 1 (k + 1)) =
    ap (λ t. flat_map f numbers ++ t) (sym (append-nil (f (k + 1)))) ∙ sym (flat_map-append f numbers ((k + 1) ∷ [])) ∙ ap (flat_map f) longer in
    more ∙ ap (λ t. t ++ f (k + 1)) same ∙ append_assoc old (flat_map f numbers) (f (k + 1)) ∙ ap (λ t. old ++ t) parts

-- ---- counts that a session gives

module _ {S : Type 0} (refusals : S → ℕ) (declines : S → Question → Type 0) (left : S → Option (List Answer)) where
  abbrev pub finding : Asking S
  finding = record { refusals = refusals; declines = declines; allows = IsFound; left = left }

  worked-counted : (old new : S) (text : List ℕ) (last : Analysed) (counts : Counts) → IsWorked finding 2 old new text last counts → IsCounted text counts
  worked-counted old new text last counts h = record { answers = last.answers; report = last.report; analysed = h.analysed; counted = h.counted }

  -- a text that is accepted while the finder answers has its counts
  pub kept-counted : (rule : ℕ) (old new : S) (text : List ℕ) (counts : Counts) (kept : Option Last) → rule ≡ 2
      → KeepsFirst finding rule old new text counts kept → IsCounted text counts
  kept-counted rule old new text counts None second h = absurd h
  kept-counted rule old new text counts (Some last) second h =
      worked-counted old new text (last_analysis last) counts (subst (λ r. IsWorked finding r old new text (last_analysis last) counts) second h)
