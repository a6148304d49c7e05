-- Texts that go through a session one after the other.
--     kept-after      what is kept of a text that is accepted, while the finder answers
--     told-none, told-next, told-all      what is told of them, as far as they have gone
use Rattle.std.proofs.Common.{◌≡◌, ◌<◌, ◌+◌, ℕ, List, [], ◌∷◌, ◌++◌, drop, length, Option, None, Some, refl, sym, ap, subst, ◌∙◌, append-nil}
use Rattle.std.proofs.lemmas.List.{append_assoc, drop_more}
use Rattle.std.specs.List.{last_or}
use Rattle.std.specs.Prelude.{get_or}
use Rattle.farkas_check.specs.declared.answer.Answer.{Answer}
use Rattle.farkas_check.specs.declared.question.Question.{Question}
use Rattle.finder.specs.Found.{IsFound}
use Rattle.summary_cache.specs.declared.last.Last.{Last}
use Rattle.summary_cache.specs.declared.working.Counts.{Counts}
use Rattle.summary_cache.specs.Kept.{AreAllowed}
use Rattle.summary_cache.specs.Submitted.{IsSubmittedOver, Keeps}
use Rattle.commands.specs.declared.editing.Submission.{Submission}
use Rattle.commands.specs.Edit.{AreSubmissions, IsAnalysedAfter, IsSubmission, KeepsAfter, version_line, version_lines}
use Rattle.commands.specs.Editing.{AreTold, AreToldSoFar}
use Rattle.commands.proofs.SampleTexts.{finding}

-- ---- one text

module _ {S : Type 0} (refusals : S → ℕ) (declines : S → Question → Type 0) (left : S → Option (List Answer)) where
  analysed-after : (before : Option Last) (old new : S) (text : List ℕ) (last : Last) (counts : Counts) → AreAllowed IsFound before
      → IsSubmittedOver (finding refusals declines left) 2 before old new text last counts → IsAnalysedAfter before text last counts
  analysed-after before old new text last counts found h = record {
    program = h.program;
    planned = h.planned;
    is = h.is;
    marks = h.marks;
    come = h.come;
    analysed = (h.allowed found).0;
    counted = h.counted;
  }

  -- a text that is accepted is kept, and so are answers of the finder
  pub kept-after : (rule : ℕ) (before : Option Last) (old new : S) (text : List ℕ) (counts : Counts) (kept : Option Last) → rule ≡ 2 → AreAllowed IsFound before
      → Keeps (finding refusals declines left) rule before old new text counts kept → KeepsAfter before text counts kept × AreAllowed IsFound kept
  kept-after rule before old new text counts None second found h = absurd h
  kept-after rule before old new text counts (Some last) second found h =
      let over = subst (λ r. IsSubmittedOver (finding refusals declines left) r before old new text last counts) second h in
      (analysed-after before old new text last counts found over, (over.allowed found).1)

-- ---- texts so far

pub told-none : (texts : List (List ℕ)) → AreToldSoFar texts 0 None [] None
told-none texts = record { all = λ more after are. record { made = more; are = are; lines_are = refl; last_is = refl } }

pub told-next : (texts : List (List ℕ)) (place : ℕ) (text : List ℕ) (held next : Option Last) (before after : List ℕ) (last : Option Submission) (one : Submission)
    → AreToldSoFar texts place held before last → place < length texts → text ≡ get_or texts place text → IsSubmission held text one next
    → after ≡ before ++ version_line place text one → AreToldSoFar texts (place + 1) next after (Some one)
told-next texts place text held next before after last one so_far within there is line = record {
  all = λ more end are.
      let left = drop (place + 1) texts in
      let split : drop place texts ≡ text ∷ left = drop_more texts place text within ∙ ap (λ t. t ∷ left) (sym there) in
      let whole = so_far.all (one ∷ more) end (subst (λ ts. AreSubmissions held ts (one ∷ more) end) (sym split) (next, is, are)) in
      let first = version_line place text one in
      let rest = version_lines (place + 1) left more in
      let lines : before ++ version_lines place (drop place texts) (one ∷ more) ≡ after ++ rest =
      ap (λ ts. before ++ version_lines place ts (one ∷ more)) split ∙ sym (append_assoc before first rest) ∙ ap (λ ls. ls ++ rest) (sym line) in
      subst (λ ls. AreTold texts ls (last_or (Some one) more) end) lines whole;
}

pub told-all : (texts : List (List ℕ)) (place : ℕ) (held : Option Last) (lines : List ℕ) (last : Option Submission) → AreToldSoFar texts place held lines last
    → drop place texts ≡ [] → AreTold texts lines last held
told-all texts place held lines last so_far none =
    let whole = so_far.all [] held (subst (λ ts. AreSubmissions held ts [] held) (sym none) refl) in
    subst (λ ls. AreTold texts ls last held) (ap (λ ts. lines ++ version_lines place ts []) none ∙ append-nil lines) whole
