-- What the analysis under the answers of a replay came to is what its computation comes to under
-- them.
use Rattle.std.proofs.Common.{◌≡◌, ℕ, ◌+◌, List, [], ◌∷◌, ◌++◌, length, Some, refl, ap, ◌∙◌, inl, inr}
use Rattle.std.specs.Prelude.{◌-◌, IfOk, Result, Ok, Err, codes}
use Rattle.farkas_check.specs.declared.answer.Answer.{Answer}
use Rattle.farkas_check.specs.declared.question.Question.{Question}
use Rattle.farkas_check.specs.Asking.{Asking}
use Rattle.farkas_check.specs.Tested.{Passes}
use Rattle.posing.specs.Follows.{IsGood}
use Rattle.posing.specs.Posing.{Posing, Asked, Finished, Stuck, after_notes, run}
use Rattle.posing.proofs.Paths.{path_ends, path_run}
use Rattle.report.specs.declared.blocks.Report.{Report}
use Rattle.report.specs.Text.{text_of}
use Rattle.wire.specs.Replays.{IsMissing, Replayed}
use Rattle.summary_cache.specs.declared.refusal.Refusal.{Refusal}
use Rattle.summary_cache.specs.declared.last.Analysed.{Analysed}
use Rattle.summary_cache.specs.Accepted.{IsRefusedBy}
use Rattle.summary_cache.specs.First.{IsUnanswered}
use Rattle.summary_cache.specs.Stated.{IsAnalysedBy, analysis_of}
use Rattle.commands.specs.declared.reply.Reply.{Reply}
use Rattle.commands.specs.Check.{IsCheckUnder, failed_reply, finished_reply}
use Rattle.commands.specs.Within.{refused_reply}

-- how a replay says of itself what it answers
abbrev pub asking : Asking Replayed
asking = record { refusals = λ r. r.refusals; declines = λ r question. IsMissing r.left question; allows = Passes; left = λ r. Some r.left }

pub good-passes : (allows : Question → Answer → Type 0) (question : Question) (answer : Answer) → IsGood allows question answer → Passes question answer
good-passes allows question answer good = good.passes

missing-sticks : (question : Question) (next : Answer → Posing Report) (left : List Answer) → IsMissing left question → run (Asked question next) left ≡ Stuck question left
missing-sticks question next [] missing = refl
missing-sticks question next (answer ∷ answers) missing = rw missing refl

-- under the answers of an analysed text, and others behind them, its analysis comes to its report
pub ends : (allows : Question → Answer → Type 0) (rule : ℕ) (text : List ℕ) (answers rest : List Answer) (report : Report) (a : IsAnalysedBy allows rule text answers report)
    → run (analysis_of rule text a.program a.plan) (answers ++ rest) ≡ Finished report [] rest
ends allows rule text answers rest report a =
    path_ends (IsGood allows) (analysis_of rule text a.program a.plan) report [] answers rest (good-passes allows) a.leads

module _ (rule : ℕ) (text : List ℕ) (old new : Replayed) (told : List ℕ) (reply : Reply) where
  -- it came to a report
  pub shown-finished : (last : Analysed) (left : ℕ) → IsAnalysedBy Passes rule text last.answers last.report → Some old.left ≡ Some (last.answers ++ new.left)
      → left ≡ length new.left → reply ≡ finished_reply (text_of last.report) told left → IsCheckUnder rule text old.left told reply
  shown-finished last left a taken counted is =
      let all : old.left ≡ last.answers ++ new.left = cc taken in
      inl (
        Finished last.report [] new.left,
        record {
          program = a.program;
          is_posed = record { plan = a.plan; planned = a.planned; comes = ap (run (analysis_of rule text a.program a.plan)) all ∙ ends Passes rule text last.answers new.left last.report a };
          met = (a.covers, a.met, a.points);
        },
        is ∙ ap (finished_reply (text_of last.report) told) counted,
      )

  -- it came to a question whose answer is missing or does not pass
  pub shown-stuck : (all left : ℕ) → IsUnanswered asking rule old new text → all ≡ length old.left → left ≡ length new.left
      → reply ≡ failed_reply (codes "answer ") (all - left + 1) [] → IsCheckUnder rule text old.left told reply
  shown-stuck all left u counted_all counted is =
      let at = u.declined in
      let analysis = analysis_of rule text u.program u.plan in
      let answers : old.left ≡ at.answers ++ new.left = cc at.taken in
      let sticks = path_run (IsGood Passes) analysis (Asked at.question at.next) [] at.answers new.left (good-passes Passes) at.stated in
      inl (
        Stuck at.question new.left,
        record {
          program = u.program;
          is_posed = record {
            plan = u.plan;
            planned = u.planned;
            comes = ap (run analysis) answers ∙ sticks ∙ ap (after_notes []) (missing-sticks at.question at.next new.left at.declined);
          };
          met = tt;
        },
        is ∙ ap (λ n. failed_reply (codes "answer ") (n - left + 1) []) counted_all ∙ ap (λ n. failed_reply (codes "answer ") (length old.left - n + 1) []) counted,
      )

  pub shown-refused : (refusal : Refusal) → IsRefusedBy text refusal → reply ≡ refused_reply text refusal → IsCheckUnder rule text old.left told reply
  shown-refused refusal refused is = inr (refusal, refused, is)

-- what holds of a value wherever something else does
pub where-ok : {A E : Type 0} (result : Result A E) (P Q : A → Type 0) → ((x : A) → P x → Q x) → IfOk result P → IfOk result Q
where-ok (Ok x) P Q leads is = leads x is
where-ok (Err e) P Q leads is = is
