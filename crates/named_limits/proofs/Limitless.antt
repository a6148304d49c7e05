-- Reports without a limit.
--     named-limitless     where no answer is a limit
--     tame-limitless      where each question posed is tame, and tame ones get no limit
use Rattle.std.proofs.Common.{◌≡◌, List, [], ◌∷◌, true, refl, sym, ap, ◌∙◌, arith}
use Rattle.farkas_check.specs.declared.answer.Answer.{Answer}
use Rattle.farkas_check.specs.declared.answer.Answer.TheVariants as answer
use Rattle.farkas_check.specs.declared.answer.Limit.{Limit}
use Rattle.farkas_check.specs.Calm.{IsTame}
use Rattle.farkas_check.specs.Meaning.{IsLimit}
use Rattle.syntax_tree.specs.declared.program.Program.{Program}
use Rattle.posing.specs.Posing.{Posing, Done, Path}
use Rattle.report.specs.declared.blocks.Report.{Report}
use Rattle.analysis.specs.declared.planning.Planned.{Planned}
use Rattle.analysis.specs.Analysis.{report_by_plan}
use Rattle.named_limits.specs.Laws.{AnswersTame, AsksTame, TameQuestionsNameNone}
use Rattle.named_limits.specs.Limits.{AreSame, count, limit_given, limits_given}
use Rattle.named_limits.specs.Named.{LimitsAreNamed}
use Rattle.named_limits.specs.Reported.{HasNoLimit, limits_in}
use Rattle.named_limits.proofs.LeadingQuestions.{answers-limitless}

none-counted : (limits : List Limit) → count (λ limit. true) limits ≡ 0 → limits ≡ []
none-counted [] e = refl
none-counted (limit ∷ limits) e = absurd (omega (arith, e))

same-none : (limits others : List Limit) → AreSame limits others → limits ≡ [] → others ≡ []
same-none limits others same none = none-counted others (sym (same.same (λ limit. true)) ∙ ap (count (λ limit. true)) none)

pub named-limitless : (program : Program) (plan : List Planned) (answers : List Answer) (report : Report) → LimitsAreNamed program plan answers report → limits_given answers ≡ [] → HasNoLimit report
named-limitless program plan answers report named none = record { none = same-none (limits_given answers) (limits_in report) named.whole none }

no-limit : (a : Answer) → (IsLimit a → ⊥) → limit_given a ≡ []
no-limit (answer.Yes by) none = refl
no-limit (answer.No point) none = refl
no-limit (answer.Bound at certs case point) none = refl
no-limit (answer.Unbounded case point ray) none = refl
no-limit (answer.Basis relations spots free) none = refl
no-limit (answer.Limit limit) none = absurd (none tt)

pub tame-limitless : (program : Program) (plan : List Planned) (p : Posing Report) (answers : List Answer) (report : Report) → Path AnswersTame p [] answers (Done report)
    → LimitsAreNamed program plan answers report → AsksTame p answers → HasNoLimit report
tame-limitless program plan p answers report path named tame =
    named-limitless program plan answers report named
    (answers-limitless AnswersTame IsTame (λ question a owed is_tame. no-limit a (owed is_tame)) p (Done report) [] answers path tame)

pub tame-analysis : TameQuestionsNameNone
tame-analysis program places plan answers report path named tame = tame-limitless program plan (report_by_plan program places plan) answers report path named tame
