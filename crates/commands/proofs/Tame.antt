-- Where every question posed is tame, a report that is made with the finder has no limit.
use Rattle.std.proofs.Common.{inl, inr, [], refl}
use Rattle.farkas_check.specs.declared.answer.Answer.{Answer}
use Rattle.farkas_check.specs.declared.question.Question.{Question}
use Rattle.finder.specs.Found.{IsFound}
use Rattle.posing.specs.Follows.{IsGood}
use Rattle.posing.specs.Posing.{Done}
use Rattle.posing.proofs.Paths.{path_map}
use Rattle.named_limits.specs.Laws.{AnswersTame}
use Rattle.named_limits.proofs.Limitless.{tame-limitless}
use Rattle.summary_cache.specs.Rules.{with_rule}
use Rattle.summary_cache.specs.Stated.{analysis_of}
use Rattle.commands.specs.Tame.{TameTextsHaveNoLimit}

-- what the finder owes
owed : (question : Question) (a : Answer) → IsGood IsFound question a → AnswersTame question a
owed question a good (inl narrow) limit = good.allowed.narrow narrow limit
owed question a good (inr live) limit = good.allowed.live live limit

pub tame-texts : TameTextsHaveNoLimit
tame-texts text answers report is tame =
    let p = analysis_of 2 text is.program is.plan in
    tame-limitless (with_rule 2 is.program) is.plan p answers report (path_map (IsGood IsFound) AnswersTame p (Done report) [] answers owed is.leads) (is.named record { no_phases = refl; no_facets = refl }) tame
