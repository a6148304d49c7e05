-- The stated analysis of a text by the finder.
use Rattle.std.specs.Prelude.{ℕ, List, Result, Ok, Err}
use Rattle.farkas_check.specs.declared.answer.Answer.{Answer}
use Rattle.report.specs.declared.blocks.Report.{Report}
use Rattle.finder.specs.Found.{IsFound}
use Rattle.summary_cache.specs.declared.refusal.TextError.{TextError}
use Rattle.summary_cache.specs.declared.refusal.TextError.TheVariants.{Refused, Memory}
use Rattle.summary_cache.specs.declared.last.Analysed.{Analysed}
use Rattle.summary_cache.specs.Accepted.{IsRefusedBy}
use Rattle.summary_cache.specs.Stated.{IsAnalysedBy}

-- The text is accepted, and the report is what the analysis of its program comes to under a rule
-- and these answers, each of which is one that the finder gives. Its claims are met.
abbrev pub IsAnalysedUnder : ℕ → List ℕ → List Answer → Report → Type 0
IsAnalysedUnder rule text answers report = IsAnalysedBy IsFound rule text answers report

-- so under the rule of every word but `prove` and `facets`
abbrev pub IsAnalysed : List ℕ → List Answer → Report → Type 0
IsAnalysed text answers report = IsAnalysedUnder 2 text answers report

-- what comes of a text under a rule: its analysis, or the reason of its refusal
abbrev pub IsFoundUnder : ℕ → List ℕ → Result Analysed TextError → Type 0
IsFoundUnder rule text (Ok last) = IsAnalysedUnder rule text last.answers last.report
IsFoundUnder rule text (Err (Refused refusal)) = IsRefusedBy text refusal
IsFoundUnder rule text (Err Memory) = Unit {0}
