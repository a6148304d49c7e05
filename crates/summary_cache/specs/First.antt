-- What comes of a text that is submitted to a session which has accepted none.
use Rattle.std.specs.Prelude.{◌≡◌, ℕ, List, length, Option, None, Some, Result, Ok, Err}
use Rattle.farkas_check.specs.Asking.{Asking}
use Rattle.syntax_tree.specs.declared.program.Program.{Program}
use Rattle.posing.specs.Follows.{with_all}
use Rattle.analysis.specs.declared.planning.Planned.{Planned}
use Rattle.summary_cache.specs.declared.error.SubmitError.{SubmitError}
use Rattle.summary_cache.specs.declared.error.SubmitError.TheVariants.{Text, Refused, Memory}
use Rattle.summary_cache.specs.declared.last.Analysed.{Analysed}
use Rattle.summary_cache.specs.declared.last.Last.{Last}
use Rattle.summary_cache.specs.declared.working.Counts.{Counts}
use Rattle.summary_cache.specs.Accepted.{IsRefusedBy}
use Rattle.summary_cache.specs.Answered.{IsDeclined}
use Rattle.summary_cache.specs.Counted.{counts_of}
use Rattle.summary_cache.specs.Kept.{last_analysis}
use Rattle.summary_cache.specs.Stated.{IsAnalysedBy, IsPlanned, analysis_of}

-- The text is accepted. Its report is what the analysis comes to under the answers that the oracle
-- had next, which refused none, and all groups of the plan were summed up.
pub record IsWorked {S : Type 0} (O : Asking S) (rule : ℕ) (old new : S) (text : List ℕ)
    (last : Analysed) (counts : Counts) : Type 0 where
  pub analysed : IsAnalysedBy O.allows rule text last.answers last.report
  pub taken : O.left old ≡ with_all last.answers (O.left new)
  pub refused_none : O.refusals new ≡ O.refusals old
  pub counted : counts ≡ counts_of (length analysed.plan) (length analysed.plan) last.report

-- The text spells a program, and the oracle declines a question of its analysis.
pub record IsUnanswered {S : Type 0} (O : Asking S) (rule : ℕ) (old new : S)
    (text : List ℕ) : Type 0 where
  pub program : Program
  pub plan : List Planned
  pub planned : IsPlanned rule text program plan
  pub declined : IsDeclined O old new (analysis_of rule text program plan)

-- what an error says where no text was accepted before: why this one is refused, or that a question
-- is declined, or that memory was wanting and nothing was refused
abbrev pub IsFirstCause : {S : Type 0} → Asking S → ℕ → S → S → List ℕ → SubmitError → Type 0
IsFirstCause O rule old new text (Text refusal) = IsRefusedBy text refusal × (new ≡ old)
IsFirstCause O rule old new text Refused = IsUnanswered O rule old new text
IsFirstCause O rule old new text Memory = O.refusals new ≡ O.refusals old

-- something is kept of a first text, and it is what its analysis came to
abbrev pub KeepsFirst : {S : Type 0} → Asking S → ℕ → S → S → List ℕ → Counts → Option Last → Type 0
KeepsFirst O rule old new text counts None = ⊥
KeepsFirst O rule old new text counts (Some last) = IsWorked O rule old new text (last_analysis last)
    counts

-- what a session that has accepted none comes to with a text: counts and what is kept of it, or an
-- error with its cause
abbrev pub ComesFirst : {S : Type 0} → Asking S → ℕ → S → S → List ℕ → Option Last
    → Result Counts SubmitError → Type 0
ComesFirst O rule old new text last (Ok counts) = KeepsFirst O rule old new text counts last
ComesFirst O rule old new text last (Err error) = IsFirstCause O rule old new text error
