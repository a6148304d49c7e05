-- What a session keeps: its rule, and of the text that was accepted last its groups, its report and
-- its answers.
use Rattle.std.specs.Prelude.{ℕ, List, [], ◌++◌, Option, None, Some}
use Rattle.std.specs.Option.{option_map}
use Rattle.farkas_check.specs.declared.answer.Answer.{Answer}
use Rattle.farkas_check.specs.declared.question.Question.{Question}
use Rattle.report.specs.declared.blocks.Report.{Report}
use Rattle.kept_groups.specs.declared.kept.KeptGroups.{KeptGroups}
use Rattle.kept_groups.specs.Kept.{AreKeptIf, answers_in}
use Rattle.summary_cache.specs.declared.last.Analysed.{Analysed}
use Rattle.summary_cache.specs.declared.last.Last.{Last}

-- a session's rule, and what is kept of the text that was accepted last; None where none was
pub record Kept : Type 0 where
  pub rule : ℕ
  pub last : Option Last

-- ---- of a text

-- the answers, in the order of their questions: those of the groups, and those behind them
abbrev pub answers_for : Last → List Answer
answers_for last = answers_in last.groups.parts ++ last.rest

-- its report and its answers
abbrev pub last_analysis : Last → Analysed
last_analysis last = record { report = last.report; answers = answers_for last }

-- ---- of the text that was accepted last, if one was

-- the groups of the text that was accepted last; None where none was
abbrev pub groups_of : Option Last → Option KeptGroups
groups_of last = option_map (λ (kept : Last). kept.groups) last

-- the report of the text that was accepted last; None where none was
abbrev pub report_of : Option Last → Option Report
report_of last = option_map (λ (kept : Last). kept.report) last

-- the answers of the text that was accepted last, in the order of their questions; [] where none
-- was
abbrev pub answers_of : Option Last → List Answer
answers_of None = []
answers_of (Some last) = answers_for last

-- What is kept is what the analysis of the program came to, under answers that are allowed.
abbrev pub AreAllowed : (Question → Answer → Type 0) → Option Last → Type 0
AreAllowed allows last = AreKeptIf allows (groups_of last)
