-- Main theorems: a text that is accepted is analysed.
pub mod Complete
-- Certificate files pass or do not, and the output of `certify` passes.
pub mod FilePasses
-- What the ends of a run say of executions.
pub mod Sentences
-- Rows at points are true of a program where they are so of it under a rule.
pub mod RuledPoints
-- What proving the program of a text tells of the text.
pub mod ProvedTexts
-- What is read and written.
pub mod Inputs
pub mod Outputs
pub mod Replays
-- The versions of an edited text: their lengths, how they go through a session, and what they say of
-- executions.
pub mod Scripts
pub mod Versions
pub mod Edits
-- The bounds on a global's change: what they say of executions, the global of a name, and lists that
-- are made one by one.
pub mod Costs
pub mod Globals
pub mod Pairs
-- Texts that are made.
pub mod SampleTexts
-- What clap makes of the words that are listed.
pub mod ClapWords
-- What the analysis under listed answers comes to.
pub mod Checks
-- Tame questions.
pub mod Tame
