-- Main theorems: which tree tokens read as, which refusal they have, that the lexer's tokens end
-- once, and how many operators a tree has.
pub mod Readings
pub mod Refusals
pub mod TokenForms
pub mod FewOperators
-- Texts: what is read is derived, and what is derived is read.
pub mod SoundTexts
pub mod CompleteTexts
pub mod TextLoops
pub mod LastToken
-- The same of lines.
pub mod SoundLines
pub mod CompleteLines
pub mod FoundLines
pub mod LineLoops
pub mod Lines
pub mod Parts
-- The same of expressions.
pub mod Soundness
pub mod Complete
pub mod Derivations
pub mod FirstTokens
pub mod Loops
pub mod Equations
-- Runs that end in a refusal.
pub mod RunsOfTexts
pub mod RunsOfLines
pub mod RunsOfParts
pub mod RunsOfExpressions
pub mod Runs
-- Steps that repeat.
pub mod Repeats
mod Examples
