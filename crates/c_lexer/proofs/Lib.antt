-- Main theorems: a text has one outcome, and the places of its tokens ascend.
pub mod OneOutcome
pub mod Places
pub mod Outcomes
pub mod Unique
-- What the scanner keeps from piece to piece.
pub mod Scanning
pub mod Cuts
-- What stands at the front of some bytes.
pub mod Lexemes
pub mod Spaces
pub mod Shapes
pub mod Keywords
pub mod Marks
-- Lists and slices.
pub mod Finds
pub mod Slices
