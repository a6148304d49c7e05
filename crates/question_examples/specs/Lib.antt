pub use Rattle.posing.specs.Posing
pub use Rattle.posing.specs.Follows
-- two computations that pose questions
pub mod Calls
-- worked examples of the words for questions
pub mod Examples
