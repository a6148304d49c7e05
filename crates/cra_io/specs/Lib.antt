-- ---- what must be believed
pub use Rattle.whole_numbers.specs.Counters
pub mod Adapters
pub mod Faults
pub mod Memory
