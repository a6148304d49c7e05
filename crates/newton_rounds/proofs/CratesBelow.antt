-- What is proved in the crates below, by the names that the proofs here cite.
pub use Rattle.transition_formula.proofs.Fitting.{identity-fits}
pub use Rattle.transition_formula.proofs.Ranges.{counted_from, counted_more}
pub use Rattle.leaf_cases.proofs.AuxiliaryMoves.{range-more}
pub use Rattle.leaf_cases.proofs.Graphs.{EdgeFits, act-fits}
pub use Rattle.proc_summary.proofs.CratesBelow.{some_at}
pub use Rattle.proc_summary.proofs.Graphs.{full-columns, narrow, proc-fit, vocabulary-is}
pub use Rattle.proc_summary.proofs.ExitSummaries.{fitted-few}
