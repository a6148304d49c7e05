-- ---- what the chosen execution comes to: `chosen_is_execution`, `choices_take_values`
pub mod ChosenExecutions
-- ---- traces: `failed_stop_fails`, `traces_are_determined`, and those that are made
pub mod Traces
-- ---- texts that are put together
pub mod Texts
