-- ---- what must be believed: which bodies are small
pub mod Small
-- ---- the laws
pub mod Laws
