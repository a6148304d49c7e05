-- What must be believed: what finishing a case keeps, and how far apart the states are that star
-- links.
pub mod Laws
