-- What must be believed: what every end of a stated flow and of a stated summary is.
pub mod Laws
