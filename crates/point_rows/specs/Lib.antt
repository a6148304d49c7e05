pub mod Reading
pub mod Laws
pub mod Exits
pub mod ExitLaws
