pub mod Formula
pub mod Values
pub mod Progressions
