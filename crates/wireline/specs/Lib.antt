pub mod Answers
pub mod Guess
pub mod Hex
pub mod Lines
