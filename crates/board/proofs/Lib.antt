pub mod Contracts
pub mod Laws
pub mod Lowest
pub mod Nineteen
pub mod Runs
pub mod Same
pub mod Slots
pub mod Theorems
