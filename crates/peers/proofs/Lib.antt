pub mod Backs
pub mod Contracts
pub mod Entered
pub mod Hosted
pub mod Ranges
pub mod Same
pub mod Sendings
pub mod Theorems
