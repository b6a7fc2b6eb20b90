pub mod Longest
pub mod Octets
pub mod Told
