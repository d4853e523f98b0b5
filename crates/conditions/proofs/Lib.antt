pub mod Bits
pub mod Sources
pub mod Meaning
pub mod TruthSets
pub mod SignedPairs
pub mod Collected
