pub mod Relabelling
pub mod Running
