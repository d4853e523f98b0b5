pub mod Choices
pub mod Meanings
pub mod Kinds
