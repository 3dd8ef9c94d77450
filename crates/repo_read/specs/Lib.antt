pub mod Answers
pub mod Programs
pub mod Chains
pub mod Resolving
pub mod Seeking
pub mod Naming
pub mod inside
