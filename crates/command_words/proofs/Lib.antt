pub mod Read
pub mod OneKind
pub mod OneRefusal
pub mod Behind
pub mod Unread
