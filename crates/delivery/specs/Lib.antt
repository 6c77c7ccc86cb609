pub mod Law
pub mod Run
