pub mod Questions
pub mod Storeys
pub mod Rows
pub mod Making
pub mod Laws
pub mod Radios
pub mod Remaining
pub mod Kinds
