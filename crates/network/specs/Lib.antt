pub mod Refusals
pub mod Network
pub mod Law
pub mod Lent
pub mod Lines
pub mod Calls
pub mod Texts
pub mod Doing
