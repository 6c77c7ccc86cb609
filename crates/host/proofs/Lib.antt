pub mod Links
pub mod Bits
pub mod Mending
pub mod Asking
