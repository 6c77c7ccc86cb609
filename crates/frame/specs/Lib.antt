pub mod Faults
pub mod Digits
pub mod Frames
pub mod Lines
