pub mod Crossing
pub mod Packet
pub mod Worked
pub mod Arrival
pub mod Hand
pub mod Ends
pub mod Texts
