pub mod Sectors
pub mod Foremost
pub mod Directions
pub mod Places
pub mod Arcs
pub mod Turning
pub mod Ranks
pub mod Nearest
