pub mod Lists
pub mod Near
pub mod Graph
pub mod Chains
pub mod Crossing
pub mod SameLink
pub mod Rounding
pub mod Counting
