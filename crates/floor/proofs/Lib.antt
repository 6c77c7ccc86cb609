pub mod Lists
pub mod Charting
