pub mod Firsts
pub mod Sooner
pub mod ArcTest
