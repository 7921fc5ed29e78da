mod Words
pub mod Instants
