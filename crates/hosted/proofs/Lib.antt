pub mod OneTurn
pub mod Others
pub mod Stands
