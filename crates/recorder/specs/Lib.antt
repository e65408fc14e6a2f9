pub mod Callers
pub mod Legal
pub mod Held
pub mod Made
pub mod Inside
pub mod Asked
