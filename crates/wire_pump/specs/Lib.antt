pub mod Parcel
pub mod Pump
pub mod Doors
pub mod Ends
