-- Request b: labels bound late.
pub mod Limits
pub mod Order
pub mod Puts
pub mod Sheet
pub mod Calls
