-- What a line says, its bytes, and what writing it leaves; a line by its parts.
pub mod Item
pub mod Text
pub mod Steps
pub mod Parts
