-- Laws of labels and their uses, for the proofs of other crates.
pub mod Decides
pub mod Puts
pub mod Tests
pub mod Finishing
pub mod Turns
pub mod Orders
pub mod Edges
pub mod Determined
pub mod Entries
pub mod Coded
pub mod Steps
pub mod Examples
