-- The line of an item of an archive, part by part, and what writing it leaves.
pub mod Texts
pub mod Lines
