-- What displacements are asked for: the six formats, what the entries say, and when they say it.
pub mod Forms
pub mod Answer
pub mod Says
pub mod Private
pub mod Shape
