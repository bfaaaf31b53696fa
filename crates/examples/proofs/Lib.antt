-- Document 01's marked examples, proved together.
pub mod Table
