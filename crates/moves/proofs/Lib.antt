-- The theorems about moves (Demands), that each contract allows one answer (Determined), worked examples, and the laws below them.
pub mod Lists
pub mod Run
pub mod Lengths
pub mod Calls
pub mod Demands
pub mod Determined
pub mod Examples
