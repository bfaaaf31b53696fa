-- The words of document 01's module 6.
pub mod Patchable
pub mod Size
