-- What the contracts determine where a reader's bytes are known.
pub mod Determined
