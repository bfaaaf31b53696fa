-- What the entry for opcode picks says.
pub mod Pick
