-- What the entry for size ops says.
pub mod SizeOp
