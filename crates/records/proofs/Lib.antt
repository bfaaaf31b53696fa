-- That each contract allows one answer and an input one list of lines (Determined), document 01's three records (Examples), inputs block by
-- block (Blocks), and the laws below.
pub mod Laws
pub mod Determined
pub mod Model
pub mod Blocks
pub mod Examples
