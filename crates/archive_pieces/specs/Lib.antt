-- What comes next in a piece of an archive; the items of a whole archive, and of one in pieces.
pub mod Steps
pub mod Archive
