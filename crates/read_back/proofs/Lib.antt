-- What this port writes is read back as what was asked: from the words by value, and from the promises of the entries that write.
pub mod Moves
pub mod Words
pub mod Written
