-- What the entry that reads words back answers and writes.
pub mod Numbers
