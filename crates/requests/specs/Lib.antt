-- What the contract of `answer_all` cites.
pub mod Streams
