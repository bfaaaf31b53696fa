-- What the decoder and the normaliser have to say.
pub mod Answer
