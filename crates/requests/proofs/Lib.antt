-- What steps leave of known bytes.
mod Known
