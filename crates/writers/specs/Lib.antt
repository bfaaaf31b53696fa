-- What writing words says and leaves, and when.
pub mod Put
pub mod Units
pub mod Says
