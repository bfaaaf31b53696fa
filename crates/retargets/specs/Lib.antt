-- What a retarget of a word already written says.
pub mod Retarget
