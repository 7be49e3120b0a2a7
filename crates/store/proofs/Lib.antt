-- The lemmas that the proofs of several functions share.
pub mod Appended
pub mod Digits
pub mod Images
