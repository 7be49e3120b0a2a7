-- The lemmas that the proofs of this crate cite.
pub mod Teeth
