pub mod Extents
pub mod Free
pub mod Tables
pub mod UsedRuns
