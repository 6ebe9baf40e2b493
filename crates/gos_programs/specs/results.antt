pub mod HasTypes
pub mod Results
pub mod GroundImports
pub mod SmallResults
