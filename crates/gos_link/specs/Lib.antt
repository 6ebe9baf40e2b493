-- In reading order: a file uses only files above it.
pub mod BuildFile
pub mod Services
pub mod Order
pub mod SmallOrders
pub mod Linked
pub mod Faces
pub mod SmallLinks
pub mod Answers
pub mod inner
