-- In reading order: a file uses only files above it.
pub mod Circuit
pub mod SmallLaid
pub mod Paced
pub mod SmallPaced
pub mod Objects
pub mod Plans
pub mod Linked
pub mod Complete
pub mod Repeated
pub mod inner
