pub mod Alike
pub mod Effects
pub mod Orders
pub mod SmallOrders
