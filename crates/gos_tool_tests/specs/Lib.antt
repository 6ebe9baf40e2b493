-- In reading order.
pub mod inner
