-- Between the functions of this crate.
pub mod Noting
pub mod Tops
pub mod Opens
pub mod Ports
pub mod Wired
pub mod Judged
pub mod Firsts
pub mod Given
pub mod Counts
pub mod Served
