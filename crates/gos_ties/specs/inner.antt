-- Between the functions of this crate.
pub mod Joined
pub mod Found
pub mod Contacts
