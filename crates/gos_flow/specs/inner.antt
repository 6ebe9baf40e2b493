pub mod CommandSeen
