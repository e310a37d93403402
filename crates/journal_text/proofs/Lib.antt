pub mod Lists
pub mod Plain
pub mod Runs
pub mod Shown
pub mod Spelled
pub mod Taken
pub mod Understood
