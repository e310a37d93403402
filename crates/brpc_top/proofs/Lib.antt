pub mod Written
pub mod Complete
pub mod Taken
pub mod Counted
pub mod Named
