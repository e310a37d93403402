pub mod Chains
pub mod Entries
pub mod Homes
pub mod Laws
pub mod Marks
pub mod Wheel
