pub mod Ids
pub mod Places
pub mod Vacant
pub mod Gone
