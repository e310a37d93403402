pub mod Appending
pub mod Depths
pub mod Judged
pub mod Named
pub mod Places
pub mod Sized
pub mod Spelled
pub mod Within
