pub mod Texts
pub mod Words
pub mod Settings
pub mod Known
pub mod Said
pub mod Accepted
