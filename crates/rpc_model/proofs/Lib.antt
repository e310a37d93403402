pub mod First
mod Rows
mod SingleCalls
pub mod Digits
pub mod Versions
