pub mod Answers
pub mod Ends
pub mod Halted
pub mod Serving
