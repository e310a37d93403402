pub mod Answers
pub mod Program
pub mod Summary
pub mod Words
