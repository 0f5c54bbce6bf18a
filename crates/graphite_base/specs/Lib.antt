pub mod Causes
pub mod Known
pub mod Answers
pub mod Ends
pub mod Numbers
