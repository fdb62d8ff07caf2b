-- Question 7, and questions 1 to 7 in order.
pub mod Held
pub mod Questions
