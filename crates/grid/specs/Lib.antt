-- What the crate's contracts cite: the rules on samples, grid edges, sticks and their links, and questions 1 to 4.
pub mod Layer
pub mod Edges
pub mod Questions
pub mod Plain
