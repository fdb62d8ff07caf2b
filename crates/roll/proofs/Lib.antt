-- The paper's cases on edit rolls, and Note 5's (Examples); the theorems that Roll leaves a held layer held and every pin (Held); and what its
-- code rests on: question 8 command by command (Forms), and one command after the other (Steps).
pub mod Examples
pub mod Forms
pub mod Steps
pub mod Held
