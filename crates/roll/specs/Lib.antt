-- What the promise of Roll says (Commands, Roll), and one command as the code takes it (Steps).
pub mod Commands
pub mod Roll
pub mod Steps
