-- The theorem that a layer that passes questions 1 to 7 is faithful (Faithful), what it rests on (Closing, Sharing), and tables that are not
-- faithful (Examples).
pub mod Closing
pub mod Sharing
pub mod Faithful
pub mod Examples
