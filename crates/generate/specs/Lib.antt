-- The program's arguments.

-- To be believed: the number that an argument says
pub mod Arguments
