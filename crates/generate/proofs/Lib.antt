-- Laws of the program's arguments.
pub mod Arguments
