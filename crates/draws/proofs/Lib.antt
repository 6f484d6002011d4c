-- Laws of draws.
pub mod Products
pub mod States
