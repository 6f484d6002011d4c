-- Laws of the acts.
pub mod States
pub mod Slots
pub mod Acted
pub mod Evicted
pub mod Reloaded
pub mod Recoverable
pub mod Judged
pub mod Spared
pub mod Cutting
pub mod Choosable
pub mod Headers
pub mod Putting
pub mod Answering
pub mod Repeats
