-- Lists of fields.

-- To be believed: the bytes that fields pack into
pub mod Packing
-- Serves inner contracts alone: that bytes hold fields from a bit on, and are as they were everywhere else
pub mod Holding
