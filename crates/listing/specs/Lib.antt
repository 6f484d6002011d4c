-- The listing of a picture as text: document 01, "Field examples".

-- To be believed: numbers in decimal, and the lines
pub mod Decimal
pub mod Listing
-- Serve inner contracts alone: text written over a buffer, and the same lines off evidence
pub mod Text
pub mod ByEvidence
