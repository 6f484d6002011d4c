-- To be believed: the worked examples of document 01 and those of 02's requests, and what each row of the table asks.
pub mod Cases
pub mod Table
