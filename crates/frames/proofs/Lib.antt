-- The kind table in numbers
pub mod KindTable
-- The list of random bits
pub mod RandomBits
