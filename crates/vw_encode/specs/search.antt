-- Definitions that describe how the code searches, which no reader has to believe: what the spellings
-- of an instruction are says vw_rows (Spells), and which of them is the first says Order.
pub mod Buffer
pub mod Asked
pub mod Candidate
pub mod Normal
pub mod Kinds
pub mod Found
