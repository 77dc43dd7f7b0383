pub mod AskedVectors
pub mod DigitNumbers
