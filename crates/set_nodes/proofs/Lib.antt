pub mod RisingValues
pub mod SetBits
