pub mod ConvertAnswer
