pub mod SidNames
pub mod RisingNames
pub mod OrderedNames
