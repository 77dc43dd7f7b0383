pub mod SidRecord
pub mod NamedRecord
pub mod PortRecord
pub mod AddressRecord
pub mod FsUseRecord
pub mod IbPkeyRecord
pub mod IbEndPortRecord
pub mod ContextTables
