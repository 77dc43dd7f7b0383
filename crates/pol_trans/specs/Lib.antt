pub mod RoleAllowRecord
pub mod RoleTransRecord
pub mod NameTransRecord
pub mod RangeTransRecord
pub mod NameGroupRecord
pub mod NameTransitions
