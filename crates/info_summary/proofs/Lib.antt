pub mod Counting
pub mod RuleCounting
