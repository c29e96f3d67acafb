pub mod FlagBits
pub mod JoinedParts
pub mod Leads
pub mod LoudParts
pub mod Questions
pub mod TitleFlags
pub mod Products
pub mod Words
