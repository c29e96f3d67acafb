pub mod Meeting
pub mod OnSites
pub mod Turns
pub mod KeptUnits
pub mod UnitMeeting
