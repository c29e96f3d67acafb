pub mod ImageRuns
pub mod Listings
pub mod TracedRuns
pub mod FollowedRuns
