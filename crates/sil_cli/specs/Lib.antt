pub mod Engines
pub mod CommandFiles
pub mod DemoJobs
pub mod Report
pub mod Answer
pub mod Headline
