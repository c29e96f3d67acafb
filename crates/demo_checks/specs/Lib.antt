pub mod DemoCards
pub mod DemoLaws
