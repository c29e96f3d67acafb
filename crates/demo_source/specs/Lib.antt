pub mod DemoSource
