pub mod OneStatement
