pub mod ClapCommands
pub mod CommandOrders
pub mod HeldCommands
