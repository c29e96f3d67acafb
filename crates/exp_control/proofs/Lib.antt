pub mod Choosing
pub mod Selecting
pub mod Settings
pub mod StorageSymbols
