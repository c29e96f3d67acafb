mod CellSizes
mod TreeHeads
mod Linking
mod Inserting
mod Making
