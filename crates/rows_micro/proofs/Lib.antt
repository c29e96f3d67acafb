mod Whole
mod Edges
