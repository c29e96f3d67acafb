mod CellPlaces
mod CharCopies
mod BlockMoves
mod Titling
