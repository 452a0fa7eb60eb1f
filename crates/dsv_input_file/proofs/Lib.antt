mod Pieces
mod Worked
