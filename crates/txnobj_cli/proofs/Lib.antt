mod Writing
mod Printing
