mod Counting
mod Filling
mod Shutting
