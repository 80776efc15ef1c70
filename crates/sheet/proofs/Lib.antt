mod Certain
mod Composed
