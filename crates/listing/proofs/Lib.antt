mod Composing
mod Lining
mod Running
mod Splitting
