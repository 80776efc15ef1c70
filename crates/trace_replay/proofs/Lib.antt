mod Machine
mod Paging
mod Room
