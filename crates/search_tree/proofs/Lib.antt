mod Answering
mod Chaining
mod Growing
mod Parting
mod Seating
mod Standing
mod Surgery
mod Walking
