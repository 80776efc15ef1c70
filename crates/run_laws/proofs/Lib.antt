mod InWords
mod Written
