mod Gap
mod Opened
mod Parts
