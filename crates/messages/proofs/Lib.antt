mod Distinct
mod Listing
mod Seen
mod Sending
