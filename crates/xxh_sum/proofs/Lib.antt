mod Seen
mod Steps
