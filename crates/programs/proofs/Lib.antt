mod Marking
mod Showing
