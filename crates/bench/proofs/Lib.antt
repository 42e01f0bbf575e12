mod Listing
mod Printed
mod ScriptHistory
mod Shortened
