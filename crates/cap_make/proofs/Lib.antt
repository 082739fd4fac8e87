mod Counting
mod Steps
mod Taking
mod Lawful
mod Rows
