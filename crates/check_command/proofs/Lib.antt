mod Leaving
mod Lining
mod Telling
mod Prefixes
