mod Along
mod Addresses
