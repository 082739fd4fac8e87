pub mod Folds
mod Words
mod Held
mod Rows
