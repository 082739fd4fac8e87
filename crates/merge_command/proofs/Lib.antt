mod Leaving
mod Numbered
mod BackAgain
