mod Counting
mod Fillings
mod Judging
mod Places
mod Telling
