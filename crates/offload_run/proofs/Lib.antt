mod Makings
mod Engines
mod Unread
mod Streamed
