mod NumberReads
mod Lines
