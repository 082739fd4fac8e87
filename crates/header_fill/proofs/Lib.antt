mod Along
mod Right
