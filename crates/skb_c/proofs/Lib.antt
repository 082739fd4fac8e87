mod Coming
mod Fields
