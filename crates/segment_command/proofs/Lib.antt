mod Segmenting
mod Prefixes
mod Used
