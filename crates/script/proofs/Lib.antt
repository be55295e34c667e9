mod Bytes
mod Ends
mod Numerals
mod Parts
