mod Decoding
mod Numbers
mod SmallNumbers
