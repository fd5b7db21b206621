mod Told
mod Inputs
