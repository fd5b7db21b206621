mod Halves
mod KeyRows
mod Opening
mod Verdicts
