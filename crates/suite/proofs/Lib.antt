mod Verdicts
mod Exchanging
mod Signatures
