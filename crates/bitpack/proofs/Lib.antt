mod Gathered
mod Parsed
mod Printed
