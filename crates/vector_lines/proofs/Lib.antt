mod Words
mod Taken
mod Reports
