mod Counting
mod Naming
mod Spelling
