mod Counts
mod Rows
mod Said
