mod Passing
mod Runs
