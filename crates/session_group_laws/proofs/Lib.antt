mod Told
mod Unchanged
mod ShownData
mod Example
mod DataExample
