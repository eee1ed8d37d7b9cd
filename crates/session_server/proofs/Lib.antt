mod Doors
mod Examples
mod Paces
