mod Putting
mod Going
mod UnitPieces
mod Passing
mod Statuses
mod OfUnits
