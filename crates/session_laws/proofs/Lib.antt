pub mod Payloads
mod OnTheWay
pub mod Writing
mod Holding
pub mod InBytes
mod Agreeing
pub mod Examples
