pub mod AllowedTimes
