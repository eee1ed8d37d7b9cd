mod KeptData
pub mod RecordingSoFar
mod RecordingStops
