pub mod Recordings
pub mod RecordingRead
pub mod PrivateRecordings
