pub mod FileReading
pub mod MissionReading
