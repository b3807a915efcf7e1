pub mod Assuring
pub mod FileReading
pub mod FlightSizes
pub mod LineRuns
pub mod MissionReading
