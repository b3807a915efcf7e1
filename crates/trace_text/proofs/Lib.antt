mod Appended
pub mod Listing
mod Steps
pub mod Splitting
pub mod Spelling
mod Values
mod NameLists
mod Walk
mod Shapes
pub mod Inversion
pub mod Found
mod RowOnly
mod AppOnly
mod ReportOnly
mod TraceOnly
pub mod FirstBroken
mod LeastRules
pub mod WordBytes
pub mod NamesBack
mod ListsBack
pub mod LinesBack
mod RowsBack
pub mod ReportsBack
pub mod FlightsBack
