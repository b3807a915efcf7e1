pub mod Plans
pub mod CourseModes
pub mod Courses
pub mod Promises
pub mod CourseRows
pub mod CourseAreas
pub mod Tests
pub mod Counting
pub mod Deadlines
pub mod Coupling
pub mod Assurances
pub mod Calms
pub mod Builds
pub mod Areas
pub mod Products
pub mod Accepting
pub mod Building
pub mod SameModes
pub mod SameActs
pub mod SameCourses
pub mod Lists
pub mod SameReports
pub mod Sizes
mod Firsts
mod Words
mod Differing
mod TargetsJudged
mod AreasJudged
mod CausesJudged
mod CalmJudged
mod HeldSteps
mod Ordering
mod JudgeSteps
mod Judged
mod Examples
mod Worked
pub mod GivenBounds
pub mod TimesKept
pub mod CalmRows
pub mod Ranging
pub mod Intervals
pub mod AreasHold
pub mod Theorems
