pub mod Claims
pub mod Counts
pub mod Numbers
pub mod Refusals
pub mod Verdict
pub mod WellLaid
pub mod Paper
