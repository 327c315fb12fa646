pub mod OwnGuests
pub mod StoredPlans
pub mod TidyCalls
pub mod TidyMarks
pub mod TidyPhases
