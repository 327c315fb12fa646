pub mod CallProofs
pub mod PhaseProofs
pub mod DeletionProofs
