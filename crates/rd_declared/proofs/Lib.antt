pub mod HeldLemmas
pub mod DeclaringLemmas
pub mod PrinterLemmas
pub mod RowFacts
pub mod LineFacts
pub mod DeclaredLemmas
