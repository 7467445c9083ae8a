-- The definitions that a reader of the public contracts believes, in reading order.
pub mod Items
pub mod Table
pub mod LookBudget
pub mod Reading
pub mod Spelling
pub mod V0
pub mod ValidationLooks
pub mod Again
pub mod References
-- Internal.
pub mod Binders
pub mod LookTotals
pub mod Traces
pub mod Climbs
