pub mod NulTerminator
pub mod PathLimits
