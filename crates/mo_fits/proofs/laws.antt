-- The laws of what fits.
pub mod Among
pub mod Fitting
