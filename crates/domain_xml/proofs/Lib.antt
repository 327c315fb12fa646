mod Fitting
mod Parsed
mod Together
