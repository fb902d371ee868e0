pub mod Shift
pub mod LongDivision
pub mod Fitting
pub mod WholeParts
pub mod Reciprocals
pub mod Results
