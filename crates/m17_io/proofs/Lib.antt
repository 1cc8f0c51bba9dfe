pub mod FillSteps
