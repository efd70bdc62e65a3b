pub mod WordLengths
