pub mod CentsText
