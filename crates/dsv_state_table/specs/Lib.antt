pub mod StateFindings
