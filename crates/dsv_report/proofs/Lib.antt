pub mod NumberedLines
