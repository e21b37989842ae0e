-- What is proved of the definitions, for the code.
pub mod Runs
pub mod Numbers
pub mod Lengths
pub mod WorkedLines
