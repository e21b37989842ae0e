-- What the program answers to a text, and the line that it prints.
pub mod Judged
pub mod Printed
