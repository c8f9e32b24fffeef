-- Files read and added one by one, and the text of their sheet (Reading).
pub mod Reading
