pub mod Steps
pub mod Nearest
pub mod reciprocal_table
pub mod table_root
