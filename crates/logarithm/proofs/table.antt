-- TableRule: what document 01 asks of the table, and how much room an entry leaves.
pub mod TableRule
