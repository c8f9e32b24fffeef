pub mod Printed
pub mod FromFiles
