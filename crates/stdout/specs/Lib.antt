pub mod Stdout
