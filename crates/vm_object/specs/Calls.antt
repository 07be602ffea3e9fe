pub mod Suits
