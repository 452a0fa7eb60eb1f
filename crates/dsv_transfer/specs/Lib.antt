pub mod Transfer
