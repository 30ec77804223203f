pub mod Deliveries
