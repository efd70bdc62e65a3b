pub mod Names
pub mod Shipped
pub mod ShippedRun
pub mod WorkedShipped
