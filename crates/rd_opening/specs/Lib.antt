pub mod Issued
pub use Rattle.rd_orders.specs.Orders as OrdersOrders
