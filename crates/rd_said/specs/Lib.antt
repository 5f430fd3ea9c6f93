pub mod Rest
pub use Rattle.rd_acted.specs.Acted as ActedActed
pub use Rattle.rd_acted.specs.AnsweredRefusing as AnsweredRefusing
pub use Rattle.rd_acted.specs.ControlsControls as ControlsControls
pub use Rattle.rd_acted.specs.JournalsStations as JournalsStations
pub use Rattle.rd_orders.specs.Orders as OrdersOrders
pub use Rattle.rd_acted.specs.RunsMoves as RunsMoves
pub use Rattle.rd_acted.specs.RunsPremises as RunsPremises
