pub mod Plain
pub mod Left
pub use Rattle.rd_joined.specs.JournalsOrderly as JournalsOrderly
pub use Rattle.rd_joined.specs.JournalsStations as JournalsStations
pub use Rattle.rd_joined.specs.RunsMoves as RunsMoves
pub use Rattle.rd_joined.specs.RunsPremises as RunsPremises
