pub use Rattle.rd_printed.specs.Printed as PrintedPrinted
