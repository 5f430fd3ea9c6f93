-- What a script tells of printers: how short it is, and that a host may tell it.
use Rattle.rd_chunk.specs.Carrier.{IsMessage}
use Rattle.rd_printer.specs.declared.notice.Notice.{Notice}
use Rattle.rd_printer.specs.Notice.{HasWholePort, IsWritableNotice, notice_bytes}

-- A notice that a host that is ready may tell its client.
pub record IsTellable (n : Notice) : Type 0 where
  pub writable : IsWritableNotice n
  pub port : HasWholePort n
  pub fit : IsMessage (notice_bytes n)
