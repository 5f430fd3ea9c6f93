use Rattle.rd_client.proofs.NoticeLemmas.{data_before, notice_header, xps_met}
use Rattle.rd_client.proofs.hearing.without_memory.Goals as goal

pub before_data-requires : goal.before_data-requires
before_data-requires c = notice_header _ _ _ _ c.new-cursor.ensures c.in_ok-read_header_among.ensures

pub returns-in_ok-read_using_xps-in-PrinterUsingXps-clause-whole :
    goal.returns-in_ok-read_using_xps-in-PrinterUsingXps-clause-whole
returns-in_ok-read_using_xps-in-PrinterUsingXps-clause-whole c =
    xps_met _ _ _ _ _ _ c.new-cursor.ensures c.in_ok-read_header_among.ensures c.in-PrinterUsingXps.is c.in_ok-read_using_xps-in-PrinterUsingXps.ensures

pub returns-in_ok-before_data-in_default : goal.returns-in_ok-before_data-in_default
returns-in_ok-before_data-in_default c = record {
  refused = tt;
  whole = tt;
  before = data_before _ _ _ c.in_ok-read_header_among.field-0 c.new-cursor.ensures c.in_ok-read_header_among.ensures c.in_default.not-PrinterUsingXps c.in_ok-before_data-in_default.ensures;
}
