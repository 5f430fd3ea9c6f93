-- That the bytes of a notice spell it.
use Rattle.std.proofs.Common.{◌≡◌, ℕ, ◌<◌, ◌^◌, List, ◌++◌, IsTrue, length, refl, lit<}
use Rattle.std.specs.Prelude.{nat_le, ◌&&◌}
use Rattle.rd_base.specs.declared.packet.Packet.TheVariants.{PrinterCacheData, PrinterUsingXps}
use Rattle.rd_base.specs.Counted.{two_fields_bytes, four_fields_bytes, bytes_and_count}
use Rattle.rd_base.specs.Spelling.{IsSpelling}
use Rattle.rd_base.proofs.WrittenLemmas.{Written, done_last, number_then, bytes_then, test_then}
use Rattle.rd_base.proofs.SpellingLemmas.{written}
use Rattle.rd_base.proofs.CountedLemmas.{two_fields_spelled, four_fields_spelled, counted_bytes_last, spelling_last}
use Rattle.rd_base.proofs.HeaderLemmas.{header_among_then}
use Rattle.rd_printer.specs.declared.notice.Notice.{Notice}
use Rattle.rd_printer.specs.declared.notice.Notice.TheVariants.{Add, Update, Delete, Rename, UsingXps}
use Rattle.rd_printer.specs.Notice.{notice, notices, cache_data, event_body, add_event, update_event, delete_event, rename_event, using_xps, event_bytes, notice_bytes, IsWritableNotice}

-- the numbers of a notice are in the ranges of their fields
abbrev pub IsInRange : Notice → Type 0
IsInRange (Add port pnp driver name config) = length port ≡ 8
IsInRange (UsingXps printer flags) = (printer < 2 ^ 32) × (flags < 2 ^ 32)
IsInRange _ = Unit {0}

event_written : (n : Notice) (event : ℕ) (field after : List ℕ) → event < 2 ^ 32 → IsTrue (nat_le 1 event && nat_le event 4) → Written (event_body event) n field after → Written notice n (event_bytes event ++ field) after
unfolding notice cache_data
event_written n event field after fits known q = header_among_then notices PrinterCacheData refl (number_then event fits (test_then known q))

pub notice_spelled : (n : Notice) → IsWritableNotice n → IsInRange n → IsSpelling notice n (notice_bytes n)
unfolding notice event_body add_event update_event delete_event rename_event using_xps
notice_spelled (Add port pnp driver name config) fits range = written notice _ _ λ after.
    event_written (Add port pnp driver name config) 1 (port ++ four_fields_bytes pnp driver name config) after (lit< tt) refl
    (bytes_then port range
    (spelling_last (pnp, driver, name, config) (four_fields_bytes pnp driver name config) (four_fields_spelled pnp driver name config fits.0 fits.1 fits.2 fits.3)
    (done_last (Add port pnp driver name config) after)))
notice_spelled (Update name config) fits range = written notice _ _ λ after.
    event_written (Update name config) 2 (two_fields_bytes name config) after (lit< tt) refl
    (spelling_last (name, config) (two_fields_bytes name config) (two_fields_spelled name config fits.0 fits.1)
    (done_last (Update name config) after))
notice_spelled (Delete name) fits range = written notice _ _ λ after.
    event_written (Delete name) 3 (bytes_and_count name) after (lit< tt) refl (counted_bytes_last name fits (done_last (Delete name) after))
notice_spelled (Rename old new) fits range = written notice _ _ λ after.
    event_written (Rename old new) 4 (two_fields_bytes old new) after (lit< tt) refl
    (spelling_last (old, new) (two_fields_bytes old new) (two_fields_spelled old new fits.0 fits.1)
    (done_last (Rename old new) after))
notice_spelled (UsingXps printer flags) fits range = written notice _ _ λ after.
    header_among_then notices PrinterUsingXps refl
    (number_then printer range.0 (number_then flags range.1 (done_last (UsingXps printer flags) after)))
