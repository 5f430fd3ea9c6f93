-- What a session comes to whose devices couldn't be opened.
use Rattle.std.proofs.Common.{◌≡◌, ℕ, List, [], refl, inl}
use Rattle.rd_base.specs.History.{History}
use Rattle.rd_script.specs.declared.line.NumberedLine.{NumberedLine}
use Rattle.rd_sharing.specs.FolderLines.{folder_devices}
use Rattle.rd_sharing.specs.Refused.{StopsOpening}
use Rattle.rd_sharing.specs.ServedOpening.{ToldFolders}
use Rattle.rd_sharing.specs.declared.opening_no.OpeningNo.{OpeningNo}
use Rattle.rd_sharing.specs.declared.opening_no.OpeningNo.TheVariants as no
use Rattle.rd_declared.specs.Declaring.{bare_lines}
use Rattle.rd_workers.specs.Channels.{LinkerTold}
use Rattle.rd_workers.specs.Served.{StopsServing}

-- Nothing was done, and the count of failures tells why.
pub stops_unopened : (lines : List NumberedLine) (channels : ℕ) (why : OpeningNo) (books : List (ℕ × History)) (told : LinkerTold) (before after : ToldFolders)
    → StopsOpening (folder_devices (bare_lines lines)) before after why → books ≡ [] → after.trouble ≡ before.trouble → StopsServing lines channels why books told told before after
stops_unopened lines channels (no.Folder device) books told before after stops none same = record {
  stops = stops;
  unserved = refl;
  unstored = none;
  untroubled = same;
}
stops_unopened lines channels no.Memory books told before after stops none same = (stops, inl (refl, none))
