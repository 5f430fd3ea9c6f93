-- Notices worked by hand.
use Rattle.std.specs.Prelude.{ℕ, List, [], ◌∷◌}
use Rattle.rd_printer.specs.declared.notice.Notice.{Notice}
use Rattle.rd_printer.specs.declared.notice.Notice.TheVariants.{Add, Rename}

-- an EventId that none of the four is
abbrev pub unknown_event : List ℕ
unknown_event = 0x52 ∷ 0x50 ∷ 0x43 ∷ 0x50 ∷ 5 ∷ 0 ∷ 0 ∷ 0 ∷ []

-- the header of a request, which is no notice
abbrev pub other_packet : List ℕ
other_packet = 0x72 ∷ 0x44 ∷ 0x52 ∷ 0x49 ∷ []

-- a name of two bytes of which one is there
abbrev pub cut_name : List ℕ
cut_name = 0x52 ∷ 0x50 ∷ 0x43 ∷ 0x50 ∷ 3 ∷ 0 ∷ 0 ∷ 0 ∷ 2 ∷ 0 ∷ 0 ∷ 0 ∷ 0x61 ∷ []

-- a printer at PRN1 with the driver ab, the name cd and the configuration e is added
abbrev pub addition : Notice
addition = Add (0x50 ∷ 0x52 ∷ 0x4e ∷ 0x31 ∷ 0 ∷ 0 ∷ 0 ∷ 0 ∷ []) [] (0x61 ∷ 0x62 ∷ []) (0x63 ∷ 0x64 ∷ []) (0x65 ∷ [])

abbrev pub addition_message : List ℕ
addition_message =
    0x52 ∷ 0x50 ∷ 0x43 ∷ 0x50 ∷ 1 ∷ 0 ∷ 0 ∷ 0
    ∷ 0x50 ∷ 0x52 ∷ 0x4e ∷ 0x31 ∷ 0 ∷ 0 ∷ 0 ∷ 0
    ∷ 0 ∷ 0 ∷ 0 ∷ 0 ∷ 2 ∷ 0 ∷ 0 ∷ 0 ∷ 2 ∷ 0 ∷ 0 ∷ 0 ∷ 1 ∷ 0 ∷ 0 ∷ 0
    ∷ 0x61 ∷ 0x62 ∷ 0x63 ∷ 0x64 ∷ 0x65 ∷ []

-- the printer cd is now called g
abbrev pub renaming : Notice
renaming = Rename (0x63 ∷ 0x64 ∷ []) (0x67 ∷ [])

abbrev pub renaming_message : List ℕ
renaming_message =
    0x52 ∷ 0x50 ∷ 0x43 ∷ 0x50 ∷ 4 ∷ 0 ∷ 0 ∷ 0 ∷ 2 ∷ 0 ∷ 0 ∷ 0 ∷ 1 ∷ 0 ∷ 0 ∷ 0 ∷ 0x63 ∷ 0x64 ∷ 0x67 ∷ []
