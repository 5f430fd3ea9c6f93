-- That the bytes of a message spell it.
use Rattle.std.proofs.Common.{ℕ, ◌<◌, ◌≤◌, ◌^◌, List, length, refl, lit<, arith}
use Rattle.std.specs.Int.{w32, to_le_bytes}
use Rattle.rd_base.specs.declared.packet.Packet.TheVariants.{ServerAnnounce, ClientIdConfirm, ClientName, ServerCapability, ClientCapability, UserLoggedOn}
use Rattle.rd_base.specs.Layout.{four_bytes}
use Rattle.rd_base.specs.Spelling.{IsSpelling}
use Rattle.rd_base.proofs.SpellingLemmas.{written}
use Rattle.rd_base.proofs.CountedLemmas.{count_written, run_last, spelling_last}
use Rattle.rd_base.proofs.WrittenLemmas.{Written, done_last, layout_then, number_then, test_then}
use Rattle.rd_base.proofs.HeaderLemmas.{header_among_then}
use Rattle.rd_hello.specs.declared.capability.Cap.{Cap}
use Rattle.rd_hello.specs.declared.hello.Version.{Version}
use Rattle.rd_hello.specs.declared.hello.Hello.TheVariants.{Announce, Confirm, Name, ServerCaps, ClientCaps, LoggedOn}
use Rattle.rd_hello.specs.Capability.{sets, sets_bytes}
use Rattle.rd_hello.specs.Hello.{version, name, hellos, hello, most_name_bytes, version_bytes, hello_bytes}

version_written : (v : Version) (after : List ℕ) → v.minor < 2 ^ 16 → v.client < 2 ^ 32 → Written version v (version_bytes v) after
unfolding version
version_written v after minor client =
    number_then 1 (lit< tt) (test_then refl (number_then v.minor minor (number_then v.client client (done_last v after))))

pub announce_spelled : (v : Version) → v.minor < 2 ^ 16 → v.client < 2 ^ 32 → IsSpelling hello (Announce v) (hello_bytes (Announce v))
unfolding hello
announce_spelled v minor client = written hello (Announce v) _ λ after.
    header_among_then hellos ServerAnnounce refl (layout_then v (version_bytes v) (version_written v _ minor client) (done_last (Announce v) after))

pub confirm_spelled : (v : Version) → v.minor < 2 ^ 16 → v.client < 2 ^ 32 → IsSpelling hello (Confirm v) (hello_bytes (Confirm v))
unfolding hello
confirm_spelled v minor client = written hello (Confirm v) _ λ after.
    header_among_then hellos ClientIdConfirm refl (layout_then v (version_bytes v) (version_written v _ minor client) (done_last (Confirm v) after))

pub name_spelled : (unicode page : ℕ) (bytes : List ℕ) → unicode < 2 ^ 32 → page < 2 ^ 32 → length bytes ≤ most_name_bytes → IsSpelling hello (Name unicode page bytes) (hello_bytes (Name unicode page bytes))
unfolding hello name
name_spelled unicode page bytes unicode_fits page_fits few = written hello (Name unicode page bytes) _ λ after.
    header_among_then hellos ClientName refl
    (number_then unicode unicode_fits
    (number_then page page_fits
    (layout_then (length bytes) (to_le_bytes w32 (length bytes)) (count_written four_bytes most_name_bytes (length bytes) _ (omega arith) few)
    (run_last bytes refl
    (done_last (Name unicode page bytes) after)))))

pub server_caps_spelled : (caps : List Cap) → IsSpelling sets caps (sets_bytes caps) → IsSpelling hello (ServerCaps caps) (hello_bytes (ServerCaps caps))
unfolding hello
server_caps_spelled caps each = written hello (ServerCaps caps) _ λ after.
    header_among_then hellos ServerCapability refl (spelling_last caps (sets_bytes caps) each (done_last (ServerCaps caps) after))

pub client_caps_spelled : (caps : List Cap) → IsSpelling sets caps (sets_bytes caps) → IsSpelling hello (ClientCaps caps) (hello_bytes (ClientCaps caps))
unfolding hello
client_caps_spelled caps each = written hello (ClientCaps caps) _ λ after.
    header_among_then hellos ClientCapability refl (spelling_last caps (sets_bytes caps) each (done_last (ClientCaps caps) after))

pub logged_on_spelled : IsSpelling hello LoggedOn (hello_bytes LoggedOn)
unfolding hello
logged_on_spelled = written hello LoggedOn _ λ after. header_among_then hellos UserLoggedOn refl (done_last LoggedOn after)
