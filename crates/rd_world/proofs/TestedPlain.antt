-- Completions that pass tests are written plainly.
use Rattle.std.proofs.Common.{◌≡◌, sym, subst, ℕ, List, [], ◌∷◌, Some, ap₂, ◌∙◌}
use Rattle.rd_deeds.specs.Talk.{Deed, EachAfter, client_read, completes, request_at}
use Rattle.rd_deeds.specs.Told.{CompletesWith}
use Rattle.rd_world.specs.Session.{IsPlain}
use Rattle.rd_deeds.specs.Example.{Submission, completion}
use Rattle.rd_base.specs.declared.journal.Key.{Key}
use Rattle.rd_irp.specs.declared.completion.Reply.{Reply}
use Rattle.rd_irp.specs.declared.request.Request.{Request}
use Rattle.rd_irp.specs.Fits.{kind_of}
use Rattle.rd_irp.specs.Written.{completion_bytes}
use Rattle.rd_deeds.proofs.Taken.{same_request}
use Rattle.rd_deeds.proofs.TestedAnswers.{EachCompletion, same_reply}

-- it is written of a submission and its reply, which was read
abbrev pub IsWritten : List Deed → Key → List ℕ → Type 0
IsWritten before key m = (s : Submission) × (reply : Reply) × (s.key ≡ key) × (completion s reply ≡ m)
    × (request_at (client_read key.channel before) key.index ≡ Some s.request) × CompletesWith s.request reply m

plain_of : (before : List Deed) (key : Key) (m : List ℕ) → IsWritten before key m → IsPlain before (completes key m)
plain_of before key m (s, reply, same_key, written, stands, is) r other found answers =
    let asked : s.request ≡ r = same_request (client_read key.channel before) key.index s.request r stands found in
    let answers_same = subst (λ (q : Request). CompletesWith q other m) (sym asked) answers in
    let same : other ≡ reply = same_reply s.request reply other m is answers_same in
    sym written
    ∙ ap₂ (λ (q : Request) (x : Reply). completion_bytes (kind_of q.op) (record { device = q.device; completion = q.completion; status = x.status }) x.body) asked (sym same)

pub each_plain : (deeds : List Deed) → EachCompletion IsWritten deeds → EachAfter IsPlain deeds
each_plain [] each = tt
each_plain (completes key m ∷ before) each = (plain_of before key m each.0, each_plain before each.1)
each_plain (x ∷ before) each = (tt, each_plain before each)
