-- What the clauses refuse.
use Rattle.std.proofs.Common.{◌≡◌, ◌≢◌, ◌∙◌, refl, sym, ap, subst, arith, ℕ, zero, suc, ◌||◌, Bool, false, true, List, [], ◌∷◌, Option, Some, None}
use Rattle.std.specs.Prelude.{Any, Contains, filter_map, length, reverse}
use Rattle.std.specs.List.{list_any}
use Rattle.std.proofs.lemmas.List.Elements.{All-head, All-tail}
use Rattle.std.proofs.lemmas.List.Folds.{list_any-append}
use Rattle.rd_base.specs.Lawful.{EachEntry, SendsFirst, Settles, SettlesFirst}
use Rattle.rd_base.specs.declared.journal.Item.TheVariants.{Came, Ran, Sent}
use Rattle.rd_base.specs.declared.journal.Item.{Item}
use Rattle.rd_base.specs.declared.journal.Key.{Key}
use Rattle.rd_base.specs.Fields.{bytes16, bytes32, bytes64, bytes8}
use Rattle.rd_base.specs.Header.{component_field, header, header_among}
use Rattle.rd_irp.specs.declared.completion.Reply.{Reply}
use Rattle.rd_irp.specs.declared.request.Request.{Request}
use Rattle.std.specs.Option.{option_map_or}
use Rattle.rd_irp.specs.Op.{close_body, op_body}
use Rattle.rd_irp.specs.Request.{request_head}
use Rattle.rd_irp.specs.Completion.{completion_body, success_body}
use Rattle.rd_irp.specs.Written.{request_bytes}
use Rattle.rd_pending.specs.Outcomes.{accepted_outcome}
use Rattle.rd_pending.specs.Outcomes.Tidings.{begins, completes, removes}
use Rattle.rd_pending.specs.declared.calls.Outcome as table_outcome
use Rattle.rd_pending.specs.declared.calls.Outcome.TheVariants.{Done}
use Rattle.rd_pending.specs.declared.calls.SubmitNo.{SubmitNo}
use Rattle.rd_pending.specs.declared.calls.Target.{Target}
use Rattle.rd_pending.specs.Table.{submit_refusal}
use Rattle.rd_script.specs.declared.outcome.Outcome.{Outcome}
use Rattle.rd_world.specs.Acts.{act_by, control_by}
use Rattle.rd_world.specs.Control.{Act, controlled}
use Rattle.rd_declared.specs.Devices.{Declared}
use Rattle.rd_world.specs.Events.{target_of}
use Rattle.rd_deeds.specs.HostDeeds.{MayDo, side_after, side_of}
use Rattle.rd_deeds.specs.Joining.{HasReply, IsOwnReply, request_of_accepted}
use Rattle.rd_world.specs.Lines.{AskedEnds, IsAccepted, IsHandedOut, LineEnds, LinesEnd, Waits, outcome_at}
use Rattle.rd_declared.specs.Declaring.{bare_lines, declared_devices}
use Rattle.rd_world.specs.Recording.{client_id}
use Rattle.rd_world.specs.Run.{notice_of}
use Rattle.rd_deeds.specs.Talk.{Deed, client_reads, host_begins, takes}
use Rattle.rd_deeds.specs.Told.{Replies}
use Rattle.rd_world.specs.World.{ApplicationState, Asked}
use Rattle.rd_headline.specs.Wrong.{closed_bytes, earlier_accepted, first_key, head_of_both, knows_first, later_accepted, lost_untaken, other_file, ran_twice, removing_lines, replied_done, replied_refused, sent_unrun, unheard}

pub sent_without_run : ¬ (EachEntry SendsFirst sent_unrun)
sent_without_run each = none ((each (Came first_key ∷ []) (Sent first_key) [] refl).0)
  where
    none : ¬ (Any (Settles first_key) (Came first_key ∷ []))
    none (zero, x, below, is, settles) = subst (Settles first_key) (sym is) settles
    none (suc k, x, below, is, settles) = omega (arith, below)

pub ran_again : ¬ (EachEntry SettlesFirst ran_twice)
ran_again each = All-head (λ (entry : Item). ¬ (Settles first_key entry)) (Ran first_key 0 false false) []
    (All-tail (λ (entry : Item). ¬ (Settles first_key entry)) (Came first_key) (Ran first_key 0 false false ∷ []) (each (Came first_key ∷ Ran first_key 0 false false ∷ []) (Ran first_key 0 false false) [] refl).1) refl

pub other_reply : ¬ (HasReply ((first_key, replied_done) ∷ []) first_key replied_refused)
other_reply has = none has.has
  where
    none : ¬ (Contains {X = Key × Reply} ((first_key, replied_done) ∷ []) (first_key, replied_refused))
    none (zero, below, is) =
        let status : 0 ≡ 3221225486 = ap (λ (e : Key × Reply). ((e.1).status).0) is in
        omega (arith, status)
    none (suc k, below, is) = omega (arith, below)

pub other_file_read : (replies : Replies) → ¬ (IsOwnReply replies (client_reads 1 (request_bytes other_file) ∷ []) earlier_accepted replied_done)
unfolding header_among component_field request_head header op_body close_body bytes8 bytes16 bytes32 bytes64
other_file_read replies own =
    let read : Some other_file ≡ Some (request_of_accepted earlier_accepted) = own.read in
    let file : 2 ≡ 1 = ap (λ (r : Option Request). option_map_or (λ (x : Request). x.file) r 0) read in
    omega (arith, file)

-- nothing comes out after the last line
pub one_outcome : (devices : List (ℕ × Declared)) (deeds : List Deed) (holds : ApplicationState) (x : Waits) (o other : Outcome) (from : List Deed) → ¬ (LinesEnd devices deeds 1 holds (x ∷ []) (o ∷ other ∷ []) (λ later. Unit {0}) from)
one_outcome devices deeds holds x o other from (before, nothing, received, due, ends) = line (target_of holds x.asked) ends
  where
    asked : (named : Target) (r : Option SubmitNo) → ¬ (AskedEnds devices deeds 1 holds x.asked o (λ next received after. LinesEnd devices deeds 1 next [] (other ∷ []) received after) before named r)
    asked named (Some cause) (why, on) = on
    asked named None (after, parts, came, comes, said, on) = on

    line : (n : Option Target) → ¬ (LineEnds devices deeds 1 holds x.asked o (λ next received after. LinesEnd devices deeds 1 next [] (other ∷ []) received after) before n)
    line None (why, on) = on
    line (Some named) ends = asked named (submit_refusal (side_of client_id before).table named) ends

-- whether a deed hands out an outcome
abbrev is_taking : Deed → Bool
is_taking (takes number) = true
is_taking _ = false

none_taken : (number : ℕ) (came : table_outcome.Outcome) → ¬ (IsHandedOut number came lost_untaken)
none_taken number came is = none (list_any is_taking is.later) (ap (list_any is_taking) is.taken ∙ list_any-append is_taking is.later (takes number ∷ is.before))
  where
    none : (b : Bool) → ¬ (false ≡ (b || true))
    none true e = absurd (cc e)
    none false e = absurd (cc e)

pub never_taken : (devices : List (ℕ × Declared)) (holds : ApplicationState) (x : Asked) (o : Outcome) (before : List Deed) (named : Target) (count : ℕ)
    → ¬ (IsAccepted devices lost_untaken 1 holds x o (λ next received after. LinesEnd devices lost_untaken 1 next [] [] received after) before named count)
never_taken devices holds x o before named count (after, parts, came, comes, said, on) = none_taken (suc count) came on.1

pub never_heard : (devices : List (ℕ × Declared)) (holds : ApplicationState) (x : Asked) (o : Outcome) (before : List Deed) (named : Target)
    → ¬ (IsAccepted devices unheard 1 holds x o (λ next received after. Unit {0}) before named 0)
never_heard devices holds x o before named (after, parts, came, comes, said, on) = absurd (cc (sym nothing ∙ comes))
  where
    nothing : outcome_at unheard 0 ≡ None
    nothing = refl

pub taken_once : MayDo knows_first (takes 1) × ¬ (MayDo (side_after knows_first (takes 1)) (takes 1))
taken_once = (refl, λ again. absurd (cc again))

pub earlier_completion : accepted_outcome (earlier_accepted ∷ []) later_accepted 0 (begins 1 ∷ completes head_of_both closed_bytes ∷ []) false ≡ None
earlier_completion = refl

pub lost_by_another : accepted_outcome [] earlier_accepted 0 (begins 1 ∷ removes 2 ∷ []) false ≡ None
lost_by_another = refl

pub lost_while_open : accepted_outcome [] earlier_accepted 0 (begins 1 ∷ []) false ≡ None
lost_while_open = refl

pub lost_though_heard : accepted_outcome [] earlier_accepted 0 (begins 1 ∷ completes head_of_both closed_bytes ∷ removes 1 ∷ []) true ≡ Some (Done replied_done)
unfolding completion_body success_body
lost_though_heard = refl

pub not_removed : filter_map act_by (reverse (host_begins 1 ∷ [])) ≢ (control_by (declared_devices (bare_lines removing_lines)) removing_lines).acts
unfolding controlled notice_of
not_removed same =
    let one : length (filter_map act_by (reverse (host_begins 1 ∷ []))) ≡ 1 = refl in
    let two : length (control_by (declared_devices (bare_lines removing_lines)) removing_lines).acts ≡ 2 = refl in
    omega (arith, one, two, ap (λ (acts : List Act). length acts) same)
