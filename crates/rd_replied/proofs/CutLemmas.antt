-- A reply is that of a request that ran; and what came before a cut in a journal.
use Rattle.std.proofs.Common.{◌≡◌, ◌⊎◌, ◌∙◌, refl, sym, ap, subst, inl, inr, ℕ, suc, arith, Bool, true, false, List, [], ◌∷◌, ◌++◌, length, map, reverse, Some}
use Rattle.std.specs.Prelude.{slice_get}
use Rattle.std.proofs.lemmas.List.{reverse-append}
use Rattle.rd_base.specs.Lawful.{IsBefore}
use Rattle.rd_base.specs.declared.journal.Cause.TheVariants.{Dropped, Removed}
use Rattle.rd_base.specs.declared.journal.Item.{Item}
use Rattle.rd_base.specs.declared.journal.Item.TheVariants.{Came, Cancelled, Cut, Ran, Sent}
use Rattle.rd_base.specs.declared.journal.Key.{Key}
use Rattle.rd_drive.specs.Device.{AreEnded, Parked, Parks, parked_by}
use Rattle.rd_drive.specs.Promise.{Cancels, cut_end}
use Rattle.rd_drive.specs.Replies.{KeyedReply, end_reply, own_reply, replies_at, replies_by}
use Rattle.rd_drive.specs.Stepped.{Stepped}
use Rattle.rd_drive.specs.declared.plan.Job.{Job}
use Rattle.rd_drive.specs.declared.step.End.{End}
use Rattle.rd_drive.specs.declared.step.Step.{Step}
use Rattle.rd_drive.specs.declared.step.Step.TheVariants as step
use Rattle.rd_drive.proofs.BoundedLemmas.{bounded_devices}
use Rattle.rd_irp.specs.declared.completion.Reply.{Reply}
use Rattle.rd_irp.specs.declared.request.Request.{Request}
use Rattle.rd_journals.specs.Stations.{IsFit}
use Rattle.rd_journals.proofs.DeviceLemmas.{cut_fits, step_fits}
use Rattle.rd_printer.proofs.PrinterLemmas.{printers_step}
use Rattle.rd_station.proofs.Members.{from_contains, has_append, has_right}
use Rattle.rd_declared.specs.Devices.{device_cut, device_parked, device_step}
use Rattle.rd_deeds.specs.Talk.{Has}
use Rattle.rd_declared.specs.declared.device.SessionDevice.{SessionDevice}
use Rattle.rd_declared.specs.declared.device.SessionDevice.TheVariants as session
use Rattle.rd_deeds.proofs.Journals.{HasRun, has_contains}
use Rattle.rd_replied.specs.Removals.{IsCutSince}

-- ---- what waits in a device

abbrev IsWaiting : Key → List Parked → Type 0
IsWaiting k ps = (p : Parked) × Has p ps × (p.key ≡ k)

end_waits : (ps : List Parked) (ends : List End) (left : List Parked) → AreEnded ps ends left → (e : End) → Has e ends → IsWaiting e.key ps
end_waits [] ends left are e has = absurd (subst (Has e) are.0 has)
end_waits (p ∷ ps) ends left (inl one) e has = elim (subst (Has e) one.2 has) [
  | inl here ↦ (p, inl refl, sym one.3.0 ∙ ap (λ (x : End). x.key) (sym here))
  | inr later ↦ let (q, there, same) = end_waits ps one.1 left one.4 e later in (q, inr there, same)
]
end_waits (p ∷ ps) ends left (inr on) e has = let (q, there, same) = end_waits ps ends on.0 on.2 e has in (q, inr there, same)

left_waits : (ps : List Parked) (ends : List End) (left : List Parked) → AreEnded ps ends left → (q : Parked) → Has q left → Has q ps
left_waits [] ends left are q has = absurd (subst (Has q) are.1 has)
left_waits (p ∷ ps) ends left (inl one) q has = inr (left_waits ps one.1 left one.4 q has)
left_waits (p ∷ ps) ends left (inr on) q has = elim (subst (Has q) on.1 has) [ inl here ↦ inl here | inr later ↦ inr (left_waits ps ends on.0 on.2 q later) ]

replied_end : (k : Key) (r : Reply) (ends : List End) → Has (k, r) (map end_reply ends) → (e : End) × Has e ends × (e.key ≡ k)
replied_end k r [] has = absurd has
replied_end k r (e ∷ ends) (inl same) = (e, inl refl, ap (λ (x : KeyedReply). x.0) (sym same))
replied_end k r (e ∷ ends) (inr has) = let (f, there, is) = replied_end k r ends has in (f, inr there, is)

cut_waits : (ps : List Parked) (e : End) → Has e (map cut_end ps) → IsWaiting e.key ps
cut_waits [] e has = absurd has
cut_waits (p ∷ ps) e (inl same) = (p, inl refl, ap (λ (x : End). x.key) (sym same))
cut_waits (p ∷ ps) e (inr has) = let (q, there, is) = cut_waits ps e has in (q, inr there, is)

own_is : (key k : Key) (r : Reply) (answer : Step) → Has (k, r) (own_reply key answer) → key ≡ k
own_is key k r (step.Reply reply) (inl same) = ap (λ (x : KeyedReply). x.0) (sym same)
own_is key k r (step.Reply reply) (inr none) = absurd none
own_is key k r step.Parked has = absurd has

own_waits : (job : Job) (answer : Step) (q : Parked) → Has q (parked_by job answer) → q.key ≡ job.key
own_waits job (step.Reply reply) q has = absurd has
own_waits job step.Parked q (inl same) = ap (λ (x : Parked). x.key) same
own_waits job step.Parked q (inr none) = absurd none

parks : (s : SessionDevice) (job : Job) (moment : ℕ) → IsFit s → let came = device_step s job.key job.file job.op moment in Parks job (device_parked s) came.answer came.ends (device_parked came.state)
parks (session.Drive s) job moment fit = bounded_devices.parks s job moment fit
parks (session.Printer s) job moment fit = printers_step.parks s job moment tt

cancels : (s : SessionDevice) → IsFit s → Cancels device_step device_cut device_parked s
cancels (session.Drive s) fit = let is = bounded_devices.cancels s fit in record { ends = is.ends; none = is.none }
cancels (session.Printer s) fit = let is = printers_step.cancels s tt in record { ends = is.ends; none = is.none }

-- ---- replies

run_later : (k : Key) (x : Item) (items : List Item) → HasRun k items → HasRun k (x ∷ items)
run_later k x items (m, s, p, has) = (m, s, p, inr has)

run_here : (key k : Key) (moment : ℕ) (starved mark : Bool) (items : List Item) → key ≡ k → HasRun k (Ran key moment starved mark ∷ items)
run_here key k moment starved mark items same = (moment, starved, mark, inl (ap (λ (x : Key). Ran x moment starved mark) (sym same)))

module _ (requests : Key → Request) (k : Key) (r : Reply) where
  -- a reply is that of a request that waited at the beginning, or that ran
  pub gives_run : (items : List Item) (s : SessionDevice) → IsFit s → Has (k, r) (replies_by device_step device_cut requests s items) → IsWaiting k (device_parked s) ⊎ HasRun k items
  gives_run [] s fit has = absurd has
  gives_run (Came key ∷ items) s fit has = elim (gives_run items s fit has) [ inl waits ↦ inl waits | inr run ↦ inr (run_later k (Came key) items run) ]
  gives_run (Cancelled key ∷ items) s fit has = elim (gives_run items s fit has) [ inl waits ↦ inl waits | inr run ↦ inr (run_later k (Cancelled key) items run) ]
  gives_run (Sent key ∷ items) s fit has = elim (gives_run items s fit has) [ inl waits ↦ inl waits | inr run ↦ inr (run_later k (Sent key) items run) ]
  gives_run (Cut cause ∷ items) s fit has = elim (has_append (k, r) (map end_reply (device_cut s).ends) (replies_by device_step device_cut requests (device_cut s).state items) has) [
    | inl now ↦
        let (e, there, is) = replied_end k r (device_cut s).ends now in
        let (p, waits, same) = cut_waits (device_parked s) e (subst (Has e) (cancels s fit).ends there) in inl (p, waits, same ∙ is)
    | inr later ↦ elim (gives_run items (device_cut s).state (cut_fits s fit) later) [
      | inl waits ↦ absurd (subst (Has waits.0) (cancels s fit).none waits.1)
      | inr run ↦ inr (run_later k (Cut cause) items run)
    ]
  ]
  gives_run (Ran key moment true mark ∷ items) s fit has = elim (has_append (k, r) (replies_at device_step device_cut requests s (Ran key moment true mark)) (replies_by device_step device_cut requests s items) has) [
    | inl now ↦ elim now [ inl same ↦ inr (run_here key k moment true mark items (ap (λ (x : KeyedReply). x.0) (sym same))) | inr none ↦ absurd none ]
    | inr later ↦ elim (gives_run items s fit later) [ inl waits ↦ inl waits | inr run ↦ inr (run_later k (Ran key moment true mark) items run) ]
  ]
  gives_run (Ran key moment false mark ∷ items) s fit has =
      let job : Job = record { key = key; file = (requests key).file; completion = (requests key).completion; op = (requests key).op } in
      let came : Stepped SessionDevice = device_step s key (requests key).file (requests key).op moment in
      let does = parks s job moment fit in
      elim (has_append (k, r) (own_reply key came.answer ++ map end_reply came.ends) (replies_by device_step device_cut requests came.state items) has) [
        | inl now ↦ elim (has_append (k, r) (own_reply key came.answer) (map end_reply came.ends) now) [
          | inl own ↦ inr (run_here key k moment false mark items (own_is key k r came.answer own))
          | inr ended ↦
              let (e, there, is) = replied_end k r came.ends ended in
              let (p, waits, same) = end_waits (device_parked s) came.ends does.left does.ended e there in inl (p, waits, same ∙ is)
        ]
        | inr later ↦ elim (gives_run items came.state (step_fits s key (requests key).file (requests key).op moment fit) later) [
          | inl waits ↦ elim (has_append waits.0 does.left (parked_by job came.answer) (subst (Has waits.0) does.waits waits.1)) [
            | inl old ↦ inl (waits.0, left_waits (device_parked s) came.ends does.left does.ended waits.0 old, waits.2)
            | inr own ↦ inr (run_here key k moment false mark items (sym (own_waits job came.answer waits.0 own) ∙ waits.2))
          ]
          | inr run ↦ inr (run_later k (Ran key moment false mark) items run)
        ]
      ]

-- ---- what came before a cut

pub turn : (x : Item) (xs : List Item) → Has x xs → Has x (reverse xs)
turn x xs has = from_contains (reverse xs) x (has_contains x xs has)

pub since_add : (key : Key) (x : Item) (items : List Item) → IsCutSince items key → IsCutSince (x ∷ items) key
since_add key (Cut Removed) items is = inr is
since_add key (Cut Dropped) items is = is
since_add key (Came k) items is = is
since_add key (Ran k m s p) items is = is
since_add key (Cancelled k) items is = is
since_add key (Sent k) items is = is

pub since_join : (key : Key) (items old : List Item) → Has (Cut Removed) items → Has (Came key) old → IsCutSince (items ++ old) key
since_join key [] old has came = absurd has
since_join key (x ∷ items) old (inl same) came = subst (λ (y : Item). IsCutSince (y ∷ items ++ old) key) same (inl (has_right (Came key) items old came))
since_join key (x ∷ items) old (inr has) came = since_add key x (items ++ old) (since_join key items old has came)

-- by the entries in their order
pub since_of : (key : Key) (first last : List Item) → Has (Came key) first → IsCutSince (reverse (first ++ Cut Removed ∷ last)) key
since_of key first last came =
    subst (λ (xs : List Item). IsCutSince xs key) (sym (reverse-append first (Cut Removed ∷ last)))
    (since_join key (reverse (Cut Removed ∷ last)) (reverse first) (turn (Cut Removed) (Cut Removed ∷ last) (inl refl)) (turn (Came key) first came))

cut_at : (first last : List Item) (b : Item) → slice_get (first ++ b ∷ last) (length first) ≡ Some b
cut_at [] last b = refl
cut_at (x ∷ first) last b = cut_at first last b

pub is_before : (a b : Item) (first last : List Item) → Has a first → IsBefore (first ++ b ∷ last) a b
is_before a b [] last has = absurd has
is_before a b (x ∷ first) last (inl same) = (0, suc (length first), omega arith, ap (λ (y : Item). Some y) (sym same), cut_at first last b)
is_before a b (x ∷ first) last (inr has) = let (i, j, less, p, q) = is_before a b first last has in (suc i, suc j, omega (arith, less), p, q)
