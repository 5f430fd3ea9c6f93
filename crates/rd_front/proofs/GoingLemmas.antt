-- What the passes of a front do at their desks.
use Rattle.std.proofs.Common.{◌≡◌, ◌∙◌, refl, sym, subst, ℕ, zero, suc, Bool, true, false, List, [], ◌∷◌, ◌++◌, Option, Some, None, slice_get, slice_set}
use Rattle.std.specs.List.{AllZip}
use Rattle.std.specs.Map.{lookup}
use Rattle.std.specs.Option.{option_map_or}
use Rattle.std.specs.Ordering.{nat_cmp}
use Rattle.std.specs.BTreeMap.{is_at}
use Rattle.std.proofs.lemmas.List.Elements.{All-append, All-cons, All-nil}
use Rattle.rd_client.specs.Core as client
use Rattle.rd_desk.specs.declared.calls.DeskCall.{DeskCall}
use Rattle.rd_desk.specs.declared.calls.DeskReply.{DeskReply}
use Rattle.rd_declared.specs.Devices.{PrinterNames, printer_data}
use Rattle.rd_front.specs.Front.{EndsBy, end_call, with_new_data}
use Rattle.rd_front.specs.Kept.{DeskGoesOn, DesksGoOn, GoesBy, IsFrontCall}
use Rattle.rd_front.specs.State.{SessionPass, DeviceDeskState, FrontState, IsCalled}
use Rattle.rd_front.proofs.StepLemmas.{Carries}

abbrev Made : Type 0
Made = DeskCall × DeskReply

abbrev fits : Made → Type 0
fits c = IsFrontCall c.0

-- ---- one device

stays_put : (d : DeviceDeskState) → DeskGoesOn d d
stays_put d = record { id = refl; turn = refl; same = (refl, refl, refl, refl); calls = []; fit = All-nil fits; goes = refl }

goes_append : (p q r : SessionPass) (xs ys : List Made) → GoesBy p xs q → GoesBy q ys r → GoesBy p (xs ++ ys) r
goes_append p q r [] ys first second = subst (λ (x : SessionPass). GoesBy x ys r) first second
goes_append p q r (x ∷ xs) ys first second = (first.0, first.1, first.2, goes_append first.0 q r xs ys first.3 second)

goes_on : (a b c : DeviceDeskState) → DeskGoesOn a b → DeskGoesOn b c → DeskGoesOn a c
goes_on a b c first second = record {
  id = second.id ∙ first.id;
  turn = second.turn ∙ first.turn;
  same = ((second.same).0 ∙ (first.same).0, (second.same).1 ∙ (first.same).1, (second.same).2 ∙ (first.same).2, (second.same).3 ∙ (first.same).3);
  calls = first.calls ++ second.calls;
  fit = All-append fits first.calls second.calls first.fit second.fit;
  goes = goes_append a.pass b.pass c.pass first.calls second.calls first.goes second.goes;
}

called_on : (a b : DeviceDeskState) (call : DeskCall) (reply : DeskReply) → IsFrontCall call → IsCalled a call reply b → DeskGoesOn a b
called_on a b call reply fit is = record {
  id = is.id;
  turn = is.turn;
  same = is.same;
  calls = (call, reply) ∷ [];
  fit = All-cons fits (call, reply) [] fit (All-nil fits);
  goes = (b.pass, is.same, is.called, refl);
}

-- ---- all of them

all_stay : (ds : List DeviceDeskState) → AllZip DeskGoesOn ds ds
all_stay [] = tt
all_stay (d ∷ ds) = (stays_put d, all_stay ds)

all_go_on : (xs ys zs : List DeviceDeskState) → AllZip DeskGoesOn xs ys → AllZip DeskGoesOn ys zs → AllZip DeskGoesOn xs zs
all_go_on [] [] [] first second = tt
all_go_on [] [] (z ∷ zs) first second = absurd second
all_go_on [] (y ∷ ys) zs first second = absurd first
all_go_on (x ∷ xs) [] zs first second = absurd first
all_go_on (x ∷ xs) (y ∷ ys) [] first second = absurd second
all_go_on (x ∷ xs) (y ∷ ys) (z ∷ zs) first second = (goes_on x y z first.0 second.0, all_go_on xs ys zs first.1 second.1)

one_goes_on : (ds : List DeviceDeskState) (place : ℕ) (before after : DeviceDeskState) → slice_get ds place ≡ Some before → DeskGoesOn before after → AllZip DeskGoesOn ds (slice_set ds place after)
one_goes_on [] place before after there goes = absurd (cc there)
one_goes_on (d ∷ ds) zero before after there goes =
    let same : before ≡ d = cc in
    (subst (λ (x : DeviceDeskState). DeskGoesOn x after) same goes, all_stay ds)
one_goes_on (d ∷ ds) (suc place) before after there goes = (stays_put d, one_goes_on ds place before after there goes)

end_fits : (over : Bool) → IsFrontCall (end_call over)
end_fits true = tt
end_fits false = tt

all_end : (over : Bool) (ds es : List DeviceDeskState) → AllZip (EndsBy (end_call over)) ds es → AllZip DeskGoesOn ds es
all_end over [] [] told = tt
all_end over [] (e ∷ es) told = absurd told
all_end over (d ∷ ds) [] told = absurd told
all_end over (d ∷ ds) (e ∷ es) told = (called_on d e (end_call over) (told.0).0 (end_fits over) (told.0).1, all_end over ds es told.1)

-- the front with the same desks
same_desks : (old made new : FrontState) → made.desks ≡ old.desks → new ≡ made → DesksGoOn old new
same_desks old made new desks is =
    subst (λ (s : FrontState). AllZip DeskGoesOn old.desks s.desks) (sym is) (subst (λ (ds : List DeviceDeskState). AllZip DeskGoesOn old.desks ds) (sym desks) (all_stay old.desks))

refreshed_desks : (s : FrontState) (device : ℕ) → DesksGoOn s (with_new_data s device)
refreshed_desks s device = go (lookup (is_at (nat_cmp device)) s.printers)
  where
    go : (o : Option PrinterNames) → DesksGoOn s (option_map_or (λ (names : PrinterNames). record s { client = client.refresh s.client device (printer_data s.cache names) }) o s)
    go None = all_stay s.desks
    go (Some names) = all_stay s.desks

pub goings : Carries DesksGoOn
goings = record {
  stays = λ s. all_stay s.desks;
  joins = λ a b c first second. all_go_on a.desks b.desks c.desks first second;
  hears_by = λ old new message answer did. same_desks old _ new refl did.1;
  directs_by = λ old new job device st answer did. same_desks old _ new refl did.1;
  removes_by = λ old new device answer did. same_desks old _ new refl did.1;
  adds_by = λ old new device answer did. same_desks old _ new refl did.1;
  sends_by = λ old new sent did. same_desks old _ new refl did.1;
  calls_by = λ old new place does back fit did.
      subst (λ (s : FrontState). AllZip DeskGoesOn old.desks s.desks) (sym did.put_back)
      (one_goes_on old.desks place did.before did.after did.there (called_on did.before did.after does back fit did.called));
  keeps_by = λ s kept. all_stay s.desks;
  learns_by = λ old new n answer heard is. same_desks old _ new refl is;
  refreshes_by = refreshed_desks;
  begins_by = λ s channel. all_stay s.desks;
  ends_by = λ s over desks told. all_end over s.desks desks told;
  over_by = λ s. all_stay s.desks;
}
