-- Where a history begins, and where it leads.
use Rattle.std.proofs.Common.{◌≡◌, ◌∙◌, sym, ap, subst, ℕ, zero, suc, Bool, true, false, cond, List, [], ◌∷◌, Some, slice_get}
use Rattle.std.specs.List.{AllByRecursion}
use Rattle.std.specs.Map.{lookup}
use Rattle.std.specs.Ordering.{nat_cmp}
use Rattle.std.specs.BTreeMap.{is_at}
use Rattle.rd_desk.specs.Desk.{told_calls}
use Rattle.rd_desk.specs.declared.calls.DeskCall.{DeskCall}
use Rattle.rd_desk.specs.declared.calls.DeskReply.{DeskReply}
use Rattle.rd_front.specs.State.{DeviceDeskState, SessionStation}
use Rattle.rd_refused.specs.JournalsJobs.{IsJobOf}
use Rattle.rd_station.specs.Station.{new_station}
use Rattle.rd_turn.specs.declared.object.Entry.{Entry}
use Rattle.rd_served.specs.Histories.{AreStationed, BeginsNew, IsNewDesk}
use Rattle.rd_served.specs.Served.{IsStationed, Served}
use Rattle.rd_served.specs.ServedDevices.{ServedDeviceState, served_parked}
use Rattle.rd_served.proofs.CauseLemmas.{AnyRequest}
use Rattle.rd_served.proofs.StandingLemmas.{IsKnownAt, begins_known}
use Rattle.rd_served_replies.specs.Premises.{AreOpened, IsFitServed}
use Rattle.rd_served_replies.proofs.FollowLemmas.{IsFollowed}
use Rattle.rd_served_replies.proofs.GivenLemmas.{PutOf}

abbrev Of : Type 0
Of = SessionStation

-- a turn that opened with a new station of a device in which nothing waits
pub record IsNewStation (device : ℕ) (o : Of) : Type 0 where
  pub opening : ServedDeviceState
  pub nothing : served_parked opening ≡ []
  pub is : o ≡ new_station opening

-- one of these devices, which is fit, and in which nothing waits
pub record IsOneOf (devices : List (ℕ × ServedDeviceState)) (device : ℕ) (o : Of) : Type 0 where
  pub opening : ServedDeviceState
  pub found : lookup (is_at (nat_cmp device)) devices ≡ Some opening
  pub fit : IsFitServed opening
  pub nothing : served_parked opening ≡ []
  pub is : o ≡ new_station opening

fit_at : (devices : List (ℕ × ServedDeviceState)) (device : ℕ) (x : ServedDeviceState) → AllByRecursion (λ (e : ℕ × ServedDeviceState). IsFitServed e.1) devices → lookup (is_at (nat_cmp device)) devices ≡ Some x → IsFitServed x
fit_at [] device x all found = absurd (cc (found))
fit_at (e ∷ devices) device x all found = by (is_at (nat_cmp device) e.0) found (fit_at devices device x all.1)
  where
    by : (b : Bool) → cond b (Some e.1) (lookup (is_at (nat_cmp device)) devices) ≡ Some x → (lookup (is_at (nat_cmp device)) devices ≡ Some x → IsFitServed x) → IsFitServed x
    by true found later = let same : e.1 ≡ x = cc (found) in subst IsFitServed same all.0
    by false found later = later found

pub known_first : (p : Served) → BeginsNew p → IsKnownAt p []
known_first p begins = begins_known p begins.new begins.apart begins.stationed begins.idle_is

stationed_at : (ds : List DeviceDeskState) (ss : List Of) → AreStationed ds ss → (place : ℕ) (d : DeviceDeskState) (s : Of) → slice_get ds place ≡ Some d → slice_get ss place ≡ Some s → IsStationed d s
stationed_at [] [] are place d s at has = absurd (cc (at))
stationed_at [] (t ∷ ss) are place d s at has = absurd are
stationed_at (e ∷ ds) [] are place d s at has = absurd are
stationed_at (e ∷ ds) (t ∷ ss) are zero d s at has =
    let same : e ≡ d = cc (at) in
    let same_station : t ≡ s = cc (has) in
    subst (λ (x : DeviceDeskState). IsStationed x s) same (subst (IsStationed e) same_station are.0)
stationed_at (e ∷ ds) (t ∷ ss) are (suc place) d s at has = stationed_at ds ss are.1 place d s at has

new_desk : (ds : List DeviceDeskState) → AllByRecursion IsNewDesk ds → (place : ℕ) (d : DeviceDeskState) → slice_get ds place ≡ Some d → IsNewDesk d
new_desk [] all place d at = absurd (cc (at))
new_desk (e ∷ ds) all zero d at = let same : e ≡ d = cc (at) in subst IsNewDesk same all.0
new_desk (e ∷ ds) all (suc place) d at = new_desk ds all.1 place d at

pub follows_first : (Open : ℕ → Of → Type 0) (p : Served) → BeginsNew p → ((place : ℕ) (d : DeviceDeskState) → slice_get (p.front).desks place ≡ Some d → Open d.id (d.turn).opening) → IsFollowed Open p []
follows_first Open p begins opens_so = record {
  stationed = λ place d s at. stationed_at (p.front).desks p.stations begins.stationed place d s at.0 at.1;
  opened = opens_so;
  puts = λ place d at. subst (λ (es : List (Entry DeskCall DeskReply)). AllByRecursion (PutOf (IsJobOf AnyRequest [] d.id)) (told_calls es)) (sym (new_desk (p.front).desks (begins.new).desks place d at).unseen) tt;
}

pub first_new : (p : Served) → BeginsNew p → IsFollowed IsNewStation p []
first_new p begins = follows_first IsNewStation p begins (λ place d at.
    let new = new_desk (p.front).desks (begins.new).desks place d at in record { opening = new.device; nothing = new.nothing; is = new.opening })

pub first_of : (devices : List (ℕ × ServedDeviceState)) (p : Served) → BeginsNew p → AreOpened devices (p.front).desks → IsFollowed (IsOneOf devices) p []
first_of devices p begins opened = follows_first (IsOneOf devices) p begins (λ place d at.
    let (x, found, opens_so) = opened.each place d at in
    let new = new_desk (p.front).desks (begins.new).desks place d at in
    let same : new.device ≡ x = ap (λ (s : Of). s.device) (sym new.opening ∙ opens_so) in
    record { opening = x; found = found; fit = fit_at devices d.id x opened.fit found; nothing = subst (λ (y : ServedDeviceState). served_parked y ≡ []) same new.nothing; is = opens_so })
