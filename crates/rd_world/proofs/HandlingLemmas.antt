-- The reading ends: what an end has still to handle gets shorter with each message.
use Rattle.std.proofs.Common.{◌≡◌, ◌≤◌, ◌<◌, ℕ, zero, suc, ◌+◌, arith, sym, ◌∙◌, ap, refl, length, ◌++◌, List, Some, None, Option, true, false, length-append}
use Rattle.std.specs.Prelude.{is_some}
use Rattle.rd_world.specs.World.{WayState, WorldState, first_message, handling, handling_by, most_messages}
use Rattle.rd_world.specs.Hearing.{client_handles, client_handles_all, client_hears, host_handles, host_hears}
use Rattle.rd_world.proofs.WayStreamLemmas.{message_shorter}

-- how many bytes an end has that aren't joined to messages
abbrev pub left_in : WayState → ℕ
left_in y = length y.part + length y.unhandled

pub handled_less : (y after : WayState) (message : List ℕ) → handling y ≡ (after, Some message) → left_in after < left_in y
handled_less y after message e = go (first_message (y.part ++ y.unhandled)) refl
  where
    go : (o : Option (List ℕ × List ℕ)) → first_message (y.part ++ y.unhandled) ≡ o → left_in after < left_in y
    go None is =
        let told : handling_by y None ≡ (after, Some message) = rw is at e in
        let no : (handling_by y None).1 ≡ Some message = ap (λ (x : WayState × Option (List ℕ)). x.1) told in
        absurd (cc no)
    go (Some (m, rest)) is =
        let same : handling_by y (Some (m, rest)) ≡ (after, Some message) = rw is at e in
        let shorter = message_shorter (length (y.part ++ y.unhandled)) _ (y.part ++ y.unhandled) m rest is in
        let left : left_in (handling_by y (Some (m, rest))).0 ≡ left_in after = ap (λ (x : WayState × Option (List ℕ)). left_in x.0) same in
        omega (arith, shorter, length-append y.part y.unhandled, left)

-- one message more
pub client_handles_more : (most : ℕ) (w : WorldState) (y : WayState) (message : List ℕ) → is_some w.kept ≡ false → handling w.to_client ≡ (y, Some message)
    → client_handles (suc most) w ≡ client_handles most (client_hears (record w { to_client = y }) message)
client_handles_more most w y message none e = rw (none, e) refl

pub client_handles_kept : (most : ℕ) (w : WorldState) → is_some w.kept ≡ true → client_handles most w ≡ w
client_handles_kept zero w kept = refl
client_handles_kept (suc most) w kept = rw kept refl

pub client_handles_last : (most : ℕ) (w : WorldState) (y : WayState) → is_some w.kept ≡ false → handling w.to_client ≡ (y, None)
    → client_handles (suc most) w ≡ record w { to_client = y }
client_handles_last most w y none e = rw (none, e) refl

pub host_handles_more : (most : ℕ) (w : WorldState) (y : WayState) (message : List ℕ) → handling w.to_host ≡ (y, Some message)
    → host_handles (suc most) w ≡ host_handles most (host_hears (record w { to_host = y }) message)
host_handles_more most w y message e = rw e refl

pub host_handles_last : (most : ℕ) (w : WorldState) (y : WayState) → handling w.to_host ≡ (y, None) → host_handles (suc most) w ≡ record w { to_host = y }
host_handles_last most w y e = rw e refl

-- ---- a turn of the loops that handle

pub client_step : (k : ℕ) (start w x : WorldState) (y : WayState) (message : List ℕ) → client_handles_all start ≡ client_handles (suc k) w → left_in w.to_client ≤ k
    → is_some w.kept ≡ false → handling w.to_client ≡ (y, Some message) → x ≡ client_hears (record w { to_client = y }) message → x.to_client ≡ y
    → (j : ℕ) × (client_handles_all start ≡ client_handles (suc j) x) × (left_in x.to_client ≤ j)
client_step zero start w x y message reached few none handled heard way = absurd (omega (arith, few, handled_less w.to_client y message handled))
client_step (suc k) start w x y message reached few none handled heard way = (
  k,
  reached ∙ client_handles_more (suc k) w y message none handled ∙ ap (client_handles (suc k)) (sym heard),
  omega (arith, few, handled_less w.to_client y message handled, ap left_in way),
)

pub host_step : (k : ℕ) (start : WorldState) (w x : WorldState) (y : WayState) (message : List ℕ) → host_handles (most_messages start.to_host) start ≡ host_handles (suc k) w
    → left_in w.to_host ≤ k → handling w.to_host ≡ (y, Some message) → x ≡ host_hears (record w { to_host = y }) message → x.to_host ≡ y
    → (j : ℕ) × (host_handles (most_messages start.to_host) start ≡ host_handles (suc j) x) × (left_in x.to_host ≤ j)
host_step zero start w x y message reached few handled heard way = absurd (omega (arith, few, handled_less w.to_host y message handled))
host_step (suc k) start w x y message reached few handled heard way = (
  k,
  reached ∙ host_handles_more (suc k) w y message handled ∙ ap (host_handles (suc k)) (sym heard),
  omega (arith, few, handled_less w.to_host y message handled, ap left_in way),
)
