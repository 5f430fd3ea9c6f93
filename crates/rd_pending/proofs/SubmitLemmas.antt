-- What a request that is accepted makes of a table.
use Rattle.std.proofs.Common.{◌≡◌, ◌∙◌, sym, ap, ℕ, suc, ◌+◌, false, List, [], ◌∷◌, ◌++◌, Ok, Option, arith, nat_cmp}
use Rattle.std.specs.BTreeMap.{insert_entry}
use Rattle.std.specs.Option.{unwrap_or}
use Rattle.rd_irp.specs.declared.completion.Kind.{Kind}
use Rattle.rd_irp.specs.declared.op.Op.{Op}
use Rattle.rd_irp.specs.Fits.{kind_of}
use Rattle.rd_irp.specs.Written.{request_bytes}
use Rattle.rd_pending.specs.declared.calls.Target.{Target}
use Rattle.rd_pending.specs.declared.table.Place.{Place}
use Rattle.rd_pending.specs.Places.{IsPlaceFor}
use Rattle.rd_pending.specs.Table.{MaySubmit, Slot, TableState, TableStep, Untaken, accept, awaited, device_in, file_in, life_of, submit, submits}

abbrev slot_with : ℕ → ℕ → Kind → Slot
slot_with number device kind = record { number = number; device = device; kind = kind; dead = false }

-- a table with a request more, of this number, completion id and life
abbrev with_request : TableState → Target → Op → ℕ → ℕ → ℕ → TableState
with_request t named o number id life = record t {
  asked = t.asked + 1;
  slots = insert_entry nat_cmp t.slots id (record { number = number; device = device_in named; kind = kind_of o; dead = false });
  count = number;
  untaken = insert_entry nat_cmp t.untaken number (record { device = device_in named; life = life; fate = awaited });
  outbox = t.outbox ++ request_bytes (record { device = device_in named; file = file_in named; completion = id; op = o }) ∷ [];
}

-- The table is kept with the request and its message, and then with its slot and its number.
pub accepted : (t kept : TableState) (slots : List (ℕ × Slot)) (application : ℕ) (named : Target) (o : Op) (place : Place) (number device file : ℕ) (kind : Kind) (request : Untaken) (message : List ℕ)
    → MaySubmit named o → IsPlaceFor t named place → number ≡ t.count + 1 → device ≡ device_in named → file ≡ file_in named → kind ≡ kind_of o
    → request ≡ record { device = device; life = place.life; fate = awaited }
    → message ≡ request_bytes (record { device = device; file = file; completion = place.id; op = o })
    → kept ≡ record t { untaken = insert_entry nat_cmp t.untaken number request; outbox = t.outbox ++ message ∷ [] }
    → slots ≡ insert_entry nat_cmp kept.slots place.id (record { number = number; device = device; kind = kind; dead = false })
    → TableStep t (submits application named o (Ok number)) (record kept { asked = kept.asked + 1; slots = slots; count = number })
accepted t kept slots application named o place number device file kind request message may p counts names opens lays asks says is held = (may, answers ∙ ap (λ (n : ℕ). (record kept { asked = kept.asked + 1; slots = slots; count = number }, Ok n)) next)
  where
    next : suc t.count ≡ number
    next = omega (arith, counts)

    life : unwrap_or (life_of t (device_in named)) 0 ≡ place.life
    life = ap (λ (l : Option ℕ). unwrap_or l 0) p.life

    made : accept t named o ≡ with_request t named o number place.id place.life
    made = let n = next in let l = life in let i = p.id in cc

    spelled : message ≡ request_bytes (record { device = device_in named; file = file_in named; completion = place.id; op = o })
    spelled =
        says
        ∙ ap (λ (d : ℕ). request_bytes (record { device = d; file = file; completion = place.id; op = o })) names
        ∙ ap (λ (f : ℕ). request_bytes (record { device = device_in named; file = f; completion = place.id; op = o })) opens

    asked : request ≡ record { device = device_in named; life = place.life; fate = awaited }
    asked = asks ∙ ap (λ (d : ℕ). record { device = d; life = place.life; fate = awaited }) names

    slot : (record { number = number; device = device; kind = kind; dead = false }) ≡ slot_with number (device_in named) (kind_of o)
    slot = ap (λ (d : ℕ). slot_with number d kind) names ∙ ap (slot_with number (device_in named)) lays

    filled : record kept { asked = kept.asked + 1; slots = slots; count = number } ≡ with_request t named o number place.id place.life
    filled =
        ap (λ (s : List (ℕ × Slot)). record kept { asked = kept.asked + 1; slots = s; count = number }) held
        ∙ ap (λ (k : TableState). record k { asked = k.asked + 1; slots = insert_entry nat_cmp k.slots place.id (slot_with number device kind); count = number }) is
        ∙ ap (λ (s : Slot). record t {
          asked = t.asked + 1;
          slots = insert_entry nat_cmp t.slots place.id s;
          count = number;
          untaken = insert_entry nat_cmp t.untaken number request;
          outbox = t.outbox ++ message ∷ [];
        }) slot
        ∙ ap (λ (u : Untaken). record t {
          asked = t.asked + 1;
          slots = insert_entry nat_cmp t.slots place.id (slot_with number (device_in named) (kind_of o));
          count = number;
          untaken = insert_entry nat_cmp t.untaken number u;
          outbox = t.outbox ++ message ∷ [];
        }) asked
        ∙ ap (λ (m : List ℕ). record t {
          asked = t.asked + 1;
          slots = insert_entry nat_cmp t.slots place.id (slot_with number (device_in named) (kind_of o));
          count = number;
          untaken = insert_entry nat_cmp t.untaken number (record { device = device_in named; life = place.life; fate = awaited });
          outbox = t.outbox ++ m ∷ [];
        }) spelled

    new : accept t named o ≡ record kept { asked = kept.asked + 1; slots = slots; count = number }
    new = made ∙ sym filled

    answers : submit t application named o ≡ (record kept { asked = kept.asked + 1; slots = slots; count = number }, Ok (suc t.count))
    answers = rw p.accepted (ap (λ (a : TableState). (a, Ok (suc t.count))) new)
