-- The worked history, step by step.
use Rattle.std.proofs.Common.{◌≡◌, ◌≢◌, refl, sym, subst, ℕ, zero, suc, ◌+◌, ◌-◌, ◌<◌, lit<, true, false, List, [], ◌∷◌, length, Some, None, arith}
use Rattle.std.specs.Prelude.{Ok, map}
use Rattle.rd_base.specs.Counted.{count_to, counted, counted_bytes, two_fields, four_fields}
use Rattle.rd_base.specs.Header.{component_field, header, header_among}
use Rattle.rd_devices.specs.DeviceList.{announce, device_list}
use Rattle.rd_devices.specs.DeviceReply.{device_reply}
use Rattle.rd_devices.specs.Removal.{removal}
use Rattle.rd_hello.specs.Capability.{special, general, other, body_of, capability, sets}
use Rattle.rd_hello.specs.Hello.{version, name, hello}
use Rattle.rd_irp.specs.Completion.{completion_head}
use Rattle.rd_irp.specs.Op.{close_body, op_body}
use Rattle.rd_irp.specs.Request.{request_head}
use Rattle.rd_printer.specs.Notice.{add_event, update_event, delete_event, rename_event, event_body, cache_data, using_xps, notice}
use Rattle.rd_client.specs.Core.{ClientCoreState, Outgoing, client_hear, direct, direct_bytes, job_of, plain}
use Rattle.rd_client.specs.Worked.{announced, close, close_bytes, confirmed, logged_on, offered, own_confirm, own_list, own_name, own_sets}
use Rattle.rd_base.specs.Statuses.{no_such_device}
use Rattle.rd_client.specs.declared.heard.Heard.TheVariants.{Nothing, Ask}
use Rattle.rd_turn.specs.History.{IsLegal}
use Rattle.rd_front.specs.declared.calls.FrontCall.TheVariants as call
use Rattle.rd_front.specs.declared.calls.FrontReply.TheVariants as reply
use Rattle.rd_front.specs.declared.calls.Rest.TheVariants as rest
use Rattle.rd_front.specs.declared.next.Got.TheVariants as got
use Rattle.rd_front.specs.Front.{Fills, FrontStep, begun, channel_ended}
use Rattle.rd_front.specs.State.{FrontState}
use Rattle.rd_front.specs.Worked.{bare_front, done, worked_history, written_first}

-- the front after a message, and after an answer of its own
abbrev after_hearing : FrontState → List ℕ → FrontState
after_hearing s message = record s { client = (client_hear s.client message).0; unsent = s.unsent + 3 }

abbrev after_asking : FrontState → List ℕ → FrontState
after_asking s message = record s { client = (client_hear s.client message).0 }

abbrev after_answering : FrontState → FrontState
after_answering s = record s { client = direct s.client (job_of (close 5) 1 0) 1 no_such_device; unsent = s.unsent + 1 }

abbrev first : FrontState
first = begun bare_front 1

abbrev second : FrontState
second = after_hearing first announced

abbrev third : FrontState
third = after_hearing second offered

abbrev fourth : FrontState
fourth = after_hearing third confirmed

abbrev opened : FrontState
opened = after_hearing fourth logged_on

abbrev asked : FrontState
asked = after_asking opened (close_bytes 5)

abbrev answered : FrontState
answered = after_answering asked

-- a front without desks on its first channel, with this in its outbox
abbrev holding : ClientCoreState → List Outgoing → ℕ → FrontState
holding c outbox unsent = record {
  client = record c { core = record c.core { outbox = outbox } };
  printers = [];
  cache = [];
  desks = [];
  kept = None;
  channel = 1;
  on = true;
  over = false;
  unsent = unsent;
}

abbrev completion : Outgoing
completion = record { message = direct_bytes (job_of (close 5) 1 0) 1 no_such_device; answers = Some (record { channel = 1; index = 0 }) }

abbrev outbox : List Outgoing
outbox = plain own_confirm ∷ plain own_name ∷ plain own_sets ∷ plain own_list ∷ completion ∷ []

abbrev emptied : FrontState
emptied = holding answered.client [] 0

abbrev closed : FrontState
closed = channel_ended emptied []

abbrev over : FrontState
over = record (channel_ended closed []) { over = true }

fault_is : no_such_device.0 ≢ 0
fault_is e = omega (arith, e)

-- the writer takes all that the core has
takes_held : (c : ClientCoreState) (held : List Outgoing) (most unsent : ℕ) → length held < most
    → Fills most (holding c held unsent) 0 (map (λ (o : Outgoing). o.message) held) rest.Nothing (holding c [] 0)
takes_held c [] zero unsent more = absurd (omega arith)
takes_held c [] (suc most) unsent more = (got.Nothing, holding c [] 0, (None, holding c [] 0, (refl, refl), (refl, refl)), (refl, refl, refl))
takes_held c (o ∷ held) zero unsent more = absurd (omega arith)
takes_held c (o ∷ held) (suc most) unsent more = (
  got.Message o.message,
  holding c held (unsent - 1),
  (Some o, holding c held (unsent - 1), (refl, refl), (refl, refl)),
  (map (λ (x : Outgoing). x.message) held, refl, takes_held c held most (unsent - 1) (omega arith)),
)

answered_holds : answered ≡ holding answered.client outbox 13
unfolding component_field header header_among count_to counted counted_bytes two_fields four_fields version name hello special general other body_of capability sets announce device_list device_reply removal completion_head request_head close_body op_body add_event update_event delete_event rename_event event_body cache_data using_xps notice
answered_holds = refl

takes_all : Fills 8 answered 0 written_first rest.Nothing emptied
takes_all =
    subst (λ (s : FrontState). Fills 8 s 0 written_first rest.Nothing emptied) (sym answered_holds) (takes_held answered.client outbox 8 13 (lit< tt))

hears_first : FrontStep first (call.Hear announced) done second
unfolding component_field header header_among count_to counted counted_bytes two_fields four_fields version name hello special general other body_of capability sets announce device_list device_reply removal completion_head request_head close_body op_body add_event update_event delete_event rename_event event_body cache_data using_xps notice
hears_first = (Ok Nothing, second, ((lit< tt, refl), refl), (refl, refl))

hears_second : FrontStep second (call.Hear offered) done third
unfolding component_field header header_among count_to counted counted_bytes two_fields four_fields version name hello special general other body_of capability sets announce device_list device_reply removal completion_head request_head close_body op_body add_event update_event delete_event rename_event event_body cache_data using_xps notice
hears_second = (Ok Nothing, third, ((lit< tt, refl), refl), (refl, refl))

hears_third : FrontStep third (call.Hear confirmed) done fourth
unfolding component_field header header_among count_to counted counted_bytes two_fields four_fields version name hello special general other body_of capability sets announce device_list device_reply removal completion_head request_head close_body op_body add_event update_event delete_event rename_event event_body cache_data using_xps notice
hears_third = (Ok Nothing, fourth, ((lit< tt, refl), refl), (refl, refl))

hears_fourth : FrontStep fourth (call.Hear logged_on) done opened
unfolding component_field header header_among count_to counted counted_bytes two_fields four_fields version name hello special general other body_of capability sets announce device_list device_reply removal completion_head request_head close_body op_body add_event update_event delete_event rename_event event_body cache_data using_xps notice
hears_fourth =
    (Ok Nothing, opened, ((lit< tt, refl), refl), (true, (true, opened, (refl, refl), (true, opened, (refl, refl), (refl, refl))), refl))

hears_close : FrontStep opened (call.Hear (close_bytes 5)) done answered
unfolding component_field header header_among count_to counted counted_bytes two_fields four_fields version name hello special general other body_of capability sets announce device_list device_reply removal completion_head request_head close_body op_body add_event update_event delete_event rename_event event_body cache_data using_xps notice
hears_close =
    (Ok (Ask 1 (job_of (close 5) 1 0)), asked, ((lit< tt, refl), refl), (Ok tt, (((refl, fault_is), refl), refl), refl))

looks : FrontStep emptied call.Look (reply.Stands true 1) emptied
unfolding component_field header header_among count_to counted counted_bytes two_fields four_fields version name hello special general other body_of capability sets announce device_list device_reply removal completion_head request_head close_body op_body add_event update_event delete_event rename_event event_body cache_data using_xps notice
looks = (refl, refl)

refuses_removal : FrontStep emptied (call.Remove 7) reply.Refused emptied
unfolding component_field header header_among count_to counted counted_bytes two_fields four_fields version name hello special general other body_of capability sets announce device_list device_reply removal completion_head request_head close_body op_body add_event update_event delete_event rename_event event_body cache_data using_xps notice
refuses_removal = (refl, refl)

ends_channel : FrontStep emptied call.EndChannel done closed
unfolding component_field header header_among count_to counted counted_bytes two_fields four_fields version name hello special general other body_of capability sets announce device_list device_reply removal completion_head request_head close_body op_body add_event update_event delete_event rename_event event_body cache_data using_xps notice
ends_channel = (refl, (tt, refl))

pub worked : IsLegal FrontStep bare_front worked_history
worked = (
  over,
  (
    first,
    (true, bare_front, (refl, refl), (refl, refl)),
    (
      second,
      hears_first,
      (
        third,
        hears_second,
        (
          fourth,
          hears_third,
          (
            opened,
            hears_fourth,
            (
              answered,
              hears_close,
              (
                emptied,
                (refl, takes_all),
                (
                  emptied,
                  looks,
                  (
                    emptied,
                    refuses_removal,
                    (
                      closed,
                      ends_channel,
                      (
                        closed,
                        (refl, refl),
                        (over, (refl, (tt, refl)), refl),
                      ),
                    ),
                  ),
                ),
              ),
            ),
          ),
        ),
      ),
    ),
  ),
)
