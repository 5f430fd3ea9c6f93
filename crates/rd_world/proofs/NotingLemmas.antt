-- Short names and configurations make a notice that a host may tell.
use Rattle.std.proofs.Common.{◌≡◌, ℕ, ◌+◌, ◌≤◌, List, ◌++◌, length, length-append, arith}
use Rattle.rd_base.specs.Counted.{four_fields_bytes, two_fields_bytes}
use Rattle.rd_printer.specs.declared.notice.Notice.TheVariants as notice
use Rattle.rd_printer.specs.Notice.{event_bytes, notice_bytes}
use Rattle.rd_declared.specs.Devices.{max_config}
use Rattle.rd_world.specs.Noting.{IsTellable}

four_length : (first second third fourth : List ℕ) → length (four_fields_bytes first second third fourth) ≡ 16 + length first + length second + length third + length fourth
unfolding four_fields_bytes
four_length first second third fourth =
    omega (arith, length-append first second, length-append (first ++ second) third, length-append (first ++ second ++ third) fourth)

two_length : (first second : List ℕ) → length (two_fields_bytes first second) ≡ 8 + length first + length second
unfolding two_fields_bytes
two_length first second = omega (arith, length-append first second)

pub add_tellable : (port pnp driver name config : List ℕ) → length port ≡ 8 → length pnp ≡ 0 → length driver ≤ 512 → length name ≤ 512 → length config ≤ max_config
    → IsTellable (notice.Add port pnp driver name config)
add_tellable port pnp driver name config whole none driver_few name_few config_few =
    let four : length (four_fields_bytes pnp driver name config) ≡ 16 + length pnp + length driver + length name + length config = four_length pnp driver name config in
    let all : length (notice_bytes (notice.Add port pnp driver name config)) ≡ 8 + length port + length (four_fields_bytes pnp driver name config) =
    omega (arith, length-append (event_bytes 1 ++ port) (four_fields_bytes pnp driver name config)) in
    record {
      writable = (omega (arith, none), omega (arith, driver_few), omega (arith, name_few), omega (arith, config_few));
      port = whole;
      fit = (omega (arith, all, four, whole), omega (arith, all, four, whole, none, driver_few, name_few, config_few));
    }

pub update_tellable : (name config : List ℕ) → length name ≤ 512 → length config ≤ max_config → IsTellable (notice.Update name config)
update_tellable name config name_few config_few =
    let all : length (notice_bytes (notice.Update name config)) ≡ 8 + length (two_fields_bytes name config) = omega arith in
    let two : length (two_fields_bytes name config) ≡ 8 + length name + length config = two_length name config in
    record {
      writable = (omega (arith, name_few), omega (arith, config_few));
      port = tt;
      fit = (omega (arith, all, two), omega (arith, all, two, name_few, config_few));
    }

pub delete_tellable : (name : List ℕ) → length name ≤ 512 → IsTellable (notice.Delete name)
delete_tellable name few =
    let all : length (notice_bytes (notice.Delete name)) ≡ 12 + length name = omega arith in
    record { writable = omega (arith, few); port = tt; fit = (omega (arith, all), omega (arith, all, few)) }

pub rename_tellable : (old new : List ℕ) → length old ≤ 512 → length new ≤ 512 → IsTellable (notice.Rename old new)
rename_tellable old new old_few new_few =
    let all : length (notice_bytes (notice.Rename old new)) ≡ 8 + length (two_fields_bytes old new) = omega arith in
    let two : length (two_fields_bytes old new) ≡ 8 + length old + length new = two_length old new in
    record {
      writable = (omega (arith, old_few), omega (arith, new_few));
      port = tt;
      fit = (omega (arith, all, two), omega (arith, all, two, old_few, new_few));
    }

-- each kind of notice that a script tells of
pub ruleset tellable = (add_tellable, update_tellable, delete_tellable, rename_tellable)
