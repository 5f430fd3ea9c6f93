use Rattle.std.proofs.Common.{◌≡◌, ℕ, drop, fold}
use Rattle.std.specs.Prelude.{map}
use Rattle.rd_declared.specs.Devices.{PrinterNames}
use Rattle.rd_world.specs.Events.{refreshing}
use Rattle.rd_world.proofs.world.World.refresh_all.Given as goal

-- those that are left get the data that all were to get
abbrev pub invariant-loop-place : goal.invariant-loop-place
invariant-loop-place l = record {
  reached : fold refreshing l.self (drop l.place (map (λ (e : ℕ × PrinterNames). e.0) l.fn.self.printers))
      ≡ fold refreshing l.fn.self (map (λ (e : ℕ × PrinterNames). e.0) l.fn.self.printers);
  printers : l.self.printers ≡ l.fn.self.printers;
}
