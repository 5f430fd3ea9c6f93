-- Which lines an application issues, and which completions they have.
use Rattle.std.specs.Prelude.{ℕ, ◌==◌, if◌then◌else◌, List, Option, Some, None}
use Rattle.std.specs.List.{filter_map, flat_map}
use Rattle.std.specs.Option.{option_to_list}
use Rattle.rd_irp.specs.declared.completion.Kind.{Kind}
use Rattle.rd_irp.specs.declared.completion.Kind.TheVariants as kind
use Rattle.rd_script.specs.declared.line.Line.{Line}
use Rattle.rd_script.specs.declared.line.Line.TheVariants as line
use Rattle.rd_script.specs.declared.line.NumberedLine.{NumberedLine}

-- the application that issues a line, and the layout of its completion; of any other line none
abbrev pub issued : Line → Option (ℕ × Kind)
issued (line.Open application handle device path) = Some (application, kind.Create)
issued (line.Create application handle device path disposition access share options attributes) = Some (application, kind.Create)
issued (line.Close application handle) = Some (application, kind.Close)
issued (line.Read application handle offset len) = Some (application, kind.Buffer)
issued (line.Write application handle offset bytes) = Some (application, kind.Count)
issued (line.Query application handle class) = Some (application, kind.Buffer)
issued (line.Set application handle class bytes) = Some (application, kind.Count)
issued (line.Volume application handle class) = Some (application, kind.Buffer)
issued (line.SetVolume application handle class bytes) = Some (application, kind.Count)
issued (line.Dir application handle class initial path) = Some (application, kind.Buffer)
issued (line.Lock application handle operation wait ranges) = Some (application, kind.Lock)
issued (line.Control application handle code output bytes) = Some (application, kind.Buffer)
issued (line.Notify application handle tree filter) = Some (application, kind.Buffer)
issued _ = None

-- the kind, if the application is this one
abbrev pub kind_for : ℕ → Option (ℕ × Kind) → Option Kind
kind_for application None = None
kind_for application (Some asked) = if asked.0 == application then Some asked.1 else None

-- the completions of an application's lines, in order
abbrev pub kinds_of : ℕ → List NumberedLine → List Kind
kinds_of application lines = filter_map (λ (l : NumberedLine). kind_for application (issued l.line)) lines

-- the device that a line declares
unfoldable pub declared_by : Line → Option ℕ
declared_by (line.Drive device name) = Some device
declared_by (line.DriveFold device name) = Some device
declared_by (line.Real device name place) = Some device
declared_by (line.Printer device name driver printer) = Some device
declared_by _ = None

-- the device that a numbered line declares, if it does
abbrev pub devices_on_line : NumberedLine → List ℕ
devices_on_line l = option_to_list (declared_by l.line)

-- the devices of a script, in the order of its lines
abbrev pub devices_of : List NumberedLine → List ℕ
devices_of lines = flat_map devices_on_line lines
