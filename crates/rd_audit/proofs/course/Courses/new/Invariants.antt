use Rattle.std.proofs.Common.{Vec, Global, ◌≡◌, map, take}
use Rattle.rd_audit.specs.declared.course.Course.{Course}
use Rattle.rd_audit.specs.Replayed.{no_course}
use Rattle.rd_audit.proofs.CourseLemmas.{absent_of}
use Rattle.rd_audit.proofs.course.Courses.new.Given as goal

-- those of the channels so far
abbrev pub invariant-loop-channel : goal.invariant-loop-channel
invariant-loop-channel l = (map (λ (v : Vec Course Global). v.items) l.courses.items ≡ map absent_of (take l.channel-index l.channels)) × (l.absent ≡ no_course)
