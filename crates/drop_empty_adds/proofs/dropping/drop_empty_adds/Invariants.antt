-- What was read is moved together. Each turn leaves fewer bytes to read.
use Rattle.std.proofs.Common.{length, ◌-◌, ◌≤◌}
use Rattle.exact.specs.Numbers.{largest_script}
use Rattle.drop_empty_adds.proofs.Moving.{Going}
use Rattle.drop_empty_adds.proofs.dropping.drop_empty_adds.Given as goal

abbrev pub invariant-loop-from : goal.invariant-loop-from
invariant-loop-from l = Going l.initial.script l.script l.from l.to × (length l.initial.script ≤ largest_script)

abbrev pub decreases-loop-from : goal.decreases-loop-from
decreases-loop-from l = length l.script - l.from
