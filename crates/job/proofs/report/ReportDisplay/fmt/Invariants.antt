use Rattle.std.proofs.Common.{take}
use Rattle.std.specs.Fmt.{IsPlainFormatter, HasWritten}
use Rattle.job.specs.Texts.{action_lines}
use Rattle.job.proofs.report.ReportDisplay.fmt.Given as goal

-- the lines of the actions so far are written
abbrev pub invariant-loop-action : goal.invariant-loop-action
invariant-loop-action g l = IsPlainFormatter l.initial.f → HasWritten g.W.Write.write_str_gives l.initial.f (action_lines (take l.action-index l.action-items)) l.f
