-- the first reports were judged and said
use Rattle.std.proofs.Common.{◌≡◌, ◌≤◌, take}
use Rattle.store_check.specs.Adding.{HasSaid}
use Rattle.store_check.proofs.check.judge_all.Given as goal

abbrev pub invariant-loop-report : goal.invariant-loop-report
invariant-loop-report g l = record {
  said : HasSaid (g.F.Files.told l.initial.files) (take l.report-index l.reports) l.lines;
  told : g.F.Files.told l.files ≡ g.F.Files.told l.initial.files;
  faults : g.F.Files.faults l.initial.files ≤ g.F.Files.faults l.files;
}
