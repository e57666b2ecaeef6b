use Prim.Native.Nat.{◌+◌}
use mathlib.Core.Path.{refl}
use native.Mathlib.Omega.{arith}
use Rattle.model.proofs.TraceLaws.{fault_task}
use Rattle.model.proofs.CheckLaws.{faulty}
use Rattle.fileformat.specs.Records.{short, long}
use Rattle.fileformat.proofs.StepLaws.{list_early, list_fault_lem}
use Rattle.refusal.proofs.PassedOn.{passed}
use Rattle.reader.proofs.ScanLaws.{Scanning, scan_begins, scan_broken, scan_mark, scan_charge_stops, scan_charge_next}
use Rattle.reader.proofs.ScanLaws.{scan_task_stops, scan_task_next, scan_task_room}
use Rattle.reader.proofs.ScanLaws.{scan_job_stops, scan_job_next, scan_end_stops, scan_end_more, scan_says, scan_refuses}
use Rattle.reader.proofs.scan.Goals.{In_ok-check_job-in-Ok-Release, In_ok-check_job-in-Ok-LongRelease}
use Rattle.reader.proofs.scan.Goals as goal

pub loop-reason-init : goal.loop-reason-init
loop-reason-init c = scan_begins _ _ c.no_tasks-tasks.ensures

pub returns-in-Err-Reason : goal.returns-in-Err-Reason
returns-in-Err-Reason c = scan_refuses _ _ (scan_broken _ _ _ _ _ _ c.loop-reason.invariant _ (rw c.in-Err-Reason.field-0-is at c.in-Err-Reason.ensures))

pub returns-in-Err-Mark : goal.returns-in-Err-Mark
returns-in-Err-Mark c = scan_refuses _ _ (scan_mark _ _ _ _ _ _ c.loop-reason.invariant _ (rw c.in-Err-Mark.field-0-is at c.in-Err-Mark.ensures) c.mark_fault.ensures)

-- a task record
pub returns-in_err-check_task-in-Ok-Task : goal.returns-in_err-check_task-in-Ok-Task
returns-in_err-check_task-in-Ok-Task c =
    let i = c.loop-reason.invariant in
    rw (passed _ _ c.from_residual.ensures.1) (scan_refuses _ _ (scan_task_stops _ _ _ _ _ _ i _ _ (rw c.in-Ok-Task.field-0-is at c.in-Ok-Task.ensures) c.in_err-check_task-in-Ok-Task.ensures))

pub bounds-tasks-n : goal.bounds-tasks-n
bounds-tasks-n c = (scan_task_room _ _ _ _ _ _ c.loop-reason.invariant _ c.in_ok-check_task-in-Ok-Task.ensures).0

pub loop-reason-preserved-in-Ok-Task : goal.loop-reason-preserved-in-Ok-Task
loop-reason-preserved-in-Ok-Task c =
    scan_task_next _ _ _ _ _ _ c.loop-reason.invariant _ _ (rw c.in-Ok-Task.field-0-is at c.in-Ok-Task.ensures) c.in_ok-check_task-in-Ok-Task.ensures c.task_size-at.ensures

pub loop-reason-smaller-in-Ok-Task : goal.loop-reason-smaller-in-Ok-Task
loop-reason-smaller-in-Ok-Task c =
    let size = c.task_size-at.ensures in
    let next = scan_task_next _ _ _ _ _ _ c.loop-reason.invariant _ _ (rw c.in-Ok-Task.field-0-is at c.in-Ok-Task.ensures) c.in_ok-check_task-in-Ok-Task.ensures size in
    omega (arith, next.within, size)

-- a release record, short
next_short
    : (c : In_ok-check_job-in-Ok-Release) → let l =
    c.loop-reason in Scanning c.args.f.now l.tasks (l.releases + 1) c.in-Ok-Release.job.tick l.start (l.at + 10)
next_short c = scan_job_next _ _ _ _ _ _ c.loop-reason.invariant short _ (rw c.in-Ok-Release.field-0-is at c.in-Ok-Release.ensures) (c.in_ok-check_job-in-Ok-Release.ensures _ (omega arith) refl)

pub returns-then-tasks-eq0 : goal.returns-then-tasks-eq0
returns-then-tasks-eq0 c =
    let i = c.loop-reason.invariant in
    scan_refuses _ _ (scan_job_stops _ _ _ _ _ _ i short _ _ (rw c.in-Ok-Release.field-0-is at c.in-Ok-Release.ensures) (faulty _ 5 _ (list_early _ _ _ _ _ (omega arith))))

pub returns-then-tasks-i : goal.returns-then-tasks-i
returns-then-tasks-i c =
    let i = c.loop-reason.invariant in
    scan_refuses _ _
    (scan_job_stops _ _ _ _ _ _ i short _ _ (rw c.in-Ok-Release.field-0-is at c.in-Ok-Release.ensures)
    (faulty _ 7 _ (list_fault_lem _ _ _ _ _ 7 (omega arith) (fault_task _ _ _ _ (omega arith)))))

pub returns-in_err-check_job-in-Ok-Release : goal.returns-in_err-check_job-in-Ok-Release
returns-in_err-check_job-in-Ok-Release c =
    let i = c.loop-reason.invariant in
    rw (passed _ _ c.from_residual-in_err-check_job-in-Ok-Release.ensures.1)
    (scan_refuses _ _
    (scan_job_stops _ _ _ _ _ _ i short _ _ (rw c.in-Ok-Release.field-0-is at c.in-Ok-Release.ensures) (c.in_err-check_job-in-Ok-Release.ensures _ (omega arith) refl)))

pub loop-reason-preserved-in-Ok-Release : goal.loop-reason-preserved-in-Ok-Release
loop-reason-preserved-in-Ok-Release c = next_short (goal.at.loop-reason-preserved-in-Ok-Release c).In_ok-check_job-in-Ok-Release

pub loop-reason-smaller-in-Ok-Release : goal.loop-reason-smaller-in-Ok-Release
loop-reason-smaller-in-Ok-Release c =
    omega (arith, (next_short (goal.at.loop-reason-smaller-in-Ok-Release c).In_ok-check_job-in-Ok-Release).within)

-- or long
next_long
    : (c : In_ok-check_job-in-Ok-LongRelease) → let l =
    c.loop-reason in Scanning c.args.f.now l.tasks (l.releases + 1) c.in-Ok-LongRelease.job.tick l.start (l.at + 14)
next_long c =
    scan_job_next _ _ _ _ _ _ c.loop-reason.invariant long _ (rw c.in-Ok-LongRelease.field-0-is at c.in-Ok-LongRelease.ensures) (c.in_ok-check_job-in-Ok-LongRelease.ensures _ (omega arith) refl)

pub returns-then-tasks-eq0-2 : goal.returns-then-tasks-eq0-2
returns-then-tasks-eq0-2 c =
    let i = c.loop-reason.invariant in
    scan_refuses _ _ (scan_job_stops _ _ _ _ _ _ i long _ _ (rw c.in-Ok-LongRelease.field-0-is at c.in-Ok-LongRelease.ensures) (faulty _ 5 _ (list_early _ _ _ _ _ (omega arith))))

pub returns-then-tasks-whose : goal.returns-then-tasks-whose
returns-then-tasks-whose c =
    let i = c.loop-reason.invariant in
    scan_refuses _ _
    (scan_job_stops _ _ _ _ _ _ i long _ _ (rw c.in-Ok-LongRelease.field-0-is at c.in-Ok-LongRelease.ensures)
    (faulty _ 7 _ (list_fault_lem _ _ _ _ _ 7 (omega arith) (fault_task _ _ _ _ (omega arith)))))

pub returns-in_err-check_job-in-Ok-LongRelease : goal.returns-in_err-check_job-in-Ok-LongRelease
returns-in_err-check_job-in-Ok-LongRelease c =
    let i = c.loop-reason.invariant in
    rw (passed _ _ c.from_residual-in_err-check_job-in-Ok-LongRelease.ensures.1)
    (scan_refuses _ _
    (scan_job_stops _ _ _ _ _ _ i long _ _ (rw c.in-Ok-LongRelease.field-0-is at c.in-Ok-LongRelease.ensures) (c.in_err-check_job-in-Ok-LongRelease.ensures _ (omega arith) refl)))

pub loop-reason-preserved-in-Ok-LongRelease : goal.loop-reason-preserved-in-Ok-LongRelease
loop-reason-preserved-in-Ok-LongRelease c = next_long (goal.at.loop-reason-preserved-in-Ok-LongRelease c).In_ok-check_job-in-Ok-LongRelease

pub loop-reason-smaller-in-Ok-LongRelease : goal.loop-reason-smaller-in-Ok-LongRelease
loop-reason-smaller-in-Ok-LongRelease c =
    omega (arith, (next_long (goal.at.loop-reason-smaller-in-Ok-LongRelease c).In_ok-check_job-in-Ok-LongRelease).within)

-- a charge record
pub returns-in_err-check_charge-in-Ok-Charge : goal.returns-in_err-check_charge-in-Ok-Charge
returns-in_err-check_charge-in-Ok-Charge c =
    let i = c.loop-reason.invariant in
    rw (passed _ _ c.from_residual-in_err-check_charge-in-Ok-Charge.ensures.1)
    (scan_refuses _ _ (scan_charge_stops _ _ _ _ _ _ i _ _ (rw c.in-Ok-Charge.field-0-is at c.in-Ok-Charge.ensures) c.in_err-check_charge-in-Ok-Charge.ensures))

pub loop-reason-preserved : goal.loop-reason-preserved
loop-reason-preserved c = scan_charge_next _ _ _ _ _ _ c.loop-reason.invariant _ (rw c.in-Ok-Charge.field-0-is at c.in-Ok-Charge.ensures) c.in_ok-check_charge-in-Ok-Charge.ensures

pub loop-reason-smaller : goal.loop-reason-smaller
loop-reason-smaller c =
    let next = scan_charge_next _ _ _ _ _ _ c.loop-reason.invariant _ (rw c.in-Ok-Charge.field-0-is at c.in-Ok-Charge.ensures) c.in_ok-check_charge-in-Ok-Charge.ensures in
    omega (arith, next.within)

-- the end record
pub returns-then-tasks-eq0-3 : goal.returns-then-tasks-eq0-3
returns-then-tasks-eq0-3 c = scan_refuses _ _ (scan_end_stops _ _ _ _ _ _ c.loop-reason.invariant (rw c.in-Ok-End.field-0-is at c.in-Ok-End.ensures) (omega arith))

pub returns-then-at-f : goal.returns-then-at-f
returns-then-at-f c = scan_refuses _ _ (scan_end_more _ _ _ _ _ _ c.loop-reason.invariant (rw c.in-Ok-End.field-0-is at c.in-Ok-End.ensures) (omega arith) (omega arith))

pub returns-in-Ok-End : goal.returns-in-Ok-End
returns-in-Ok-End c = scan_says _ _ _ _ _ _ c.loop-reason.invariant (rw c.in-Ok-End.field-0-is at c.in-Ok-End.ensures) (omega arith) (omega arith)
