-- Refusals of bounded jobs and of loops, as the check gives them.
use Rattle.dsv_bounded.specs.declared.refusals.BoundedRefusal.{BoundedRefusal}
use Rattle.dsv_bounded.specs.declared.refusals.BoundedRefusal.TheVariants as bounded
use Rattle.dsv_loop.specs.declared.refusal.LoopStop.{LoopStop}
use Rattle.dsv_loop.specs.declared.refusal.LoopStop.TheVariants as loop_stop
use Rattle.dsv_certcheck.specs.declared.check_refusal.CheckRefusal.{CheckRefusal}
use Rattle.dsv_certcheck.specs.declared.check_refusal.CheckRefusal.TheVariants as refusal

abbrev pub of_bounded : BoundedRefusal → CheckRefusal
of_bounded (bounded.JobSize size) = refusal.JobSize size
of_bounded bounded.NoMemory = refusal.NoMemory

abbrev pub of_loop_stop : LoopStop → CheckRefusal
of_loop_stop (loop_stop.Refused why) = refusal.Loop why
of_loop_stop loop_stop.NoMemory = refusal.NoMemory
