-- Lines of stops that were written, or not.
use Rattle.std.proofs.Common.{◌≡◌, ◌⊎◌, inl, inr, ℕ, refl, sym, subst}
use Rattle.hipe_edge.specs.Streams.{Stream, GainedUnlessFaulted}
use Rattle.hipe_stop.specs.declared.stop.Stop.{Stop}
use Rattle.hipe_stop.specs.Reports.{Reported, whole, broken, Ended}
use Rattle.hipe_stop.specs.Stops.{status_unwritten, line_of}

-- a line of its own for each stop
pub plain : (stop s : Stop) (err : Stream) (status : ℕ) → stop ≡ s → (Reported s err status → Ended s err status) → Reported stop err status → Ended stop err status
plain stop s err status is f r = subst (λ x. Ended x err status) (sym is) (f (subst (λ x. Reported x err status) is r))

pub ended_cases : (stop : Stop) (err : Stream) (status : ℕ) → Ended stop err status → Reported stop err status ⊎ Reported Stop.Memory err status
ended_cases Stop.Arguments err status r = inl r
ended_cases (Stop.Call p) err status r = r
ended_cases Stop.TooLong err status r = inl r
ended_cases (Stop.Refused why p) err status r = r
ended_cases Stop.ReadFault err status r = inl r
ended_cases Stop.WriteFault err status r = inl r
ended_cases Stop.Memory err status r = inl r

pub unwritten : (stop : Stop) → (status_unwritten stop ≡ 7) ⊎ (stop ≡ Stop.Memory)
unwritten Stop.Arguments = inl refl
unwritten (Stop.Call p) = inl refl
unwritten Stop.TooLong = inl refl
unwritten (Stop.Refused why p) = inl refl
unwritten Stop.ReadFault = inl refl
unwritten Stop.WriteFault = inl refl
unwritten Stop.Memory = inr refl

pub memory_status : {err : Stream} {status : ℕ} → Reported Stop.Memory err status → status ≡ 8
memory_status (whole is line) = is
memory_status (broken is faulted prefix) = is

pub line_or_prefix : {err : Stream} {status : ℕ} (stop : Stop) → Reported stop err status → GainedUnlessFaulted err (line_of stop)
line_or_prefix stop (whole is line) = inl line
line_or_prefix stop (broken is faulted prefix) = inr (faulted, prefix)
