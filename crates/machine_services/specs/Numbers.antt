-- The services by their numbers, which stand in rax.
use Rattle.std.specs.Prelude.{ℕ, nat_eq, Option, Some, None, if◌then◌else◌}
use Rattle.machine_services.specs.declared.service.Service.{Service}
use Rattle.machine_services.specs.declared.service.Service.TheVariants as services

abbrev pub service_number : Service → ℕ
service_number services.Return = 0
service_number services.Raise = 1
service_number services.HeapFull = 2
service_number services.StackFull = 3
service_number services.Display = 4
service_number services.Equal = 5
service_number services.Compare = 6
service_number services.Length = 7
service_number services.Append = 8
service_number services.CopyTuple = 9

-- the service with this number
abbrev pub service_numbered : ℕ → Option Service
service_numbered n =
    if nat_eq n 0 then Some services.Return
    else if nat_eq n 1 then Some services.Raise
    else if nat_eq n 2 then Some services.HeapFull
    else if nat_eq n 3 then Some services.StackFull
    else if nat_eq n 4 then Some services.Display
    else if nat_eq n 5 then Some services.Equal
    else if nat_eq n 6 then Some services.Compare
    else if nat_eq n 7 then Some services.Length
    else if nat_eq n 8 then Some services.Append
    else if nat_eq n 9 then Some services.CopyTuple
    else None
