-- The classes of what a program raises: their names, and their numbers in a register.
use Rattle.std.specs.Prelude.{ℕ, List, Option, Some, None, codes, bytes_eq, nat_eq, if◌then◌else◌}
use Rattle.hipe_terms.specs.declared.class.Class.{Class}
use Rattle.hipe_terms.specs.declared.class.Class.TheVariants.{Error, Exit, Throw}

abbrev pub class_name : Class → List ℕ
class_name Error = codes "error"
class_name Exit = codes "exit"
class_name Throw = codes "throw"

-- the class with this name
abbrev pub class_named : List ℕ → Option Class
class_named a =
    if bytes_eq a (class_name Error) then Some Error
    else if bytes_eq a (class_name Exit) then Some Exit
    else if bytes_eq a (class_name Throw) then Some Throw
    else None

abbrev pub class_number : Class → ℕ
class_number Error = 1
class_number Exit = 2
class_number Throw = 3

-- the class with this number
abbrev pub class_numbered : ℕ → Option Class
class_numbered n =
    if nat_eq n (class_number Error) then Some Error
    else if nat_eq n (class_number Exit) then Some Exit
    else if nat_eq n (class_number Throw) then Some Throw
    else None
