-- Parts of one byte can be linked.
use Rattle.std.proofs.Common.{◌≡◌, ℕ, List, [], ◌∷◌, sym, subst, arith, lit<}
use Rattle.std.specs.Prelude.{All}
use Rattle.std.proofs.lemmas.List.Elements.{All-nil, All-weaker}
use Rattle.image_link.specs.declared.code.Code.{Code}
use Rattle.image_link.specs.Code.{IsPart, IsCallIn}

abbrev pub one_byte : Code
one_byte = record { bytes = 195 ∷ []; calls = []; closure_entry = 0 }

one_fits : (n : ℕ) → IsPart n one_byte
one_fits n = record { entry = lit< tt; calls = All-nil (IsCallIn 1 n); apart = λ i j d below lower. absurd (omega arith) }

pub all_fit : (n : ℕ) (parts : List Code) → All (λ c. c ≡ one_byte) parts → All (IsPart n) parts
all_fit n parts all = All-weaker (λ c. c ≡ one_byte) (IsPart n) (λ c e. subst (IsPart n) (sym e) (one_fits n)) parts all
