-- Entries of a cache.
use Rattle.std.proofs.Common.{ℕ, ◌<◌, List, Option, None, set, replicate, arith}
use Rattle.std.proofs.lemmas.List.{length-set, length-replicate}
use Rattle.std.proofs.lemmas.List.Elements.{All-set, All-replicate}
use Rattle.amd64_machine.specs.declared.cache.Cached.{Cached}
use Rattle.amd64_machine.specs.Seen.{IsCached, IsCache}

pub cache_with : (code : List ℕ) (entries : List (Option Cached)) (slot : ℕ) (entry : Option Cached) → IsCache code entries → IsCached code entry
    → IsCache code (set entries slot entry)
cache_with code entries slot entry c e =
    record { some = omega (arith, c.some, length-set entries slot entry); all = All-set (IsCached code) entries slot entry e c.all }

pub new_is_cache : (code : List ℕ) (n : ℕ) → 0 < n → IsCache code (replicate n None)
new_is_cache code n some =
    let none : Option Cached = None in
    record { some = omega (arith, some, length-replicate n none); all = All-replicate (IsCached code) n None tt }
