-- Room for the words of a list, or none.
use Rattle.std.proofs.Common.{◌≡◌, ℕ, suc, ◌+◌, ◌*◌, Bool, true, false, nat_le, if◌then◌else◌, List, [], ◌∷◌, length, Option, Some, None, refl, sym, ap, ◌∙◌, arith}
use Rattle.machine_services.proofs.Cells.{cells_length}
use Rattle.machine_services.specs.declared.list.Room.TheVariants as rooms
use Rattle.machine_services.specs.declared.list.Spine.TheVariants as seen
use Rattle.machine_services.specs.Ends.{spine_seen, spine_elements, room_of}
use Rattle.machine_services.specs.Lists.{Spine, NoTerm, Improper, Proper, cells_from}
use Rattle.machine_services.specs.Services.{Effect, NoNext, Ends, Answers, HeapFull, Builds, free_index, placed, placed_list, appended}

full_if : (b : Bool) (i : ℕ) (s : Effect) → (if b then rooms.At i else rooms.Full) ≡ rooms.Full → (if b then s else Ends HeapFull) ≡ Ends HeapFull
full_if true i s e = absurd (cc)
full_if false i s e = refl

placed_full : (heap : List ℕ) (o : Option ℕ) (result : ℕ) (words : List ℕ) → room_of heap o (length words) ≡ rooms.Full → placed heap o result words ≡ Ends HeapFull
placed_full heap None result words e = absurd (cc)
placed_full heap (Some i) result words e = full_if (nat_le (i + length words) (length heap)) i (Builds result words) e

outside_if : (b : Bool) (i : ℕ) → (if b then rooms.At i else rooms.Full) ≡ rooms.Outside → ⊥
outside_if true i e = cc
outside_if false i e = cc

placed_outside : (heap : List ℕ) (o : Option ℕ) (n result : ℕ) (words : List ℕ) → room_of heap o n ≡ rooms.Outside → placed heap o result words ≡ NoNext
placed_outside heap None n result words e = refl
placed_outside heap (Some i) n result words e = absurd (outside_if (nat_le (i + n) (length heap)) i e)

-- with nil on the left the word behind it is the answer
pub appended_to_nil : (heap : List ℕ) (free tail n : ℕ) (s : Spine) → seen.Proper n ≡ spine_seen s → n ≡ 0 → appended heap free s tail ≡ Answers tail
appended_to_nil heap free tail n NoTerm e z = absurd (cc)
appended_to_nil heap free tail n Improper e z = absurd (cc)
appended_to_nil heap free tail n (Proper []) e z = refl
appended_to_nil heap free tail n (Proper (w ∷ ws)) e z = absurd (let same : n ≡ suc (length ws) = cc in omega arith)

-- with elements on the left their cells are placed
pub appended_is : (heap : List ℕ) (free tail n : ℕ) (s : Spine) → seen.Proper n ≡ spine_seen s → (n ≡ 0 → ⊥)
    → appended heap free s tail ≡ placed_list heap free (cells_from free (spine_elements s) tail)
appended_is heap free tail n NoTerm e z = absurd (cc)
appended_is heap free tail n Improper e z = absurd (cc)
appended_is heap free tail n (Proper []) e z = absurd (z (cc))
appended_is heap free tail n (Proper (w ∷ ws)) e z = refl

cells_count : (free tail n : ℕ) (s : Spine) → seen.Proper n ≡ spine_seen s → length (cells_from free (spine_elements s) tail).1 ≡ 2 * n
cells_count free tail n NoTerm e = absurd (cc)
cells_count free tail n Improper e = absurd (cc)
cells_count free tail n (Proper ws) e = let same : n ≡ length ws = cc in cells_length free ws tail ∙ ap (λ k. 2 * k) (sym same)

pub list_full : (heap : List ℕ) (free tail n : ℕ) (s : Spine) → seen.Proper n ≡ spine_seen s → room_of heap (free_index heap free) (2 * n) ≡ rooms.Full
    → placed_list heap free (cells_from free (spine_elements s) tail) ≡ Ends HeapFull
list_full heap free tail n s e f =
    let list : ℕ × List ℕ = cells_from free (spine_elements s) tail in
    placed_full heap (free_index heap free) list.0 list.1 (ap (room_of heap (free_index heap free)) (cells_count free tail n s e) ∙ f)

pub list_outside : (heap : List ℕ) (free tail n : ℕ) (s : Spine) → room_of heap (free_index heap free) (2 * n) ≡ rooms.Outside
    → placed_list heap free (cells_from free (spine_elements s) tail) ≡ NoNext
list_outside heap free tail n s f =
    let list : ℕ × List ℕ = cells_from free (spine_elements s) tail in
    placed_outside heap (free_index heap free) (2 * n) list.0 list.1 f
