-- Words behind the heap pointer.
use Rattle.std.proofs.Common.{◌≡◌, ℕ, suc, ◌+◌, ◌-◌, ◌*◌, ◌/◌, ◌%◌, ◌≤◌, nat_eq, nat_le, ◌&&◌, List, [], ◌∷◌, ◌++◌, length, take, drop, Some, None, slice_get, refl, sym, ap, ap₂, ◌∙◌, subst, append_assoc, append-nil, length-append, length-drop, arith}
use Rattle.std.proofs.Math.Seq.{take-append_seam}
use Rattle.std.proofs.lemmas.Bool.{and_from, eq-eqb, le-leb, leb-true, leb-false, cond-true, cond_both}
use Rattle.std.proofs.lemmas.List.{length-take-le, take-append-drop}
use Rattle.std.proofs.lemmas.Option.{slice_get_within}
use Rattle.region_memory.specs.declared.layout.TheConstants.{HEAP_END, HEAP_LIMIT}
use Rattle.hipe_terms.specs.Terms.{Term, integer, atom, nil, cons, tuple, fun}
use Rattle.heap_terms.specs.Building.{cells_built, cell_built}
use Rattle.heap_terms.specs.Shapes.{Symbols, heap_begin}
use Rattle.heap_terms.specs.Standing.{StandsIn}
use Rattle.heap_terms_laws.specs.Constants.{EachStands}
use Rattle.heap_terms_laws.specs.Prefixes.{StandsBefore}
use Rattle.heap_terms_laws.proofs.Growing.{get_prefix}
use Rattle.heap_terms_laws.proofs.Lists.{starts_same, stands_on}
use Rattle.heap_terms_laws.proofs.Shapes.{IsPrefix, Stands}
use Rattle.machine_services.specs.Lists.{cells_from}
use Rattle.machine_services.specs.Services.{Ends, Builds, HeapFull, free_index, placed, heap_with}
use Rattle.machine_services_laws.specs.Laws.{free_at, BuildsBehind}

-- ---- the prefix of a heap

pub prefix_of : (symbols : Symbols) (heap : List ℕ) (n : ℕ) → IsPrefix symbols heap (take n heap)
prefix_of symbols heap n i w e = subst (λ ws. slice_get ws i ≡ Some w) (take-append-drop n heap) (get_prefix (take n heap) (drop n heap) i w e)

pub outside : (symbols : Symbols) (heap : List ℕ) (n : ℕ) (t : Term) (w : ℕ) → n ≤ length heap → StandsBefore symbols heap n t w → Stands symbols heap (take n heap) (length heap) t w
outside symbols heap n t w l h = stands_on symbols (heap_begin heap) (take n heap) (take n heap) (starts_same (take n heap)) n (length heap) l t w h

-- an object begins before the words' end
pub within : (symbols : Symbols) (begin : ℕ) (words : List ℕ) (limit : ℕ) (t : Term) (w : ℕ) → StandsIn symbols begin words limit t w → StandsIn symbols begin words (length words) t w
within symbols begin words limit (integer n) w h = h
within symbols begin words limit (atom a) w h = h
within symbols begin words limit nil w h = h
within symbols begin words limit (cons t u) w h = (h.0, slice_get_within words h.0 h.3 h.5, h.2, h.3, h.4, h.5, h.6, h.7, h.8)
within symbols begin words limit (tuple ts) w h = (h.0, slice_get_within words h.0 _ h.3, h.2, h.3, h.4)
within symbols begin words limit (fun f ts) w h = (h.0, slice_get_within words h.0 _ h.3, h.2, h.3, h.4, h.5, h.6)

pub each_within : (symbols : Symbols) (begin : ℕ) (words : List ℕ) (limit : ℕ) (ts : List Term) (ws : List ℕ) → EachStands symbols begin words limit ts ws → EachStands symbols begin words (length words) ts ws
each_within symbols begin words limit [] [] h = tt
each_within symbols begin words limit [] (w ∷ ws) h = h
each_within symbols begin words limit (t ∷ ts) [] h = h
each_within symbols begin words limit (t ∷ ts) (w ∷ ws) h = (within symbols begin words limit t w h.0, each_within symbols begin words limit ts ws h.1)

pub each_length : (symbols : Symbols) (begin : ℕ) (words : List ℕ) (limit : ℕ) (ts : List Term) (ws : List ℕ) → EachStands symbols begin words limit ts ws → length ws ≡ length ts
each_length symbols begin words limit [] [] h = refl
each_length symbols begin words limit [] (w ∷ ws) h = absurd h
each_length symbols begin words limit (t ∷ ts) [] h = absurd h
each_length symbols begin words limit (t ∷ ts) (w ∷ ws) h = ap suc (each_length symbols begin words limit ts ws h.1)

-- ---- the cells of a list

pub cells_same : (begin : ℕ) (used : List ℕ) (free : ℕ) → free ≡ begin + 8 * length used → (ws : List ℕ) (tail : ℕ)
    → cells_built begin ws (tail, used) ≡ ((cells_from free ws tail).0, used ++ (cells_from free ws tail).1)
cells_same begin used free e [] tail = ap (λ ws. (tail, ws)) (sym (append-nil used))
cells_same begin used free e (w ∷ ws) tail =
    let rest : ℕ × List ℕ = cells_from free ws tail in
    ap (cell_built begin w) (cells_same begin used free e ws tail)
    ∙ ap₂ (λ a b. (a, b)) (omega (arith, length-append used rest.1)) (append_assoc used rest.1 (w ∷ rest.0 ∷ []))

-- ---- the heap pointer

pub free_index_is : (symbols : Symbols) (heap : List ℕ) (n : ℕ) → length heap ≤ HEAP_LIMIT → n ≤ length heap → free_index heap (free_at symbols heap n) ≡ Some n
free_index_is symbols heap n small fits =
    let free : ℕ = free_at symbols heap n in
    let low : heap_begin heap + 8 * length heap ≡ HEAP_END = omega arith in
    let eights : (heap_begin heap + 8 * n) % 8 ≡ 0 = omega arith in
    cond-true (nat_eq (free % 8) 0 && (nat_le (heap_begin heap) free && nat_le free HEAP_END)) (Some ((free - heap_begin heap) / 8)) None
    (and_from (nat_eq (free % 8) 0) (nat_le (heap_begin heap) free && nat_le free HEAP_END) (eq-eqb (free % 8) 0 eights)
    (and_from (nat_le (heap_begin heap) free) (nat_le free HEAP_END) (le-leb (heap_begin heap) free (omega arith)) (le-leb free HEAP_END (omega (arith, low)))))
    ∙ ap (λ i. Some i) (omega arith)

module _ (symbols : Symbols) (heap : List ℕ) (n : ℕ) (new : List ℕ) where
  abbrev rest : List ℕ
  rest = drop (n + length new) heap

  behind_is : heap_with heap (free_at symbols heap n) new ≡ (take n heap ++ new) ++ rest
  behind_is = ap (λ i. take i heap ++ new ++ drop (i + length new) heap) (omega arith)

  prefix_length : n ≤ length heap → length (take n heap ++ new) ≡ n + length new
  prefix_length l = length-append (take n heap) new ∙ ap (λ k. k + length new) (length-take-le n heap l)

  prefix_new : n ≤ length heap → take (n + length new) (heap_with heap (free_at symbols heap n) new) ≡ take n heap ++ new
  prefix_new l =
      ap (take (n + length new)) behind_is ∙ ap (λ k. take k ((take n heap ++ new) ++ rest)) (sym (prefix_length l)) ∙ take-append_seam (take n heap ++ new) rest

  prefix_same : n ≤ length heap → take n (heap_with heap (free_at symbols heap n) new) ≡ take n heap
  prefix_same l =
      ap (take n) (behind_is ∙ append_assoc (take n heap) new rest) ∙ ap (λ k. take k (take n heap ++ (new ++ rest))) (sym (length-take-le n heap l)) ∙ take-append_seam (take n heap) (new ++ rest)

  size_same : n + length new ≤ length heap → length (heap_with heap (free_at symbols heap n) new) ≡ length heap
  size_same l =
      ap length behind_is ∙ length-append (take n heap ++ new) rest ∙ ap (λ k. k + length rest) (prefix_length (omega arith)) ∙ omega (arith, length-drop (n + length new) heap)

-- what stands in the prefix and the new words is built, where there is room
pub built_behind : (symbols : Symbols) (heap : List ℕ) (n room : ℕ) (t : Term) (result : ℕ) (new : List ℕ) → length heap ≤ HEAP_LIMIT → n ≤ length heap → length new ≡ room
    → StandsIn symbols (heap_begin heap) (take n heap ++ new) (n + room) t result → BuildsBehind symbols heap n room t (placed heap (free_index heap (free_at symbols heap n)) result new)
built_behind symbols heap n room t result new small fits many h =
    subst (λ i. BuildsBehind symbols heap n room t (placed heap i result new)) (sym (free_index_is symbols heap n small fits))
    (cond_both (nat_le (n + length new) (length heap)) (Builds result new) (Ends HeapFull) (BuildsBehind symbols heap n room t)
    (λ b. let fit : n + length new ≤ length heap = leb-true (n + length new) (length heap) b in (
      many,
      omega (arith, fit),
      record { size = sym (size_same symbols heap n new fit); words = sym (prefix_same symbols heap n new fits) },
      subst (λ k. StandsIn symbols (HEAP_END - 8 * k) (take (n + room) (heap_with heap (free_at symbols heap n) new)) (n + room) t result) (sym (size_same symbols heap n new fit))
          (subst (λ ws. StandsIn symbols (heap_begin heap) ws (n + room) t result) (sym (ap (λ k. take (n + k) (heap_with heap (free_at symbols heap n) new)) (sym many) ∙ prefix_new symbols heap n new fits)) h),
    ))
    (λ b. omega (arith, leb-false (n + length new) (length heap) b)))
