-- Words behind words, and lists of terms in them.
use Rattle.std.proofs.Common.{◌≡◌, ℕ, suc, ◌+◌, ◌*◌, ◌<◌, ◌≤◌, List, [], ◌∷◌, ◌++◌, length, Some, refl, sym, ap, ◌∙◌, subst, append_assoc, append-nil, arith}
use Rattle.std.proofs.lemmas.List.{length-append}
use Rattle.hipe_terms.specs.Terms.{Term, cons, tuple, fun, terms, count, cells}
use Rattle.heap_terms.specs.declared.tags.TheConstants.{INTEGER_TAG, INTEGER_SCALE, OBJECT_TAG, FUN_HEADER, HEADER_SCALE}
use Rattle.heap_terms.specs.Building.{Built, cell_built, cells_built, tuple_built}
use Rattle.heap_terms.specs.Shapes.{Symbols}
use Rattle.heap_terms.specs.Standing.{StandsIn, AllStandIn}
use Rattle.heap_terms_laws.specs.Constants.{StartsWith, EachStands}
use Rattle.heap_terms_laws.proofs.Words.{WordsAt, later}
use Rattle.heap_terms_laws.proofs.Growing.{grown}

-- ---- words behind words

pub starts_same : (words : List ℕ) → StartsWith words words
starts_same words = ([], sym (append-nil words))

pub starts_then : (words middle used : List ℕ) → StartsWith words middle → StartsWith middle used → StartsWith words used
starts_then words middle used h k = (k.0 ++ h.0, h.1 ∙ ap (λ ws. ws ++ h.0) k.1 ∙ append_assoc used k.0 h.0)

pub starts_longer : (words used : List ℕ) → StartsWith words used → length used ≤ length words
starts_longer words used h = omega (arith, ap length h.1 ∙ length-append used h.0)

words_same : (ws : List ℕ) → WordsAt ws 0 ws
words_same [] = tt
words_same (w ∷ ws) = (refl, later w ws 0 ws (words_same ws))

-- the words behind others stand there
pub words_behind : (used ws : List ℕ) → WordsAt (used ++ ws) (length used) ws
words_behind [] ws = words_same ws
words_behind (u ∷ used) ws = later u (used ++ ws) (length used) ws (words_behind used ws)

-- ---- terms in them

module _ (symbols : Symbols) (begin : ℕ) where
  pub stands_on : (words used : List ℕ) → StartsWith words used → (below limit : ℕ) → below ≤ limit → (t : Term) (w : ℕ) → StandsIn symbols begin used below t w → StandsIn symbols begin words limit t w
  stands_on words used h below limit l t w k = subst (λ ws. StandsIn symbols begin ws limit t w) (sym h.1) (grown symbols begin used h.0 t below limit w l k)

  pub each_on : (words used : List ℕ) → StartsWith words used → (below limit : ℕ) → below ≤ limit → (ts : List Term) (ws : List ℕ) → EachStands symbols begin used below ts ws → EachStands symbols begin words limit ts ws
  each_on words used h below limit l [] [] k = tt
  each_on words used h below limit l [] (w ∷ ws) k = k
  each_on words used h below limit l (t ∷ ts) [] k = k
  each_on words used h below limit l (t ∷ ts) (w ∷ ws) k = (stands_on words used h below limit l t w k.0, each_on words used h below limit l ts ws k.1)

  each_many : (words : List ℕ) (below : ℕ) (ts : List Term) (ws : List ℕ) → EachStands symbols begin words below ts ws → count (terms ts) ≡ length ws
  each_many words below [] [] h = refl
  each_many words below [] (w ∷ ws) h = absurd h
  each_many words below (t ∷ ts) [] h = absurd h
  each_many words below (t ∷ ts) (w ∷ ws) h = ap suc (each_many words below ts ws h.1)

  each_there : (words : List ℕ) (below i : ℕ) (ts : List Term) (ws : List ℕ) → WordsAt words i ws → EachStands symbols begin words below ts ws → AllStandIn symbols begin words below (terms ts) i
  each_there words below i [] [] at h = tt
  each_there words below i [] (w ∷ ws) at h = absurd h
  each_there words below i (t ∷ ts) [] at h = absurd h
  each_there words below i (t ∷ ts) (w ∷ ws) at h = (w, at.0, h.0, each_there words below (suc i) ts ws at.1 h.1)

  -- a tuple behind its elements' words
  pub tuple_stands : (used : List ℕ) (ts : List Term) (ws : List ℕ) → EachStands symbols begin used (length used) ts ws
      → StartsWith (tuple_built begin (ws, used)).1 used × StandsIn symbols begin (tuple_built begin (ws, used)).1 (length (tuple_built begin (ws, used)).1) (tuple (terms ts)) (tuple_built begin (ws, used)).0
  tuple_stands used ts ws h =
      let words : List ℕ = used ++ (HEADER_SCALE * length ws) ∷ ws in
      let there : WordsAt words (length used) ((HEADER_SCALE * length ws) ∷ ws) = words_behind used ((HEADER_SCALE * length ws) ∷ ws) in
      let start : StartsWith words used = ((HEADER_SCALE * length ws) ∷ ws, refl) in (
        start,
        (
          length used,
          omega (arith, length-append used ((HEADER_SCALE * length ws) ∷ ws)),
          refl,
          there.0 ∙ ap (λ n. Some (HEADER_SCALE * n)) (sym (each_many used (length used) ts ws h)),
          each_there words (length used) (suc (length used)) ts ws there.1 (each_on words used start (length used) (length used) (omega arith) ts ws h),
        ),
      )

  -- a fun behind the words of its captured values
  pub fun_stands : (used : List ℕ) (f : ℕ) (ts : List Term) (ws : List ℕ) → f < symbols.functions → EachStands symbols begin used (length used) ts ws
      → StandsIn symbols begin (used ++ (HEADER_SCALE * length ws + FUN_HEADER) ∷ (INTEGER_SCALE * f + INTEGER_TAG) ∷ ws) (length (used ++ (HEADER_SCALE * length ws + FUN_HEADER) ∷ (INTEGER_SCALE * f + INTEGER_TAG) ∷ ws)) (fun f (terms ts)) (begin + 8 * length used + OBJECT_TAG)
  fun_stands used f ts ws l h =
      let new : List ℕ = (HEADER_SCALE * length ws + FUN_HEADER) ∷ (INTEGER_SCALE * f + INTEGER_TAG) ∷ ws in
      let there : WordsAt (used ++ new) (length used) new = words_behind used new in (
        length used,
        omega (arith, length-append used new),
        refl,
        there.0 ∙ ap (λ n. Some (HEADER_SCALE * n + FUN_HEADER)) (sym (each_many used (length used) ts ws h)),
        l,
        there.1.0,
        each_there (used ++ new) (length used) (suc (suc (length used))) ts ws there.1.1 (each_on (used ++ new) used (new, refl) (length used) (length used) (omega arith) ts ws h),
      )

  abbrev Stands : Term → Built → Type 0
  Stands t b = StandsIn symbols begin b.1 (length b.1) t b.0

  pub cell_stands : (t u : Term) (w : ℕ) (rest : Built) → StandsIn symbols begin rest.1 (length rest.1) t w → Stands u rest → StartsWith (cell_built begin w rest).1 rest.1 × Stands (cons t u) (cell_built begin w rest)
  cell_stands t u w rest h k =
      let words : List ℕ = rest.1 ++ w ∷ rest.0 ∷ [] in
      let there : WordsAt words (length rest.1) (w ∷ rest.0 ∷ []) = words_behind rest.1 (w ∷ rest.0 ∷ []) in
      let start : StartsWith words rest.1 = (w ∷ rest.0 ∷ [], refl) in (
        start,
        (
          length rest.1,
          omega (arith, length-append rest.1 (w ∷ rest.0 ∷ [])),
          refl,
          w,
          rest.0,
          there.0,
          there.1.0,
          stands_on words rest.1 start (length rest.1) (length rest.1) (omega arith) t w h,
          stands_on words rest.1 start (length rest.1) (length rest.1) (omega arith) u rest.0 k,
        ),
      )

  -- a list's cells behind all its elements and its tail
  pub cells_stand : (ts : List Term) (ws : List ℕ) (u : Term) (tail : Built) → EachStands symbols begin tail.1 (length tail.1) ts ws → Stands u tail
      → StartsWith (cells_built begin ws tail).1 tail.1 × Stands (cells ts u) (cells_built begin ws tail)
  cells_stand [] [] u tail h k = (starts_same tail.1, k)
  cells_stand [] (w ∷ ws) u tail h k = absurd h
  cells_stand (t ∷ ts) [] u tail h k = absurd h
  cells_stand (t ∷ ts) (w ∷ ws) u tail h k =
      let rest : Built = cells_built begin ws tail in
      let behind : StartsWith rest.1 tail.1 × Stands (cells ts u) rest = cells_stand ts ws u tail h.1 k in
      let cell : StartsWith (cell_built begin w rest).1 rest.1 × Stands (cons t (cells ts u)) (cell_built begin w rest)
      = cell_stands t (cells ts u) w rest (stands_on rest.1 tail.1 behind.0 (length tail.1) (length rest.1) (starts_longer rest.1 tail.1 behind.0) t w h.0) behind.1 in
      (starts_then (cell_built begin w rest).1 rest.1 tail.1 cell.0 behind.0, cell.1)
